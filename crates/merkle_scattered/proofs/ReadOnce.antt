-- A walk that reads each node once reads what the proofs of single leaves read, one after another.
use Rattle.std.proofs.Common.{◌≡◌, ℕ, suc, Bool, true, false, cond, not, ◌&&◌, ◌||◌, ◌+◌, ◌<◌, ◌≤◌, nat_eq, nat_le, nat_lt, List, [], ◌∷◌, ◌++◌, length, filter}
use Rattle.std.proofs.Common.{flat_map, Some, slice_get, inl, inr, refl, ap, ap₂, sym, ◌∙◌, subst, arith, leb-true, ltb-true}
use Rattle.std.specs.List.{AllByRecursion, list_any}
use Rattle.std.proofs.lemmas.Bool.Decides.{nat_tests}
use Rattle.std.proofs.lemmas.Bool.{cases_lt, eq-eqb, ne_eqb, le-ltb, le-leb, lt-ltb, and_parts, false≢true}
use Rattle.std.proofs.lemmas.List.Folds.{list_any-append}
use Rattle.merkle_base.specs.Tree.{Tree, leaf, join, position, first_leaf, end_leaf, IsBuilt}
use Rattle.merkle_base.specs.Forest.{forest, size}
use Rattle.merkle_base.specs.Places.{peaks_of}
use Rattle.merkle_base.proofs.Cases.{by_test}
use Rattle.merkle_base.proofs.Lists.{all_imply}
use Rattle.merkle_base.proofs.Nodes.{all_append}
use Rattle.merkle_base.proofs.PeakLists.{peaks_built}
use Rattle.merkle_root_theory.specs.Plan.{tree_meets, siblings}
use Rattle.merkle_root_theory.proofs.Walks.{siblings_unmet, siblings_join}
use Rattle.merkle_claim_theory.specs.Multiproof.{one_leaf_nodes, is_one_leaf_position, multi_positions}
use Rattle.merkle_scattered.specs.MultiPositions.{those_before, those_from, under, are_some, node_if, read_below, read_in, positions_read}
use Rattle.merkle_scattered.specs.Positions.{IsAscendingOf}
use Rattle.merkle_scattered.proofs.AscendingPositions.{stands, positions_below, ascending_filter}
use Rattle.merkle_scattered.proofs.ScatteredElements.{met_at}

-- ---- tests of the numbers of a list
any_alike : (P : ℕ → Type 0) (f g : ℕ → Bool) → ((i : ℕ) → P i → f i ≡ g i) → (is : List ℕ) → AllByRecursion P is → list_any f is ≡ list_any g is
any_alike P f g e [] h = refl
any_alike P f g e (i ∷ is) h = ap₂ ◌||◌ (e i h.0) (any_alike P f g e is h.1)

none_any : (is : List ℕ) → list_any (λ _. false) is ≡ false
none_any [] = refl
none_any (i ∷ is) = none_any is

or_crossed : (a b c d : Bool) → ((a || b) || (c || d)) ≡ ((a || c) || (b || d))
or_crossed true b c d = refl
or_crossed false true true d = refl
or_crossed false true false d = refl
or_crossed false false c d = refl

any_both : (f g : ℕ → Bool) (is : List ℕ) → list_any (λ i. f i || g i) is ≡ (list_any f is || list_any g is)
any_both f g [] = refl
any_both f g (i ∷ is) = ap (λ z. (f i || g i) || z) (any_both f g is) ∙ or_crossed (f i) (g i) (list_any f is) (list_any g is)

none_and : (b : Bool) → (b && false) ≡ false
none_and true = refl
none_and false = refl

some_any : (b : Bool) (is : List ℕ) → list_any (λ _. b) is ≡ (are_some is && b)
some_any b [] = refl
some_any true (i ∷ is) = ap (λ z. not z && true) (sym (ne_eqb (suc (length is)) 0 (λ e. absurd (omega (arith, e)))))
some_any false (i ∷ is) = none_any is ∙ sym (none_and (are_some (i ∷ is)))

-- those before a location, and the others
any_here : (x a b : Bool) → (x || (a || b)) ≡ ((x || a) || b)
any_here true a b = refl
any_here false a b = refl

any_there : (x a b : Bool) → (x || (a || b)) ≡ (a || (x || b))
any_there true true b = refl
any_there true false b = refl
any_there false a b = refl

any_parted : (e : ℕ) (f : ℕ → Bool) (is : List ℕ) → list_any f is ≡ (list_any f (those_before e is) || list_any f (those_from e is))
any_parted e f [] = refl
any_parted e f (i ∷ is) = elim (cases_lt i e) [
  | inl l ↦ ap (λ z. f i || z) (any_parted e f is) ∙ any_here (f i) (list_any f (those_before e is)) (list_any f (those_from e is))
      ∙ sym (ap₂ (λ a b. list_any f (cond a (i ∷ those_before e is) (those_before e is)) || list_any f (cond b (i ∷ those_from e is) (those_from e is))) (lt-ltb i e l) (not_from l))
  | inr l ↦ ap (λ z. f i || z) (any_parted e f is) ∙ any_there (f i) (list_any f (those_before e is)) (list_any f (those_from e is))
      ∙ sym (ap₂ (λ a b. list_any f (cond a (i ∷ those_before e is) (those_before e is)) || list_any f (cond b (i ∷ those_from e is) (those_from e is))) (le-ltb i e l) (is_from l))
]
  where
    not_from : i < e → nat_le e i ≡ false
    not_from l = grind (arith, nat_tests, l)

    is_from : e ≤ i → nat_le e i ≡ true
    is_from l = grind (arith, nat_tests, l)

-- those that pass a test, and the others, which all have one answer
kept_least : (q : ℕ → Bool) (is : List ℕ) → length (filter q is) ≤ length is
kept_least q [] = omega arith
kept_least q (i ∷ is) = by_test (λ z. length (cond z (i ∷ filter q is) (filter q is)) ≤ length (i ∷ is)) (q i) (λ _. omega (arith, kept_least q is)) (λ _. omega (arith, kept_least q is))

any_others : (q f : ℕ → Bool) (b : Bool) → ((i : ℕ) → q i ≡ false → f i ≡ b) → (is : List ℕ) → list_any f is ≡ (list_any f (filter q is) || (nat_lt (length (filter q is)) (length is) && b))
any_others q f b e [] = refl
any_others q f b e (i ∷ is) =
    let k = length (filter q is) in
    by_test (λ z. q i ≡ z → list_any f (i ∷ is) ≡ (list_any f (cond z (i ∷ filter q is) (filter q is)) || (nat_lt (length (cond z (i ∷ filter q is) (filter q is))) (length (i ∷ is)) && b))) (q i)
    (λ _ _. ap (λ z. f i || z) (any_others q f b e is) ∙ any_here (f i) (list_any f (filter q is)) (nat_lt k (length is) && b)
    ∙ ap (λ z. (f i || list_any f (filter q is)) || (z && b)) (same_lt k (length is)))
    (λ _ w. ap₂ ◌||◌ (e i w) (any_others q f b e is) ∙ absorbed b (list_any f (filter q is)) (nat_lt k (length is))
    ∙ ap (λ z. list_any f (filter q is) || (z && b)) (sym (lt-ltb k (suc (length is)) (omega (arith, kept_least q is))))) refl
  where
    same_lt : (k n : ℕ) → nat_lt k n ≡ nat_lt (suc k) (suc n)
    same_lt k n = grind (arith, nat_tests)

    absorbed : (b a z : Bool) → (b || (a || (z && b))) ≡ (a || (true && b))
    absorbed true true z = refl
    absorbed true false z = refl
    absorbed false true z = refl
    absorbed false false true = refl
    absorbed false false false = refl

all_kept : (P : ℕ → Type 0) (q : ℕ → Bool) (is : List ℕ) → AllByRecursion P is → AllByRecursion (λ i. P i × (q i ≡ true)) (filter q is)
all_kept P q [] h = tt
all_kept P q (i ∷ is) h = by_test (λ z. q i ≡ z → AllByRecursion (λ i. P i × (q i ≡ true)) (cond z (i ∷ filter q is) (filter q is))) (q i)
    (λ _ e. ((h.0, e), all_kept P q is h.1)) (λ _ _. all_kept P q is h.1) refl

twice_kept : (q r : ℕ → Bool) (is : List ℕ) → filter q (filter r is) ≡ filter (λ i. r i && q i) is
twice_kept q r [] = refl
twice_kept q r (i ∷ is) = both (r i) (q i) (twice_kept q r is) refl
  where
    both : (a b : Bool) → filter q (filter r is) ≡ filter (λ i. r i && q i) is → q i ≡ b
        → filter q (cond a (i ∷ filter r is) (filter r is)) ≡ cond (a && b) (i ∷ filter (λ i. r i && q i) is) (filter (λ i. r i && q i) is)
    both true b h e = ap (λ z. cond z (i ∷ filter q (filter r is)) (filter q (filter r is))) e ∙ ap (λ z. cond b (i ∷ z) z) h
    both false b h e = h

-- ---- the proof of the leaf at i
abbrev only : ℕ → ℕ → Bool
only i j = nat_eq j i

abbrev IsBetween : ℕ → ℕ → ℕ → Type 0
IsBetween a b i = (a ≤ i) × (i < b)

unmet : (ns : List Tree) (c : ℕ → Bool) (t : Tree) → IsBuilt ns t → ((j : ℕ) → IsBetween (first_leaf t) (end_leaf t) j → c j ≡ false) → tree_meets c t ≡ false
unmet ns c (leaf p i) h f = f i (omega arith, omega arith)
unmet ns c (join p l r) h f =
    ap₂ ◌||◌ (unmet ns c l h.4 (λ j w. f j (w.0, omega (arith, w.1, h.3)))) (unmet ns c r h.5 (λ j w. f j (omega (arith, w.0, h.3), omega (arith, w.1, h.3))))

-- no leaf under the node
siblings_not : (ns : List Tree) (i : ℕ) (t : Tree) → IsBuilt ns t → ((j : ℕ) → IsBetween (first_leaf t) (end_leaf t) j → ¬ (j ≡ i)) → siblings (only i) t ≡ t ∷ []
siblings_not ns i t h f = siblings_unmet (only i) t (unmet ns (only i) t h (λ j w. ne_eqb j i (f j w)))

siblings_both : (ns : List Tree) (i p : ℕ) (l r : Tree) → IsBuilt ns (join p l r) → IsBetween (first_leaf l) (end_leaf (join p l r)) i
    → siblings (only i) (join p l r) ≡ siblings (only i) l ++ siblings (only i) r
siblings_both ns i p l r h w = siblings_join (only i) p l r (met_at ns (only i) i (join p l r) h w.0 w.1 (eq-eqb i i refl))

-- ---- whether a node at p is read
module _ (ns : List Tree) (p : ℕ) where
  abbrev stands_there : Tree → Bool
  stands_there u = nat_eq (position u) p

  abbrev is_read : Tree → ℕ → Bool
  is_read t i = list_any stands_there (siblings (only i) t)

  any_node : (b : Bool) (u : Tree) → list_any stands_there (node_if b u) ≡ (b && stands_there u)
  any_node true u = one (stands_there u)
    where
      one : (b : Bool) → (b || false) ≡ b
      one true = refl
      one false = refl
  any_node false u = refl

  read_left : (q i : ℕ) (l r : Tree) → IsBuilt ns (join q l r) → IsBetween (first_leaf l) (end_leaf l) i → is_read (join q l r) i ≡ (is_read l i || stands_there r)
  read_left q i l r h w =
      ap (list_any stands_there) (siblings_both ns i q l r h (w.0, omega (arith, w.1, h.3))
      ∙ ap (λ z. siblings (only i) l ++ z) (siblings_not ns i r h.5 (λ j v e. absurd (omega (arith, v.0, w.1, h.3, e)))))
      ∙ list_any-append stands_there (siblings (only i) l) (r ∷ []) ∙ ap (λ z. is_read l i || z) (any_node true r)

  read_right : (q i : ℕ) (l r : Tree) → IsBuilt ns (join q l r) → IsBetween (first_leaf r) (end_leaf r) i → is_read (join q l r) i ≡ (is_read r i || stands_there l)
  read_right q i l r h w =
      ap (list_any stands_there) (siblings_both ns i q l r h (omega (arith, w.0, h.3), omega (arith, w.1, h.3))
      ∙ ap (λ z. z ++ siblings (only i) r) (siblings_not ns i l h.4 (λ j v e. absurd (omega (arith, v.1, w.0, h.3, e)))))
      ∙ swapped (stands_there l) (is_read r i)
    where
      swapped : (a b : Bool) → (a || b) ≡ (b || a)
      swapped true true = refl
      swapped true false = refl
      swapped false true = refl
      swapped false false = refl

  -- by the leaves of one child, and the other child with it
  child_same : (is : List ℕ) (f : ℕ → Bool) (u v : Tree) (P : ℕ → Type 0) → AllByRecursion P is
      → ((i : ℕ) → P i → f i ≡ (is_read u i || stands_there v)) → list_any (is_read u) is ≡ list_any stands_there (read_below is u)
      → list_any f is ≡ (list_any stands_there (read_below is u) || list_any stands_there (node_if (are_some is) v))
  child_same is f u v P h e same =
      any_alike P f (λ i. is_read u i || stands_there v) e is h ∙ any_both (is_read u) (λ _. stands_there v) is ∙ ap₂ ◌||◌ same (some_any (stands_there v) is ∙ sym (any_node (are_some is) v))

  ordered : (a b c d : Bool) → ((a || b) || (c || d)) ≡ (((a || d) || c) || b)
  ordered true b c d = refl
  ordered false true true true = refl
  ordered false true true false = refl
  ordered false true false true = refl
  ordered false true false false = refl
  ordered false false true true = refl
  ordered false false true false = refl
  ordered false false false true = refl
  ordered false false false false = refl

  any_four : (ts us vs ws : List Tree)
      → list_any stands_there (ts ++ us ++ vs ++ ws) ≡ (((list_any stands_there ts || list_any stands_there us) || list_any stands_there vs) || list_any stands_there ws)
  any_four ts us vs ws =
      list_any-append stands_there (ts ++ us ++ vs) ws
      ∙ ap (λ z. z || list_any stands_there ws) (list_any-append stands_there (ts ++ us) vs ∙ ap (λ z. z || list_any stands_there vs) (list_any-append stands_there ts us))

  below_same : (t : Tree) → IsBuilt ns t → (is : List ℕ) → AllByRecursion (IsBetween (first_leaf t) (end_leaf t)) is → list_any (is_read t) is ≡ list_any stands_there (read_below is t)
  below_same (leaf q j) h is w =
      any_alike (IsBetween j (j + 1)) (is_read (leaf q j)) (λ _. false) (λ i v. ap (λ z. list_any stands_there (cond z [] (leaf q j ∷ []))) (eq-eqb j i (omega (arith, v.0, v.1)))) is w ∙ none_any is
  below_same (join q l r) h is w =
      let m = first_leaf r in
      let first = those_before m is in
      let second = those_from m is in
      let under_left : AllByRecursion (IsBetween (first_leaf l) (end_leaf l)) first =
      all_imply (λ i. IsBetween (first_leaf l) (end_leaf (join q l r)) i × (nat_lt i m ≡ true)) (IsBetween (first_leaf l) (end_leaf l))
      (λ i v. (v.0.0, omega (arith, ltb-true i m v.1, h.3))) first (all_kept (IsBetween (first_leaf l) (end_leaf (join q l r))) (λ i. nat_lt i m) is w) in
      let under_right : AllByRecursion (IsBetween (first_leaf r) (end_leaf r)) second =
      all_imply (λ i. IsBetween (first_leaf l) (end_leaf (join q l r)) i × (nat_le m i ≡ true)) (IsBetween (first_leaf r) (end_leaf r))
      (λ i v. (leb-true m i v.1, omega (arith, v.0.1, h.3))) second (all_kept (IsBetween (first_leaf l) (end_leaf (join q l r))) (λ i. nat_le m i) is w) in
      any_parted m (is_read (join q l r)) is
      ∙ ap₂ ◌||◌ (child_same first (is_read (join q l r)) l r (IsBetween (first_leaf l) (end_leaf l)) under_left (λ i v. read_left q i l r h v) (below_same l h.4 first under_left))
      (child_same second (is_read (join q l r)) r l (IsBetween (first_leaf r) (end_leaf r)) under_right (λ i v. read_right q i l r h v) (below_same r h.5 second under_right))
      ∙ ordered (list_any stands_there (read_below first l)) (list_any stands_there (node_if (are_some first) r))
      (list_any stands_there (read_below second r)) (list_any stands_there (node_if (are_some second) l))
      ∙ sym (any_four (read_below first l) (node_if (are_some second) l) (read_below second r) (node_if (are_some first) r))

  -- ---- peaks
  in_same : (t : Tree) → IsBuilt ns t → (is : List ℕ) → list_any (is_read t) is ≡ list_any stands_there (read_in is t)
  in_same t h is =
      let q : ℕ → Bool = λ i. nat_le (first_leaf t) i && nat_lt i (end_leaf t) in
      let same : under t is ≡ filter q is = twice_kept (λ i. nat_lt i (end_leaf t)) (λ i. nat_le (first_leaf t) i) is in
      let inside : AllByRecursion (IsBetween (first_leaf t) (end_leaf t)) (filter q is) = all_imply (λ i. Unit {0} × (q i ≡ true)) (IsBetween (first_leaf t) (end_leaf t))
      (λ i v. let b = and_parts (nat_le (first_leaf t) i) (nat_lt i (end_leaf t)) v.1 in (leb-true (first_leaf t) i b.0, ltb-true i (end_leaf t) b.1))
      (filter q is) (all_kept (λ _. Unit {0}) q is (all_units is)) in
      any_others q (is_read t) (stands_there t) (λ i e. ap (list_any stands_there) (siblings_not ns i t h (λ j v w. false≢true (sym e ∙ passes i j v w))) ∙ any_node true t) is
      ∙ ap (λ z. z || (nat_lt (length (filter q is)) (length is) && stands_there t)) (below_same t h (filter q is) inside)
      ∙ ap (λ us. list_any stands_there (read_below us t) || (nat_lt (length us) (length is) && stands_there t)) (sym same)
      ∙ ap (λ z. list_any stands_there (read_below (under t is) t) || z) (sym (any_node (nat_lt (length (under t is)) (length is)) t))
      ∙ sym (list_any-append stands_there (read_below (under t is) t) (node_if (nat_lt (length (under t is)) (length is)) t))
    where
      all_units : (is : List ℕ) → AllByRecursion (λ _. Unit {0}) is
      all_units [] = tt
      all_units (i ∷ is) = (tt, all_units is)

      passes : (i j : ℕ) → IsBetween (first_leaf t) (end_leaf t) j → j ≡ i → (nat_le (first_leaf t) i && nat_lt i (end_leaf t)) ≡ true
      passes i j v w = ap₂ ◌&&◌ (le-leb (first_leaf t) i (omega (arith, v.0, w))) (lt-ltb i (end_leaf t) (omega (arith, v.1, w)))

  all_same : (ts : List Tree) → AllByRecursion (IsBuilt ns) ts → (is : List ℕ) → list_any (is_one_leaf_position ts p) is ≡ list_any stands_there (flat_map (read_in is) ts)
  all_same [] h is = none_any is
  all_same (t ∷ ts) h is =
      any_agree (is_one_leaf_position (t ∷ ts) p) (λ i. is_read t i || is_one_leaf_position ts p i) (λ i. list_any-append stands_there (siblings (only i) t) (one_leaf_nodes i ts)) is
      ∙ any_both (is_read t) (is_one_leaf_position ts p) is
      ∙ ap₂ ◌||◌ (in_same t h.0 is) (all_same ts h.1 is)
      ∙ sym (list_any-append stands_there (read_in is t) (flat_map (read_in is) ts))
    where
      any_agree : (f g : ℕ → Bool) → ((i : ℕ) → f i ≡ g i) → (is : List ℕ) → list_any f is ≡ list_any g is
      any_agree f g e [] = refl
      any_agree f g e (i ∷ is) = ap₂ ◌||◌ (e i) (any_agree f g e is)

-- ---- each node that is read stands in the forest
module _ (ns : List Tree) where
  abbrev IsThere : Tree → Type 0
  IsThere u = slice_get ns (position u) ≡ Some u

  built_there : (t : Tree) → IsBuilt ns t → IsThere t
  built_there (leaf p i) h = h
  built_there (join p l r) h = h.0

  if_there : (b : Bool) (t : Tree) → IsBuilt ns t → AllByRecursion IsThere (node_if b t)
  if_there true t h = (built_there t h, tt)
  if_there false t h = tt

  below_there : (t : Tree) → IsBuilt ns t → (is : List ℕ) → AllByRecursion IsThere (read_below is t)
  below_there (leaf p i) h is = tt
  below_there (join p l r) h is =
      let first = those_before (first_leaf r) is in
      let second = those_from (first_leaf r) is in
      all_append IsThere (read_below first l ++ node_if (are_some second) l ++ read_below second r) (node_if (are_some first) r)
      (all_append IsThere (read_below first l ++ node_if (are_some second) l) (read_below second r)
      (all_append IsThere (read_below first l) (node_if (are_some second) l) (below_there l h.4 first) (if_there (are_some second) l h.4)) (below_there r h.5 second))
      (if_there (are_some first) r h.5)

  all_there : (ts : List Tree) → AllByRecursion (IsBuilt ns) ts → (is : List ℕ) → AllByRecursion IsThere (flat_map (read_in is) ts)
  all_there [] h is = tt
  all_there (t ∷ ts) h is =
      all_append IsThere (read_in is t) (flat_map (read_in is) ts)
      (all_append IsThere (read_below (under t is) t) (node_if (nat_lt (length (under t is)) (length is)) t) (below_there t h.0 (under t is))
      (if_there (nat_lt (length (under t is)) (length is)) t h.0))
      (all_there ts h.1 is)

-- the ascending list
pub multi_ascending : (rule : List ℕ → List ℕ) (n : ℕ) (is xs zs : List ℕ) → xs ≡ positions_read rule n is → IsAscendingOf xs zs → zs ≡ multi_positions rule n is
multi_ascending rule n is xs zs e once =
    let ts = peaks_of rule n in
    let us = flat_map (read_in is) ts in
    ascending_filter (λ p. list_any (is_one_leaf_position ts p) is) (size rule n) (positions_read rule n is) zs
    (positions_below rule n us (all_there (forest rule n).nodes ts (peaks_built rule n) is))
    (λ p. all_same (forest rule n).nodes p ts (peaks_built rule n) is ∙ stands us p)
    (subst (λ l. IsAscendingOf l zs) e once)
