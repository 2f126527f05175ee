-- Walks over a tree, step by step.
use Rattle.std.proofs.Common.{◌≡◌, ℕ, Bool, true, false, cond, nat_le, nat_lt, Some, slice_get, ◌+◌, ◌-◌, ◌<◌, ◌≤◌, ◌≢◌, List, [], ◌∷◌, ◌++◌, length, drop}
use Rattle.std.proofs.Common.{get_or, arith, refl, ap, ap₂, sym, ◌∙◌, length-append, drop-drop, leb-true, ltb-true, append-nil}
use Rattle.std.proofs.lemmas.List.{length-drop}
use Rattle.std.proofs.lemmas.Option.{get_or_from_slice_get, slice_get_read}
use Rattle.std.proofs.Common.{map, append_assoc, le-leb, lt-ltb}
use Rattle.std.proofs.lemmas.List.{map-append}
use Rattle.merkle_base.specs.Tree.{IsBuilt}
use Rattle.merkle_base.proofs.Nodes.{width_pos}
use Rattle.merkle_root_theory.proofs.PeakGroups.{meets_yes}
use Rattle.std.proofs.lemmas.Bool.{and_parts, and_from}
use Rattle.std.proofs.lemmas.Grind.{flat_map-append}
use Rattle.std.specs.List.{flat_map}
use Rattle.merkle_base.specs.Tree.{Tree, leaf, join, position, first_leaf, width}
use Rattle.merkle_base.proofs.Growth.{forest_grown}
use Rattle.merkle_base.specs.Hashing.{Hashing}
use Rattle.merkle_root_theory.specs.Expression.{Node, supplied, computed, value}
use Rattle.merkle_root_theory.specs.Plan.{tree_meets, siblings}
use Rattle.merkle_root_theory.specs.Claim.{next, tree_claim}
use Rattle.merkle_root_theory.specs.Check.{in_range}
use Rattle.merkle_hasher.specs.Subtrees.{IsNodeOf}
use Rattle.merkle_root_theory.specs.Walk.{leaf_from}
use Rattle.merkle_root_theory.specs.Walk.{IsWalked}

pub in_from : (a b i : ℕ) → in_range a b i ≡ true → a ≤ i
in_from a b i e = leb-true a i (and_parts (nat_le a i) (nat_lt i b) e).0

pub in_below : (a b i : ℕ) → in_range a b i ≡ true → i < b
in_below a b i e = ltb-true i b (and_parts (nat_le a i) (nat_lt i b) e).1

pub siblings_unmet : (c : ℕ → Bool) (t : Tree) → tree_meets c t ≡ false → siblings c t ≡ t ∷ []
siblings_unmet c (leaf p i) e = ap (λ z. cond z [] (leaf p i ∷ [])) e
siblings_unmet c (join p l r) e = ap (λ z. cond z (siblings c l ++ siblings c r) (join p l r ∷ [])) e

siblings_leaf : (c : ℕ → Bool) (p i : ℕ) → c i ≡ true → siblings c (leaf p i) ≡ []
siblings_leaf c p i e = ap (λ z. cond z [] (leaf p i ∷ [])) e

pub siblings_join : (c : ℕ → Bool) (p : ℕ) (l r : Tree) → tree_meets c (join p l r) ≡ true → siblings c (join p l r) ≡ siblings c l ++ siblings c r
siblings_join c p l r e = ap (λ z. cond z (siblings c l ++ siblings c r) (join p l r ∷ [])) e

pub flat_push : (c : ℕ → Bool) (ts : List Tree) (t : Tree) → flat_map (siblings c) (ts ++ t ∷ []) ≡ flat_map (siblings c) ts ++ siblings c t
flat_push c ts t = flat_map-append (siblings c) ts (t ∷ []) ∙ ap (λ z. flat_map (siblings c) ts ++ z) (append-nil (siblings c t))

-- the positions of the siblings of one more tree, after others
pub more_siblings : (c : ℕ → Bool) (ts us : List Tree) (t : Tree) (out xs ys : List ℕ) → us ≡ ts ++ t ∷ [] → xs ≡ out
    ++ map position (flat_map (siblings c) ts) → ys ≡ xs ++ map position (siblings c t) → ys ≡ out ++ map position (flat_map (siblings c) us)
more_siblings c ts us t out xs ys u e f =
    f ∙ ap (λ z. z ++ map position (siblings c t)) e ∙ append_assoc out (map position (flat_map (siblings c) ts)) (map position (siblings c t))
    ∙ ap (λ z. out ++ z) (sym (map-append position (flat_map (siblings c) ts) (siblings c t)) ∙ ap (map position) (sym (flat_push c ts t)) ∙ ap (λ z. map position (flat_map (siblings c) z)) (sym u))

module _ {D : Type 0} (h : Hashing D) (c : ℕ → Bool) (X : ℕ → D) where
  claim_unmet : (t : Tree) (ds : List D) → tree_meets c t ≡ false → tree_claim h c X t ds ≡ supplied (next h ds)
  claim_unmet (leaf p i) ds e = ap (λ z. cond z (supplied (X i)) (supplied (next h ds))) e
  claim_unmet (join p l r) ds e = ap (λ z. cond z (computed (Node p) (tree_claim h c X l ds) (tree_claim h c X r (drop (length (siblings c l)) ds))) (supplied (next h ds))) e

  claim_join : (p : ℕ) (l r : Tree) (ds : List D) → tree_meets c (join p l r) ≡ true
      → tree_claim h c X (join p l r) ds ≡ computed (Node p) (tree_claim h c X l ds) (tree_claim h c X r (drop (length (siblings c l)) ds))
  claim_join p l r ds e = ap (λ z. cond z (computed (Node p) (tree_claim h c X l ds) (tree_claim h c X r (drop (length (siblings c l)) ds))) (supplied (next h ds))) e

  pub walk_outside : (t : Tree) (ds : List D) (d : D) (rest : List D) → tree_meets c t ≡ false → ds ≡ d ∷ rest → IsWalked h c X t ds d rest
  walk_outside t ds d rest e s = record {
    digest = ap (next h) (sym s) ∙ ap (value h) (sym (claim_unmet t ds e));
    enough = omega (arith, ap length (siblings_unmet c t e), ap length s);
    rest = sym (ap₂ drop (ap length (siblings_unmet c t e)) s);
  }

  pub short_outside : (t : Tree) (ds : List D) → tree_meets c t ≡ false → ds ≡ [] → length ds < length (siblings c t)
  short_outside t ds e s = omega (arith, ap length (siblings_unmet c t e), ap length s)

  pub walk_leaf : (p i : ℕ) (ds : List D) (d : D) → c i ≡ true → d ≡ X i → IsWalked h c X (leaf p i) ds d ds
  walk_leaf p i ds d e s = record {
    digest = s ∙ ap (λ z. value h (cond z (supplied (X i)) (supplied (next h ds)))) (sym e);
    enough = omega (arith, ap length (siblings_leaf c p i e));
    rest = sym (ap (λ n. drop n ds) (ap length (siblings_leaf c p i e)));
  }

  pub walk_join : (p : ℕ) (l r : Tree) (ds mid rest : List D) (x y d : D) → tree_meets c (join p l r) ≡ true → IsWalked h c X l ds x mid
      → IsWalked h c X r mid y rest → d ≡ h.node p x y → IsWalked h c X (join p l r) ds d rest
  walk_join p l r ds mid rest x y d e u v s = record {
    digest = s ∙ ap₂ (h.node p) u.digest (v.digest ∙ ap (λ z. value h (tree_claim h c X r z)) u.rest) ∙ ap (value h) (sym (claim_join p l r ds e));
    enough = let k = ap length (siblings_join c p l r e) in let n = length-append (siblings c l) (siblings c r) in let w = ap length u.rest in let q =
        length-drop (length (siblings c l)) ds in omega (arith, k, n, w, q, u.enough, v.enough);
    rest = v.rest ∙ ap (drop (length (siblings c r))) u.rest ∙ drop-drop (length (siblings c r)) (length (siblings c l)) ds
        ∙ ap (λ n. drop n ds) (sym (ap length (siblings_join c p l r e) ∙ length-append (siblings c l) (siblings c r)));
  }

  pub short_left : (p : ℕ) (l r : Tree) (ds : List D) → tree_meets c (join p l r) ≡ true → length ds < length (siblings c l) → length ds < length (siblings c (join p l r))
  short_left p l r ds e s = omega (arith, ap length (siblings_join c p l r e), length-append (siblings c l) (siblings c r))

  pub short_right : (p : ℕ) (l r : Tree) (ds mid : List D) (x : D) → tree_meets c (join p l r) ≡ true → IsWalked h c X l ds x mid
      → length mid < length (siblings c r) → length ds < length (siblings c (join p l r))
  short_right p l r ds mid x e u s = omega (arith, ap length (siblings_join c p l r e), length-append (siblings c l) (siblings c r), ap length u.rest, length-drop (length (siblings c l)) ds, u.enough)

module _ (rule : List ℕ → List ℕ) (m p s : ℕ) (tall : ℕ) where
  -- a met leaf lies in the range
  pub leaf_in_range : (a b : ℕ) (t : Tree) → IsNodeOf rule m p tall s t → tall ≡ 0 → tree_meets (in_range a b) t ≡ true → (a ≤ s) × (s < b)
  leaf_in_range a b (leaf q i) w e k = let x : i ≡ s = w.first_is in (omega (arith, in_from a b i k, x), omega (arith, in_below a b i k, x))
  leaf_in_range a b (join q l r) w e k = absurd (omega (arith, w.height_is, e))

  module _ {D : Type 0} (h : Hashing D) where
    pub walked_leaf : (a b : ℕ) (xs : List D) (t : Tree) → IsNodeOf rule m p tall s t → tall ≡ 0 → tree_meets (in_range a b) t ≡ true
        → (ds : List D) (r : D) (j : ℕ) → j < length xs → r ≡ get_or xs j r → j ≡ s - a → IsWalked h (in_range a b) (leaf_from h a xs) t ds r ds
    walked_leaf a b xs (leaf q i) w e k ds r j there is at =
        let x : i ≡ s = w.first_is in
        let here : slice_get xs j ≡ Some r = slice_get_read xs (length xs) j r refl there is in
        walk_leaf h (in_range a b) (leaf_from h a xs) q i ds r k
        (sym (get_or_from_slice_get xs j r h.empty here) ∙ ap (λ n. get_or xs n h.empty) (at ∙ ap (λ n. n - a) (sym x)))
    walked_leaf a b xs (join q l r) w e k ds d j there is at = absurd (omega (arith, w.height_is, e))

    module _ (c : ℕ → Bool) (X : ℕ → D) where
      pub walked_inner : (t : Tree) → IsNodeOf rule m p tall s t → tall ≢ 0 → tree_meets c t ≡ true → (ds mid rest : List D) (x y d : D)
          → ((q : ℕ) (l r : Tree) → IsNodeOf rule m p tall s (join q l r) → IsWalked h c X l ds x mid × IsWalked h c X r mid y rest) → d ≡ h.node p x y → IsWalked h c X t ds d rest
      walked_inner (leaf q i) w e k ds mid rest x y d f is = absurd (e (omega (arith, w.height_is)))
      walked_inner (join q l r) w e k ds mid rest x y d f is =
          let u = f q l r w in
          let z : q ≡ p = (forest_grown rule m).placed p (join q l r) w.at in
          walk_join h c X q l r ds mid rest x y d k u.0 u.1 (is ∙ ap (λ n. h.node n x y) (sym z))

      pub short_inner_left : (t : Tree) → IsNodeOf rule m p tall s t → tall ≢ 0 → tree_meets c t ≡ true → (ds : List D)
          → ((q : ℕ) (l r : Tree) → IsNodeOf rule m p tall s (join q l r) → length ds < length (siblings c l)) → length ds < length (siblings c t)
      short_inner_left (leaf q i) w e k ds f = absurd (e (omega (arith, w.height_is)))
      short_inner_left (join q l r) w e k ds f = short_left h c X q l r ds k (f q l r w)

      pub short_inner_right : (t : Tree) → IsNodeOf rule m p tall s t → tall ≢ 0 → tree_meets c t ≡ true → (ds mid : List D) (x : D)
          → ((q : ℕ) (l r : Tree) → IsNodeOf rule m p tall s (join q l r) → IsWalked h c X l ds x mid × (length mid < length (siblings c r))) → length ds < length (siblings c t)
      short_inner_right (leaf q i) w e k ds mid x f = absurd (e (omega (arith, w.height_is)))
      short_inner_right (join q l r) w e k ds mid x f = let u = f q l r w in short_right h c X q l r ds mid x k u.0 u.1

-- nothing of a tree in the range lies outside it
pub siblings_inside : (a b : ℕ) (ns : List Tree) (t : Tree) → IsBuilt ns t → a ≤ first_leaf t → first_leaf t + width t ≤ b → siblings (in_range a b) t ≡ []
siblings_inside a b ns (leaf q i) h l u = siblings_leaf (in_range a b) q i (and_from _ _ (le-leb a i l) (lt-ltb i b (omega arith)))
siblings_inside a b ns (join q l r) h x y =
    let m : tree_meets (in_range a b) (join q l r) ≡ true = meets_yes a b ns (join q l r) h (omega (arith, width_pos l)) (omega (arith, width_pos l)) (omega (arith, width_pos l)) in
    siblings_join (in_range a b) q l r m ∙ ap₂ ◌++◌ (siblings_inside a b ns l h.4 x (omega (arith, y))) (siblings_inside a b ns r h.5 (omega (arith, x, h.3)) (omega (arith, y, h.3)))

module _ (rule : List ℕ → List ℕ) (m p s : ℕ) (tall : ℕ) where
  pub siblings_met_leaf : (c : ℕ → Bool) (t : Tree) → IsNodeOf rule m p tall s t → tall ≡ 0 → tree_meets c t ≡ true → siblings c t ≡ []
  siblings_met_leaf c (leaf q i) w e k = siblings_leaf c q i k
  siblings_met_leaf c (join q l r) w e k = absurd (omega (arith, w.height_is, e))

  -- the positions outside of a tree are those of its children
  pub siblings_inner : (c : ℕ → Bool) (t : Tree) → IsNodeOf rule m p tall s t → tall ≢ 0 → tree_meets c t ≡ true → (xs ys zs : List ℕ)
      → ((q : ℕ) (l r : Tree) → IsNodeOf rule m p tall s (join q l r) → (ys ≡ xs ++ map position (siblings c l)) × (zs ≡ ys ++ map position (siblings c r))) → zs ≡ xs ++ map position (siblings c t)
  siblings_inner c (leaf q i) w e k xs ys zs f = absurd (e (omega (arith, w.height_is)))
  siblings_inner c (join q l r) w e k xs ys zs f =
      let u = f q l r w in
      u.1 ∙ ap (λ z. z ++ map position (siblings c r)) u.0 ∙ append_assoc xs (map position (siblings c l)) (map position (siblings c r))
      ∙ ap (λ z. xs ++ z) (sym (map-append position (siblings c l) (siblings c r)) ∙ ap (map position) (sym (siblings_join c q l r k)))
