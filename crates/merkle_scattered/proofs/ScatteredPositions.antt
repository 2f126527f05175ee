-- A walk that reads the nodes beside scattered leaves, each once, step by step.
use Rattle.std.proofs.Common.{◌≡◌, ◌≢◌, ℕ, zero, suc, Bool, true, false, cond, ◌<◌, ◌≤◌, nat_le, nat_lt, List, [], ◌∷◌, ◌++◌, length, map, filter, flat_map}
use Rattle.std.proofs.Common.{take, drop, get_or, refl, ap, ap₂, sym, ◌∙◌, arith, append-nil, append_assoc}
use Rattle.std.specs.List.{AllWithin}
use Rattle.std.specs.List.Sorted.{IsNonDecreasing}
use Rattle.std.proofs.lemmas.Bool.Decides.{nat_tests}
use Rattle.std.proofs.lemmas.List.{map-append}
use Rattle.std.proofs.lemmas.List.Concat.{flat_map-append}
use Rattle.merkle_base.specs.Tree.{Tree, leaf, join, position, first_leaf, end_leaf}
use Rattle.merkle_base.proofs.Growth.{forest_grown}
use Rattle.merkle_hasher.specs.declared.subtree.Subtree.{Subtree}
use Rattle.merkle_hasher.specs.Subtrees.{IsNodeOf, subtree_of}
use Rattle.merkle_forest_theory.specs.Ascending.{AscendsFrom}
use Rattle.merkle_scattered.specs.MultiPositions.{those_before, those_from, under, are_some, node_if, read_below, read_in}

-- ---- locations that ascend
ascends_at : (a : ℕ) (is : List ℕ) → AscendsFrom a is → (j d : ℕ) → j < length is → a ≤ get_or is j d
ascends_at a [] u j d l = absurd (omega arith)
ascends_at a (i ∷ is) u zero d l = u.0
ascends_at a (i ∷ is) u (suc j) d l = omega (arith, u.0, ascends_at (suc i) is u.1 j d (omega (arith, l)))

pub ascends_never_falls : (a : ℕ) (is : List ℕ) → AscendsFrom a is → IsNonDecreasing is
ascends_never_falls a [] u j k d e l = absurd (omega arith)
ascends_never_falls a (i ∷ is) u zero zero d e l = omega arith
ascends_never_falls a (i ∷ is) u zero (suc k) d e l = omega (arith, ascends_at (suc i) is u.1 k d (omega (arith, l)))
ascends_never_falls a (i ∷ is) u (suc j) zero d e l = absurd (omega (arith, e))
ascends_never_falls a (i ∷ is) u (suc j) (suc k) d e l = ascends_never_falls (suc i) is u.1 j k d (omega (arith, e)) (omega (arith, l))

-- ---- a list parted where a test turns
kept : (q : ℕ → Bool) (i : ℕ) (is : List ℕ) → q i ≡ true → filter q (i ∷ is) ≡ i ∷ filter q is
kept q i is e = ap (λ z. cond z (i ∷ filter q is) (filter q is)) e

dropped : (q : ℕ → Bool) (i : ℕ) (is : List ℕ) → q i ≡ false → filter q (i ∷ is) ≡ filter q is
dropped q i is e = ap (λ z. cond z (i ∷ filter q is) (filter q is)) e

lt_from : (i e : ℕ) → nat_lt i e ≡ true → nat_le e i ≡ false
lt_from i e w = grind (arith, nat_tests, w)

not_lt_from : (i e : ℕ) → nat_lt i e ≡ false → nat_le e i ≡ true
not_lt_from i e w = grind (arith, nat_tests, w)

pub parted_at : (e : ℕ) (is : List ℕ) (k : ℕ) → AllWithin (λ i. nat_lt i e ≡ true) is 0 k → AllWithin (λ i. nat_lt i e ≡ false) is k (length is) → k ≤ length is
    → (take k is ≡ those_before e is) × (drop k is ≡ those_from e is)
parted_at e [] zero f b l = (refl, refl)
parted_at e [] (suc k) f b l = absurd (omega (arith, l))
parted_at e (i ∷ is) zero f b l =
    let w = parted_at e is zero (λ j d x y. absurd (omega (arith, y))) (λ j d x y. b (suc j) d (omega arith) (omega (arith, y))) (omega arith) in
    let x : nat_lt i e ≡ false = b 0 0 (omega arith) (omega arith) in
    (w.0 ∙ sym (dropped (λ i. nat_lt i e) i is x), ap (λ z. i ∷ z) w.1 ∙ sym (kept (λ i. nat_le e i) i is (not_lt_from i e x)))
parted_at e (i ∷ is) (suc k) f b l =
    let w = parted_at e is k (λ j d x y. f (suc j) d (omega arith) (omega (arith, y))) (λ j d x y. b (suc j) d (omega (arith, x)) (omega (arith, y))) (omega (arith, l)) in
    let x : nat_lt i e ≡ true = f 0 0 (omega arith) (omega arith) in
    (ap (λ z. i ∷ z) w.0 ∙ sym (kept (λ i. nat_lt i e) i is x), w.1 ∙ sym (dropped (λ i. nat_le e i) i is (lt_from i e x)))

-- ---- what is read below a node
pub none_below : (t : Tree) (is : List ℕ) → length is ≡ 0 → read_below is t ≡ []
none_below (leaf p i) is e = refl
none_below (join p l r) [] e = ap₂ (λ us vs. us ++ [] ++ vs ++ []) (none_below l [] refl) (none_below r [] refl)
none_below (join p l r) (i ∷ is) e = absurd (omega (arith, e))

if_position : (b : Bool) (p : ℕ) (t : Tree) → position t ≡ p → cond b (p ∷ []) [] ≡ map position (node_if b t)
if_position true p t e = ap (λ q. q ∷ []) (sym e)
if_position false p t e = refl

-- the positions of further nodes
two_more : (o a z : List ℕ) (ts us : List Tree) → a ≡ o ++ map position ts → z ≡ a ++ map position us → z ≡ o ++ map position (ts ++ us)
two_more o a z ts us x y = y ∙ ap (λ q. q ++ map position us) x ∙ append_assoc o (map position ts) (map position us) ∙ ap (λ q. o ++ q) (sym (map-append position ts us))

four_more : (o a f z e : List ℕ) (ts us vs ws : List Tree) → a ≡ o ++ map position ts → f ≡ a ++ map position us → z ≡ f ++ map position vs → e ≡ z
    ++ map position ws → e ≡ o ++ map position (ts ++ us ++ vs ++ ws)
four_more o a f z e ts us vs ws x y u v = two_more o z e (ts ++ us ++ vs) ws (two_more o f z (ts ++ us) vs (two_more o a f ts us x y) u) v

module _ (rule : List ℕ → List ℕ) (m p s tall : ℕ) where
  pub nothing_below : (is : List ℕ) (t : Tree) → IsNodeOf rule m p tall s t → tall ≡ 0 → read_below is t ≡ []
  nothing_below is (leaf q i) w e = refl
  nothing_below is (join q l r) w e = absurd (omega (arith, w.height_is, e))

  pub inner_below : (is : List ℕ) (t : Tree) → IsNodeOf rule m p tall s t → tall ≢ 0 → (first second : List ℕ) (lp lh ls rp rh rs : ℕ) → (first ≡ those_before rs is) × (second ≡ those_from rs is)
      → ((q : ℕ) (l r : Tree) → IsNodeOf rule m p tall s (join q l r) → IsNodeOf rule m lp lh ls l × IsNodeOf rule m rp rh rs r)
      → (b c : Bool) → b ≡ are_some second → c ≡ are_some first → (o a f z e : List ℕ)
      → ((t : Tree) → IsNodeOf rule m lp lh ls t → a ≡ o ++ map position (read_below first t)) → f ≡ a ++ cond b (lp ∷ []) []
      → ((t : Tree) → IsNodeOf rule m rp rh rs t → z ≡ f ++ map position (read_below second t)) → e ≡ z ++ cond c (rp ∷ []) []
      → e ≡ o ++ map position (read_below is t)
  inner_below is (leaf q i) w tall_is first second lp lh ls rp rh rs parts f_children b c bs cs o a f z e x y u v = absurd (tall_is (omega (arith, w.height_is)))
  inner_below is (join q l r) w tall_is first second lp lh ls rp rh rs parts f_children b c bs cs o a f z e x y u v =
      let k = f_children q l r w in
      let start : rs ≡ first_leaf r = sym k.1.first_is in
      let first_is : first ≡ those_before (first_leaf r) is = parts.0 ∙ ap (λ (n : ℕ). those_before n is) start in
      let second_is : second ≡ those_from (first_leaf r) is = parts.1 ∙ ap (λ (n : ℕ). those_from n is) start in
      let left : cond b (lp ∷ []) [] ≡ map position (node_if (are_some second) l) = ap (λ z. cond z (lp ∷ []) []) bs ∙ if_position (are_some second) lp l ((forest_grown rule m).placed lp l k.0.at) in
      let right : cond c (rp ∷ []) [] ≡ map position (node_if (are_some first) r) = ap (λ z. cond z (rp ∷ []) []) cs ∙ if_position (are_some first) rp r ((forest_grown rule m).placed rp r k.1.at) in
      four_more o a f z e (read_below first l) (node_if (are_some second) l) (read_below second r) (node_if (are_some first) r)
      (x l k.0) (y ∙ ap (λ z. a ++ z) left) (u r k.1) (v ∙ ap (λ y. z ++ y) right)
      ∙ ap₂ (λ is js. o ++ map position (read_below is l ++ node_if (are_some js) l ++ read_below js r ++ node_if (are_some is) r)) first_is second_is

-- ---- a walk over the peaks: the nodes of the peaks so far, and the locations that are left
abbrev pub Collected : List ℕ → List ℕ → List ℕ → ℕ → List Tree → Type 0
Collected is out rest begin done = (out ≡ map position (flat_map (read_in is) done)) × (rest ≡ those_from begin is)

pub collected_none : (is out : List ℕ) → out ≡ [] → Collected is out is 0 []
collected_none is out e = (e, sym (all_from is))
  where
    all_from : (is : List ℕ) → those_from 0 is ≡ is
    all_from [] = refl
    all_from (i ∷ is) = kept (λ i. nat_le 0 i) i is (grind (arith, nat_tests)) ∙ ap (λ z. i ∷ z) (all_from is)

from_later : (a e : ℕ) → a ≤ e → (is : List ℕ) → those_from e (those_from a is) ≡ those_from e is
from_later a e l [] = refl
from_later a e l (i ∷ is) = both (nat_le a i) (nat_le e i) refl refl (from_later a e l is)
  where
    both : (b c : Bool) → nat_le a i ≡ b → nat_le e i ≡ c → those_from e (those_from a is) ≡ those_from e is
        → those_from e (cond b (i ∷ those_from a is) (those_from a is)) ≡ cond c (i ∷ those_from e is) (those_from e is)
    both true true x y h = kept (λ i. nat_le e i) i (those_from a is) y ∙ ap (λ z. i ∷ z) h
    both true false x y h = dropped (λ i. nat_le e i) i (those_from a is) y ∙ h
    both false false x y h = h
    both false true x y h = absurd (grind (arith, nat_tests, x, y, l))

module _ {F : Type 0} (peak : Subtree F) (t : Tree) (is_tree : peak ≡ subtree_of t) (is rest : List ℕ) (e : ℕ) (end : e ≡ end_leaf t) where
  pub collected_more : (first second : List ℕ) → (first ≡ those_before e rest) × (second ≡ those_from e rest) → (b : Bool) → b ≡ nat_lt (length first) (length is) → (out middle new : List ℕ)
      → middle ≡ out ++ map position (read_below first t) → new ≡ middle ++ cond b (peak.position ∷ []) [] → (done : List Tree)
      → Collected is out rest (first_leaf t) done → Collected is new second (end_leaf t) (done ++ t ∷ [])
  collected_more first second parts b bs out middle new x y done c =
      let first_is : first ≡ under t is = parts.0 ∙ ap₂ (λ (n : ℕ) z. those_before n z) end c.1 in
      let own : cond b (peak.position ∷ []) [] ≡ map position (node_if (nat_lt (length first) (length is)) t) =
      ap (λ z. cond z (peak.position ∷ []) []) bs ∙ if_position (nat_lt (length first) (length is)) peak.position t (sym (ap (λ (s : Subtree F). s.position) is_tree)) in (
        two_more out middle new (read_below first t) (node_if (nat_lt (length first) (length is)) t) x (y ∙ ap (λ z. middle ++ z) own)
            ∙ ap₂ (λ z us. z ++ map position (read_below us t ++ node_if (nat_lt (length us) (length is)) t)) c.0 first_is
            ∙ sym (map-append position (flat_map (read_in is) done) (read_in is t))
            ∙ ap (map position) (sym (flat_map-append (read_in is) done (t ∷ []) ∙ ap (λ z. flat_map (read_in is) done ++ z) (append-nil (read_in is t)))),
        parts.1 ∙ ap₂ (λ (n : ℕ) z. those_from n z) end c.1 ∙ from_later (first_leaf t) (end_leaf t) (omega arith) is,
      )
