-- Peaks fall into groups one after another.
use Rattle.std.proofs.Common.{◌≡◌, ℕ, Bool, true, false, cond, ◌&&◌, nat_le, nat_lt, ◌<◌, ◌≤◌, List, [], ◌∷◌, ◌++◌, map, filter, ap, ap₂, sym, ◌∙◌, append-nil}
use Rattle.std.proofs.Common.{append_assoc, arith, le-leb, lt-ltb, le-ltb, Result, Ok, Err, IfOk}
use Rattle.std.proofs.lemmas.Bool.{lt-leb, and_left, and_right, and_from}
use Rattle.std.proofs.lemmas.List.{map-append}
use Rattle.merkle_base.specs.Tree.{Tree, position, height, first_leaf, end_leaf}
use Rattle.merkle_base.proofs.Growth.{forest_grown}
use Rattle.merkle_base.proofs.Nodes.{width_pos}
use Rattle.merkle_root_theory.specs.Plan.{tree_meets, siblings}
use Rattle.merkle_root_theory.specs.Range.{overlapping, wholly_after}
use Rattle.merkle_base.proofs.PeakLists.{filter_yes, filter_no}
use Rattle.merkle_hasher.specs.Subtrees.{IsNodeOf}
use Rattle.merkle_hasher.specs.declared.subtree.Subtree.{Subtree}
use Rattle.merkle_hasher.specs.Subtrees.{subtree_of}
use Rattle.merkle_hasher.specs.Subtrees.{Denotes}
use Rattle.merkle_root_theory.proofs.Walks.{siblings_unmet}
use Rattle.merkle_base.specs.Places.{wholly_before}

-- a weaker fact of the same result
pub if_ok : {T E : Type 0} {P Q : T → Type 0} (r : Result T E) → ((x : T) → P x → Q x) → IfOk r P → IfOk r Q
if_ok (Ok x) f h = f x h
if_ok (Err e) f h = tt

-- and one of two facts of it
pub if_ok_both : {T E : Type 0} {P Q R : T → Type 0} (r : Result T E) → ((x : T) → P x → Q x → R x) → IfOk r P → IfOk r Q → IfOk r R
if_ok_both (Ok x) f p q = f x p q
if_ok_both (Err e) f p q = tt

pub none_more : (xs : List ℕ) (ts : List Tree) → ts ≡ [] → xs ≡ xs ++ map position ts
none_more xs ts e = sym (append-nil xs) ∙ ap (λ z. xs ++ map position z) (sym e)

pub outside_positions : (rule : List ℕ → List ℕ) (m p s tall : ℕ) (c : ℕ → Bool) (t : Tree) → IsNodeOf rule m p tall s t → tree_meets c t ≡ false → p ∷ [] ≡ map position (siblings c t)
outside_positions rule m p s tall c t w e = ap (λ q. q ∷ []) (sym ((forest_grown rule m).placed p t w.at)) ∙ ap (map position) (sym (siblings_unmet c t e))

filter_push_yes : (p : Tree → Bool) (xs : List Tree) (t : Tree) → p t ≡ true → filter p (xs ++ t ∷ []) ≡ filter p xs ++ t ∷ []
filter_push_yes p [] t e = filter_yes p t [] e
filter_push_yes p (x ∷ xs) t e = both (p x) (filter_push_yes p xs t e)
  where
    both : (b : Bool) → filter p (xs ++ t ∷ []) ≡ filter p xs ++ t ∷ [] → cond b (x ∷ filter p (xs ++ t ∷ [])) (filter p (xs ++ t ∷ [])) ≡ cond b (x ∷ filter p xs) (filter p xs) ++ t ∷ []
    both true h = ap (λ z. x ∷ z) h
    both false h = h

filter_push_no : (p : Tree → Bool) (xs : List Tree) (t : Tree) → p t ≡ false → filter p (xs ++ t ∷ []) ≡ filter p xs
filter_push_no p [] t e = filter_no p t [] e
filter_push_no p (x ∷ xs) t e = ap (λ z. cond (p x) (x ∷ z) z) (filter_push_no p xs t e)

module _ (a b : ℕ) (done : List Tree) (t : Tree) where
  pub before_yes : end_leaf t ≤ a → wholly_before a (done ++ t ∷ []) ≡ wholly_before a done ++ t ∷ []
  before_yes l = filter_push_yes (λ t. nat_le (end_leaf t) a) done t (le-leb (end_leaf t) a l)

  pub before_no : a < end_leaf t → wholly_before a (done ++ t ∷ []) ≡ wholly_before a done
  before_no l = filter_push_no (λ t. nat_le (end_leaf t) a) done t (lt-leb (end_leaf t) a l)

  pub over_yes : first_leaf t < b → a < end_leaf t → overlapping a b (done ++ t ∷ []) ≡ overlapping a b done ++ t ∷ []
  over_yes l u = filter_push_yes (λ t. nat_lt (first_leaf t) b && nat_lt a (end_leaf t)) done t (and_from _ _ (lt-ltb (first_leaf t) b l) (lt-ltb a (end_leaf t) u))

  pub over_no_before : end_leaf t ≤ a → overlapping a b (done ++ t ∷ []) ≡ overlapping a b done
  over_no_before l = filter_push_no (λ t. nat_lt (first_leaf t) b && nat_lt a (end_leaf t)) done t (and_right _ _ (le-ltb a (end_leaf t) l))

  pub over_no_after : b ≤ first_leaf t → overlapping a b (done ++ t ∷ []) ≡ overlapping a b done
  over_no_after l = filter_push_no (λ t. nat_lt (first_leaf t) b && nat_lt a (end_leaf t)) done t (and_left _ _ (le-ltb (first_leaf t) b l))

  pub after_yes : b ≤ first_leaf t → wholly_after b (done ++ t ∷ []) ≡ wholly_after b done ++ t ∷ []
  after_yes l = filter_push_yes (λ t. nat_le b (first_leaf t)) done t (le-leb b (first_leaf t) l)

  pub after_no : first_leaf t < b → wholly_after b (done ++ t ∷ []) ≡ wholly_after b done
  after_no l = filter_push_no (λ t. nat_le b (first_leaf t)) done t (lt-leb b (first_leaf t) l)

  -- a peak before the range comes before all those after it
  pub outside_before : end_leaf t ≤ a → a < b → wholly_after b done ≡ [] → wholly_before a (done ++ t ∷ []) ++ wholly_after b (done ++ t ∷ []) ≡ (wholly_before a done ++ wholly_after b done) ++ t ∷ []
  outside_before l m none =
      ap₂ ◌++◌ (before_yes l) (after_no (omega (arith, l, m, width_pos t)) ∙ none) ∙ append-nil (wholly_before a done ++ t ∷ [])
      ∙ ap (λ z. z ++ t ∷ []) (sym (ap (λ z. wholly_before a done ++ z) none ∙ append-nil (wholly_before a done)))

  pub outside_after : a < end_leaf t → b ≤ first_leaf t → wholly_before a (done ++ t ∷ []) ++ wholly_after b (done ++ t ∷ []) ≡ (wholly_before a done ++ wholly_after b done) ++ t ∷ []
  outside_after l m = ap₂ ◌++◌ (before_no l) (after_yes m) ∙ sym (append_assoc (wholly_before a done) (wholly_after b done) (t ∷ []))

  pub outside_over : a < end_leaf t → first_leaf t < b → wholly_before a (done ++ t ∷ []) ++ wholly_after b (done ++ t ∷ []) ≡ wholly_before a done ++ wholly_after b done
  outside_over l m = ap₂ ◌++◌ (before_no l) (after_no m)

-- a subtree is known by its node
pub subtree_is : {F : Type 0} (rule : List ℕ → List ℕ) (m : ℕ) (s : Subtree F) (t : Tree) → Denotes rule m s t → s ≡ subtree_of t
subtree_is {F = F} rule m s t w =
    let make : ℕ → ℕ → ℕ → Subtree F = λ p h n. record { position = p; height = h; first_leaf = n } in
    ap (λ p. make p s.height s.first_leaf) (sym ((forest_grown rule m).placed s.position t w.at))
    ∙ ap (λ h. make (position t) h s.first_leaf) (sym w.height_is) ∙ ap (make (position t) (height t)) (sym w.first_is)

-- one more subtree, one more position
pub push_subtree : {F : Type 0} (rule : List ℕ → List ℕ) (m : ℕ) (s : Subtree F) (t : Tree) → Denotes rule m s t
    → (xs ys : List (Subtree F)) (ts us : List Tree) → ys ≡ xs ++ s ∷ [] → xs ≡ map subtree_of ts → us ≡ ts ++ t ∷ [] → ys ≡ map subtree_of us
push_subtree rule m s t w xs ys ts us e h u = e ∙ ap₂ (λ z x. z ++ x ∷ []) h (subtree_is rule m s t w) ∙ sym (map-append subtree_of ts (t ∷ [])) ∙ ap (map subtree_of) (sym u)

pub push_position : {F : Type 0} (rule : List ℕ → List ℕ) (m : ℕ) (s : Subtree F) (t : Tree) → Denotes rule m s t
    → (xs ys : List ℕ) (ts us : List Tree) → ys ≡ xs ++ s.position ∷ [] → xs ≡ map position ts → us ≡ ts ++ t ∷ [] → ys ≡ map position us
push_position rule m s t w xs ys ts us e h u = e ∙ ap₂ (λ z x. z ++ x ∷ []) h (sym ((forest_grown rule m).placed s.position t w.at)) ∙ sym (map-append position ts (t ∷ [])) ∙ ap (map position) (sym u)
