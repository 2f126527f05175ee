-- A merged node that came after the first b leaves has children that came after them too, or were peaks over them.
use Rattle.std.proofs.Common.{◌≡◌, ℕ, zero, suc, ◌+◌, ◌-◌, ◌≤◌, ◌⊎◌, List, [], ◌∷◌, length, map, length-append, Some, slice_get, arith, refl, sym, inl, inr, subst, append-nil}
use Rattle.std.specs.List.{AllByRecursion}
use Rattle.merkle_base.specs.Tree.{Tree, leaf, join, height}
use Rattle.merkle_base.specs.Forest.{Forest, append_leaf, forest, size}
use Rattle.merkle_base.specs.Held.{IsHeld, ChildrenHeld}
use Rattle.merkle_base.proofs.Lists.{get_below, get_push_cases, all_from_get}
use Rattle.merkle_base.proofs.Growth.{merges_keep}
use Rattle.merkle_base.proofs.Merges.{parent_of_peaks, merge_peaks, merged, merge_all-parts}

record IsHeldForest (b : ℕ) (old : List Tree) (f : Forest) : Type 0 where
  enough : b ≤ length f.nodes
  peaks : AllByRecursion (IsHeld b old) f.peaks
  nodes : (p : ℕ) (t : Tree) → slice_get f.nodes p ≡ Some t → b ≤ p → ChildrenHeld b old t

held_joined : (b : ℕ) (old : List Tree) (p i : ℕ) (ts : List Tree) → b ≤ p → AllByRecursion (IsHeld b old) ts → AllByRecursion (IsHeld b old) (merge_peaks p i ts)
held_joined b old p i [] l h = tt
held_joined b old p zero (x ∷ []) l h = h
held_joined b old p zero (x ∷ y ∷ ts) l h = (inl l, h.1.1)
held_joined b old p (suc i) (x ∷ ts) l h = (h.0, held_joined b old p i ts l h.1)

children_joined : (b : ℕ) (old : List Tree) (p i : ℕ) (ts : List Tree) → AllByRecursion (IsHeld b old) ts → (parent_of_peaks p i ts ≡ [])
    ⊎ ((t : Tree) × (parent_of_peaks p i ts ≡ t ∷ []) × ChildrenHeld b old t)
children_joined b old p i [] h = inl refl
children_joined b old p zero (x ∷ []) h = inl refl
children_joined b old p zero (x ∷ y ∷ ts) h = inr (join p y x, refl, (h.1.0, h.0))
children_joined b old p (suc i) (x ∷ ts) h = children_joined b old p i ts h.1

held_append_leaf : (b : ℕ) (old : List Tree) (n : ℕ) (f : Forest) → IsHeldForest b old f → IsHeldForest b old (append_leaf n f)
held_append_leaf b old n f h = record {
  enough = omega (arith, h.enough, length-append f.nodes (leaf (length f.nodes) n ∷ []));
  peaks = (inl h.enough, h.peaks);
  nodes = λ p t e l. elim (get_push_cases f.nodes (leaf (length f.nodes) n) p t e) [ inl d ↦ h.nodes p t d l | inr d ↦ rw d.1 tt ];
}

held_merged : (b : ℕ) (old : List Tree) (i : ℕ) (f : Forest) → IsHeldForest b old f → IsHeldForest b old (merged i f)
held_merged b old i f h = record {
  enough = omega (arith, h.enough, length-append f.nodes (parent_of_peaks (length f.nodes) i f.peaks));
  peaks = held_joined b old (length f.nodes) i f.peaks h.enough h.peaks;
  nodes = λ p t e l. elim (children_joined b old (length f.nodes) i f.peaks h.peaks) [
    | inl none ↦ h.nodes p t (rw (none, append-nil) at e) l
    | inr one ↦ elim (get_push_cases f.nodes one.0 p t (rw one.1 at e)) [ inl d ↦ h.nodes p t d l | inr d ↦ rw d.1 one.2 ]
  ];
}

held_forest : (rule : List ℕ → List ℕ) (b k : ℕ) → IsHeldForest (size rule b) (forest rule b).peaks (forest rule (k + b))
unfolding forest
held_forest rule b zero = (let e : 0 + b ≡ b = omega arith in rw e record {
  enough = omega arith;
  peaks = all_from_get (IsHeld (size rule b) (forest rule b).peaks) (forest rule b).peaks (λ i t d. inr (i, d));
  nodes = λ p t d l. absurd (omega (arith, get_below (forest rule b).nodes p t d));
})
held_forest rule b (suc k) =
    (let e : suc k + b ≡ suc (k + b) = omega arith in
    let f : Forest = append_leaf (k + b) (forest rule (k + b)) in
    rw e (subst (IsHeldForest (size rule b) (forest rule b).peaks) (sym (merge_all-parts (rule (map height f.peaks)) f))
    (merges_keep (λ n. IsHeldForest (size rule b) (forest rule b).peaks) (λ n. held_merged (size rule b) (forest rule b).peaks) 0
    (rule (map height f.peaks)) f (held_append_leaf (size rule b) (forest rule b).peaks (k + b) (forest rule (k + b)) (held_forest rule b k)))))

-- the children of a node at the size of b leaves or after it stand there too, or are peaks of b leaves
pub children_held : (rule : List ℕ → List ℕ) (b n p : ℕ) (t : Tree) → b ≤ n → slice_get (forest rule n).nodes p ≡ Some t → size rule b ≤ p → ChildrenHeld (size rule b) (forest rule b).peaks t
children_held rule b n p t l e m =
    let d : n - b + b ≡ n = omega arith in
    let h : IsHeldForest (size rule b) (forest rule b).peaks (forest rule n) = subst (λ (x : ℕ). IsHeldForest (size rule b) (forest rule b).peaks (forest rule x)) d (held_forest rule b (n - b)) in
    h.nodes p t e m

-- and so do the peaks of n leaves
pub peaks_held : (rule : List ℕ → List ℕ) (b n : ℕ) → b ≤ n → AllByRecursion (IsHeld (size rule b) (forest rule b).peaks) (forest rule n).peaks
peaks_held rule b n l =
    let d : n - b + b ≡ n = omega arith in
    let h : IsHeldForest (size rule b) (forest rule b).peaks (forest rule n) = subst (λ (x : ℕ). IsHeldForest (size rule b) (forest rule b).peaks (forest rule x)) d (held_forest rule b (n - b)) in
    h.peaks
