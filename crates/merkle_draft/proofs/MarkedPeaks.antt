-- Listing the dirty parents peak by peak, oldest first.
use Rattle.std.proofs.Common.{◌≡◌, ℕ, ◌+◌, ◌<◌, ◌≤◌, List, [], ◌∷◌, ◌++◌, length, take, drop, Option, ap, ◌∙◌}
use Rattle.std.specs.List.{AllByRecursion, flat_map}
use Rattle.merkle_base.specs.Tree.{Tree, first_leaf, end_leaf, width, IsBuilt}
use Rattle.merkle_base.specs.Forest.{forest, size}
use Rattle.merkle_base.specs.Places.{peaks_of}
use Rattle.merkle_base.proofs.Lists.{all_imply}
use Rattle.merkle_base.proofs.PeakLists.{Spans}
use Rattle.merkle_draft.specs.DirtyLeaves.{dirty_leaves, are_before}
use Rattle.merkle_draft.specs.Levels.{AreMarked}
use Rattle.merkle_draft.proofs.DirtyFacts.{Between, dirty_between, after_start, all_before, split_parts}
use Rattle.merkle_draft.proofs.Marking.{marked_append}

-- us are the updates under the peaks that are left, and the dirty parents of those before them are listed
pub record PeaksMarked (D : Type 0) (rule : List ℕ → List ℕ) (n : ℕ) (all : List ℕ) (old : List (List ℕ)) (us : List ℕ) (new : List (List ℕ)) (done rest : List Tree) : Type 0 where
  pub parted : (m : ℕ → Option D) → all ≡ flat_map (dirty_leaves m) (peaks_of rule n) → us ≡ flat_map (dirty_leaves m) rest
  pub marked : (m : ℕ → Option D) → all ≡ flat_map (dirty_leaves m) (peaks_of rule n) → AreMarked m done old new

module _ {D : Type 0} (rule : List ℕ → List ℕ) (n : ℕ) (all : List ℕ) (old : List (List ℕ)) (done : List Tree) (t : Tree) (rest : List Tree)
    (after : Spans (end_leaf t) n rest) (here : IsBuilt (forest rule n).nodes t) (built : AllByRecursion (IsBuilt (forest rule n).nodes) rest)
    (us : List ℕ) (new : List (List ℕ)) (w : PeaksMarked D rule n all old us new done (t ∷ rest)) (end : ℕ) (end_is : end ≡ first_leaf t + width t)
    (place count : ℕ) (front back : List ℕ) (place_is : place ≡ size rule end) (count_is : count ≡ are_before us place) (front_is : front ≡ take count us) (back_is : back ≡ drop count us) where
  parts : (m : ℕ → Option D) → all ≡ flat_map (dirty_leaves m) (peaks_of rule n) → (front ≡ dirty_leaves m t) × (back ≡ flat_map (dirty_leaves m) rest)
  parts m u =
      let own = dirty_leaves m t in
      let later = flat_map (dirty_leaves m) rest in
      let e : us ≡ own ++ later = w.parted m u in
      let at : place ≡ size rule (end_leaf t) = place_is ∙ ap (size rule) end_is in
      let x : AllByRecursion (λ v. v < size rule (end_leaf t)) own =
      all_imply (Between rule (first_leaf t) (end_leaf t)) (λ v. v < size rule (end_leaf t)) (λ v k. k.1) own (dirty_between rule n m t here) in
      let c : count ≡ length own =
      count_is ∙ ap (are_before us) at ∙ ap (λ z. are_before z (size rule (end_leaf t))) e
      ∙ all_before own later (size rule (end_leaf t)) x (after_start rule n m (end_leaf t) n rest after built) in
      split_parts us own later front back count e c front_is back_is

  -- one peak more
  pub peak_marked : (newer : List (List ℕ)) → ((m : ℕ → Option D) → front ≡ dirty_leaves m t → AreMarked m (t ∷ []) new newer)
      → PeaksMarked D rule n all old back newer (done ++ t ∷ []) rest
  peak_marked newer f = record {
    parted = λ m u. (parts m u).1;
    marked = λ m u. marked_append m done (t ∷ []) old new newer (w.marked m u) (f m (parts m u).0);
  }
