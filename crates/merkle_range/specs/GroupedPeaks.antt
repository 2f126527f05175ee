-- The peaks of a forest by where they stand to a range.
use Rattle.std.specs.Prelude.{◌≡◌, ◌≤◌, ℕ, List, ◌++◌, map, length}
use Rattle.merkle_base.specs.Tree.{Tree, position}
use Rattle.merkle_root_theory.specs.Range.{overlapping, wholly_after}
use Rattle.merkle_root_theory.specs.Reads.{nodes_read}
use Rattle.merkle_hasher.specs.Subtrees.{subtree_of}
use Rattle.merkle_range.specs.declared.groups.PeakGroups.{PeakGroups}
use Rattle.merkle_base.specs.Places.{peaks_of, wholly_before}

-- the groups are those of the peaks ts and the range a..b
pub record HoldsGroups {F : Type 0} (a b : ℕ) (g : PeakGroups F) (ts : List Tree) : Type 0 where
  pub before : g.before ≡ length (wholly_before a ts)
  pub over : g.overlapping.items ≡ map subtree_of (overlapping a b ts)
  pub outside : g.outside.items ≡ map position (wholly_before a ts ++ wholly_after b ts)

-- the positions are those of the nodes that a proof of a..b reads, in whichever forest the groups are of
abbrev pub AreReadsOf : {F : Type 0} → (List ℕ → List ℕ) → (max_leaves : ℕ) → PeakGroups F → (a b : ℕ) → List ℕ → Type 0
AreReadsOf rule max_leaves g a b ps = (n : ℕ) → n ≤ max_leaves → HoldsGroups a b g (peaks_of rule n) → ps ≡ map position (nodes_read rule n a b)
