-- The peaks are nodes of every larger forest.
use Rattle.std.proofs.Common.{ℕ, ◌≤◌, List, reverse}
use Rattle.merkle_base.specs.Tree.{position, IsBuilt}
use Rattle.merkle_base.specs.Forest.{forest}
use Rattle.merkle_base.proofs.Growth.{forest_grown, built_at}
use Rattle.merkle_base.proofs.Nodes.{node_stays}
use Rattle.merkle_base.proofs.PeakLists.{all_reverse}
use Rattle.merkle_base.proofs.Lists.{all_imply}
use Rattle.merkle_hasher.specs.Subtrees.{AreNodes}

pub peaks_at : (rule : List ℕ → List ℕ) (m n : ℕ) → n ≤ m → AreNodes rule m (reverse (forest rule n).peaks)
peaks_at rule m n l = all_imply (IsBuilt (forest rule n).nodes) _ (λ t h. node_stays rule n m (position t) t l (built_at (forest rule n).nodes t h))
    (reverse (forest rule n).peaks) (all_reverse (IsBuilt (forest rule n).nodes) (forest rule n).peaks (forest_grown rule n).built)
