use Rattle.std.proofs.Common.{◌≡◌, ◌≤◌, drop, length}
use Rattle.merkle_base.specs.Root.{right_fold}
use Rattle.merkle_hasher.proofs.root.bag_all.Given as goal

abbrev pub invariant-loop-index : goal.invariant-loop-index
invariant-loop-index g l = (l.index ≤ length l.peaks) × (l.bagged ≡ right_fold (g.T.Hasher.hashing l.hasher).fold (drop l.index l.peaks))

abbrev pub decreases-loop-index : goal.decreases-loop-index
decreases-loop-index g l = l.index
