use Rattle.std.proofs.Common.{◌≡◌, ◌≤◌, List, drop, length}
use Rattle.merkle_base.specs.Root.{right_fold}
use Rattle.merkle_proof.specs.RangePlans.{AreAnswered}
use Rattle.merkle_proof.proofs.reading.read_bagged.Given as goal

abbrev pub invariant-loop-index : goal.invariant-loop-index
invariant-loop-index g l =
    (l.index ≤ length l.positions)
    × (ds : List g.row.H-Digest.Denot) × AreAnswered (goal.G-post g l.get_node) (drop l.index l.positions) ds × (l.bagged ≡ right_fold (g.H.Hasher.hashing l.hasher).fold ds)

abbrev pub decreases-loop-index : goal.decreases-loop-index
decreases-loop-index g l = l.index
