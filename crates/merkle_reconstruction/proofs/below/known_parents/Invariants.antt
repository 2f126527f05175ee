use Rattle.std.proofs.Common.{ℕ}
use Rattle.merkle_base.specs.Hashing.{Hashing}
use Rattle.merkle_reconstruction.specs.Inside.{AreListed, AreParents}
use Rattle.merkle_reconstruction.proofs.below.known_parents.Given as goal

abbrev pub invariant-loop-node : goal.invariant-loop-node
invariant-loop-node g l = (h : Hashing g.row.D.Denot) (leaf : ℕ → g.row.D.Denot) → AreListed h g.F.Family.rule g.F.Family.MAX_LEAVES leaf l.known.positions.items l.known.digests.items
    → AreParents h g.F.Family.rule g.F.Family.MAX_LEAVES leaf l.parents.items
