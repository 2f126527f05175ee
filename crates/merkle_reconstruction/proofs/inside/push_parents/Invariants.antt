use Rattle.std.proofs.Common.{ℕ, drop}
use Rattle.merkle_base.specs.Hashing.{Hashing}
use Rattle.merkle_reconstruction.specs.Inside.{AreParents, AreChildDigests}
use Rattle.merkle_reconstruction.proofs.inside.push_parents.Given as goal

abbrev pub invariant-loop-node : goal.invariant-loop-node
invariant-loop-node g l = (h : Hashing g.row.D.Denot) (leaf : ℕ → g.row.D.Denot) → AreChildDigests h g.F.Family.rule g.F.Family.MAX_LEAVES leaf l.nodes l.below
    → AreParents h g.F.Family.rule g.F.Family.MAX_LEAVES leaf l.fn.parents.items
    → AreChildDigests h g.F.Family.rule g.F.Family.MAX_LEAVES leaf (drop l.node-index l.nodes) l.rest × AreParents h g.F.Family.rule g.F.Family.MAX_LEAVES leaf l.parents.items
