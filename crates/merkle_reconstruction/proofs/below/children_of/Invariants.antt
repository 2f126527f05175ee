use Rattle.std.proofs.Common.{ℕ, ◌-◌, ◌<◌}
use Rattle.merkle_reconstruction.specs.Inside.{AreLevel}
use Rattle.merkle_reconstruction.proofs.below.children_of.Given as goal

abbrev pub invariant-loop-node : goal.invariant-loop-node
invariant-loop-node g l = (start count height : ℕ) → 0 < height → AreLevel g.F.Family.rule g.F.Family.MAX_LEAVES start count height l.nodes
    → AreLevel g.F.Family.rule g.F.Family.MAX_LEAVES start count (height - 1) l.children.items
