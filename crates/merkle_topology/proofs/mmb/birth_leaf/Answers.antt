use Rattle.std.proofs.Common.{arith}
use Rattle.merkle_topology.proofs.BeltNodes.{root_low}
use Rattle.merkle_topology.proofs.mmb.birth_leaf.Goals as goal

pub overflow_shl-result : goal.overflow_shl-result
overflow_shl-result c = omega (arith, root_low c.args.first c.args.height c.if-height-eq0.false c.requires)
