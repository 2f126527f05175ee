use Rattle.std.proofs.Common.{arith}
use Rattle.merkle_topology.proofs.RangeRoots.{doubled_shl, doubled_pos}
use Rattle.merkle_topology.proofs.mmr.nodes_below.Goals as goal

pub overflow_sub-result : goal.overflow_sub-result
overflow_sub-result c = omega (arith, doubled_shl c.args.height c.requires, doubled_pos c.args.height)

pub returns : goal.returns
returns c = omega (arith, doubled_shl c.args.height c.requires, doubled_pos c.args.height)
