use Rattle.std.proofs.Common.{arith}
use Rattle.merkle_forest_theory.proofs.RangeLawful.{mmr_size}
use Rattle.merkle_topology.proofs.mmr.node_count.Goals as goal

pub returns : goal.returns
returns c = omega (arith, c.from.ensures, mmr_size c.args.leaves)
