use Rattle.std.proofs.Common.{arith}
use Rattle.merkle_forest_theory.specs.Mmr.{mmr_merges}
use Rattle.merkle_forest_theory.proofs.RangeLawful.{mmr_lawful}
use Rattle.merkle_topology.proofs.LeafCounts.{leaves_within}
use Rattle.merkle_topology.proofs.RangeRoots.{doubled_pos}
use Rattle.merkle_topology.proofs.mmr.root_position.Goals as goal

pub node_count-requires : goal.node_count-requires
node_count-requires c = leaves_within mmr_merges 4611686018427387904 c.args.first (omega (arith, c.requires.within, doubled_pos c.args.height, mmr_lawful.size_at_limit))
