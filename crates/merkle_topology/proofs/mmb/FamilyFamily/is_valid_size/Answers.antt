use Rattle.std.proofs.Common.{arith}
use Rattle.std.proofs.lemmas.Bool.{leb-true}
use Rattle.merkle_base.proofs.Nodes.{size_le}
use Rattle.merkle_forest_theory.specs.Mmb.{mmb_merges}
use Rattle.merkle_forest_theory.proofs.BeltLawful.{mmb_lawful}
use Rattle.merkle_topology.proofs.LeafCounts.{size_tested}
use Rattle.merkle_topology.proofs.mmb.FamilyFamily.is_valid_size.Goals as goal

pub returns-then-nodes-le-MAX_NODES : goal.returns-then-nodes-le-MAX_NODES
returns-then-nodes-le-MAX_NODES c =
    let k = c.leaf_count_within.ensures in
    size_tested mmb_merges 4611686018427387934 c.leaf_count_within.result c.node_count.result c.as_u64-nodes.result c.args.nodes c.as_u64-nodes.ensures k.limit c.node_count.ensures k.within k.greatest

pub returns-else-nodes-le-MAX_NODES : goal.returns-else-nodes-le-MAX_NODES
returns-else-nodes-le-MAX_NODES c = (
  λ t. absurd (omega (arith, leb-true c.as_u64-nodes.result 9223372036854775806 t, c.if-nodes-le-MAX_NODES.false)),
  λ s. absurd (omega (arith, size_le mmb_merges s.0 4611686018427387934 s.1, s.2, mmb_lawful.size_at_limit, c.as_u64-nodes.ensures, c.if-nodes-le-MAX_NODES.false)),
)
