use Rattle.std.proofs.Common.{arith}
use Rattle.merkle_base.proofs.Nodes.{size_le}
use Rattle.merkle_forest_theory.specs.Mmb.{mmb_merges}
use Rattle.merkle_forest_theory.proofs.BeltLawful.{mmb_lawful}
use Rattle.merkle_topology.proofs.mmb.root_position.Goals as goal

pub overflow_add-result : goal.overflow_add-result
overflow_add-result c = omega (
  arith,
  c.node_count-leaf.ensures,
  c.birth_leaf.ensures,
  c.requires,
  size_le mmb_merges c.birth_leaf.result 4611686018427387934 (omega (arith, c.birth_leaf.ensures, c.requires)),
  mmb_lawful.size_at_limit,
)
