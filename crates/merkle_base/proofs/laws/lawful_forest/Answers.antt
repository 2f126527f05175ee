use Rattle.merkle_base.proofs.Balance.{node_balanced, balanced_count, same_node}
use Rattle.merkle_base.proofs.Births.{forest_born}
use Rattle.merkle_base.proofs.Limits.{lawful_height, lawful_position}
use Rattle.merkle_base.proofs.laws.lawful_forest.Goals as goal

pub returns : goal.returns
returns c = record {
  counts = λ rule max_leaves max_nodes law n p t l e. balanced_count t (node_balanced rule max_leaves law.equal n p t l e);
  one_node = λ rule max_leaves max_nodes law n p q a b l d e f g. same_node rule max_leaves law.equal n p q a b l d e f g;
  born = λ rule max_leaves max_nodes law n l. forest_born rule max_leaves law.equal n l;
  low = λ rule max_leaves max_nodes law n p t l e.
      (lawful_height rule max_leaves max_nodes law n p t l e, lawful_position rule max_leaves max_nodes law n p t l e);
}
