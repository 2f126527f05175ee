use Rattle.merkle_base.proofs.Chunks.{nodes_inside_own, nodes_inside_stretch}
use Rattle.merkle_base.proofs.laws.grafted_forest.Goals as goal

pub returns : goal.returns
returns c = record { own = nodes_inside_own; stretch = λ rule max_leaves max_nodes law root birth formulas. nodes_inside_stretch rule max_leaves law.equal root birth formulas }
