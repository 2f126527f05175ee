use Rattle.merkle_batch_theory.proofs.Pruning.{applied_pruned}
use Rattle.merkle_batch_theory.proofs.Chains.{same_contents}
use Rattle.merkle_batch_theory.proofs.laws.commuting.Goals as goal

pub returns : goal.returns
returns g c = record { same = same_contents; commutes = λ same rule. applied_pruned rule same }
