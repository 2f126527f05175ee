use Rattle.merkle_batch_theory.proofs.Agreed.{agree_all, agree_pruned}
use Rattle.merkle_batch_theory.proofs.laws.agreement.Goals as goal

pub returns : goal.returns
returns g c = record { replayed = agree_all; pruned = agree_pruned }
