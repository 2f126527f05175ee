use Rattle.merkle_batch_theory.proofs.Children.{left_needed}
use Rattle.merkle_batch_theory.proofs.BaseFacts.{based_used}
use Rattle.merkle_batch_theory.proofs.laws.gathering.Goals as goal

pub returns : goal.returns
returns g c = record { right = based_used; missing = left_needed }
