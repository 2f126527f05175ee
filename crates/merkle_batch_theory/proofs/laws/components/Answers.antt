use Rattle.merkle_batch_theory.proofs.HonestComponents.{honest_agrees}
use Rattle.merkle_batch_theory.proofs.laws.components.Goals as goal

pub returns : goal.returns
returns g c = record { agrees = honest_agrees }
