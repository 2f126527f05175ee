use Rattle.merkle_batch_theory.proofs.Forking.{kept_stands, last_added}
use Rattle.merkle_batch_theory.proofs.laws.forking.Goals as goal

pub returns : goal.returns
returns g c = record { stands = kept_stands; last = last_added }
