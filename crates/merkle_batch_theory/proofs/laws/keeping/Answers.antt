use Rattle.merkle_batch_theory.proofs.Kept.{kept_before}
use Rattle.merkle_batch_theory.proofs.laws.keeping.Goals as goal

pub returns : goal.returns
returns c = record { kept = kept_before }
