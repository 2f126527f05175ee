use Rattle.merkle_claim_theory.proofs.Verdicts.{verdicts}
use Rattle.merkle_claim_theory.proofs.laws.verdicts.Goals as goal

pub returns : goal.returns
returns g c = verdicts
