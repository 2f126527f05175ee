use Rattle.merkle_root_theory.proofs.ListRoots.{roots_agree}
use Rattle.merkle_claim_theory.proofs.laws.roots.Goals as goal

pub returns : goal.returns
returns g c = roots_agree
