use Rattle.std.proofs.Common.{refl}
use Rattle.merkle_claim_theory.proofs.laws.three_leaves.Goals as goal

pub returns : goal.returns
returns c = record { honest = refl; first = refl }
