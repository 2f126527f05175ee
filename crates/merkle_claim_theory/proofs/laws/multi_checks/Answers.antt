use Rattle.merkle_claim_theory.proofs.Multiproofs.{honest_multi_is_accepted, accepted_multi_is_honest}
use Rattle.merkle_claim_theory.proofs.FewPositions.{at_most_122}
use Rattle.merkle_claim_theory.proofs.AcceptedInputs.{multi_cases}
use Rattle.merkle_claim_theory.proofs.laws.multi_checks.Goals as goal

pub returns : goal.returns
returns g c = record { honest = honest_multi_is_accepted; others = accepted_multi_is_honest; cases = multi_cases; at_most_122_each = at_most_122 }
