use Rattle.merkle_claim_theory.proofs.SubProofs.{part_is_accepted, siblings_are_read}
use Rattle.merkle_claim_theory.proofs.laws.sub_proofs.Goals as goal

pub returns : goal.returns
returns g c = record { accepted = part_is_accepted; read = siblings_are_read }
