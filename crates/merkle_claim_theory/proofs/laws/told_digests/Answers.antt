use Rattle.merkle_claim_theory.proofs.HonestTold.{honest_multi_accepted, honest_pins_accepted}
use Rattle.merkle_claim_theory.proofs.ToldDigests.{no_other_multi, no_other_pins}
use Rattle.merkle_claim_theory.proofs.laws.told_digests.Goals as goal

pub returns : goal.returns
returns g c = record { multi = honest_multi_accepted; pins = honest_pins_accepted; no_other_multi = no_other_multi; no_other_pins = no_other_pins }
