use Rattle.merkle_verification.proofs.StoreCallLaws.{no_part_is_refused, answered_is_accepted, part_has_part_digests}
use Rattle.merkle_verification.proofs.laws.store_calls.Goals as goal

pub returns : goal.returns
returns g c = record { unrefused = no_part_is_refused; accepted = answered_is_accepted; digests = part_has_part_digests }
