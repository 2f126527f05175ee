use Rattle.merkle_audit_theory.proofs.MultiNoCollision.{honest_multi_has_no_collision}
use Rattle.merkle_audit_theory.proofs.PinnedNoCollision.{honest_pinned_has_no_collision}
use Rattle.merkle_audit_theory.proofs.laws.honest_inputs.Goals as goal

pub returns : goal.returns
returns g c = record { multi = honest_multi_has_no_collision; pinned = honest_pinned_has_no_collision }
