use Rattle.merkle_root_theory.proofs.ListChecks.{honest_range_accepted, no_other_range, pair_consistent}
use Rattle.merkle_claim_theory.proofs.Audits.{audits_range, audits_pair}
use Rattle.merkle_claim_theory.proofs.RangeNoCollision.{honest_has_no_collision}
use Rattle.merkle_claim_theory.proofs.laws.list_checks.Goals as goal

pub returns : goal.returns
returns g c = record { honest = honest_range_accepted; others = no_other_range; pairs = pair_consistent; audit = audits_range; audit_pair = audits_pair; clear = honest_has_no_collision }
