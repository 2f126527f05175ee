use Rattle.merkle_audit_theory.proofs.FewDigests.{range_positions, belt_positions}
use Rattle.merkle_audit_theory.proofs.laws.few_digests.Goals as goal

pub returns : goal.returns
returns g c = record { range_positions = range_positions; belt_positions = belt_positions }
