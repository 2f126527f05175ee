use Rattle.std.proofs.Common.{length}
use Rattle.merkle_audit_parts.proofs.pinned_claim.+push_pinned.Given as goal

abbrev pub decreases-push_pinned : goal.decreases-push_pinned
decreases-push_pinned g l = length l.peaks.now
