use Rattle.std.proofs.Common.{length}
use Rattle.merkle_audit_parts.proofs.pin_nodes.+first_pinned_below.Given as goal

abbrev pub decreases-first_pinned_below : goal.decreases-first_pinned_below
decreases-first_pinned_below g l = length l.peaks.now
