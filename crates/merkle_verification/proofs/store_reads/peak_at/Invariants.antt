use Rattle.std.proofs.Common.{◌≡◌, slice_get}
use Rattle.merkle_base.specs.Places.{peak_positions}
use Rattle.merkle_verification.proofs.store_reads.peak_at.Given as goal

abbrev pub invariant-loop-position : goal.invariant-loop-position
invariant-loop-position g l =
    (goal.iterator-loop-position g).can_next l.position-iterator
    × (goal.iterator-loop-position g).is_finite l.position-iterator
    × (slice_get l.position-iterator l.left ≡ slice_get (peak_positions g.F.Family.rule l.fn.leaves) l.fn.number)
