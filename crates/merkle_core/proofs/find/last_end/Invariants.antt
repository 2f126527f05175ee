use Rattle.std.proofs.Common.{◌≡◌, ◌≤◌, map, take, length}
use Rattle.merkle_batch_theory.specs.Replay.{last_match, is_state}
use Rattle.merkle_batch_theory.specs.Records.{after}
use Rattle.merkle_core.proofs.find.last_end.Given as goal

abbrev pub invariant-loop-i : goal.invariant-loop-i
invariant-loop-i g l =
    (l.i ≤ length l.records)
    × (last_match (λ r. is_state g.D.PartialEq.eq l.size l.peaks (after r) r.peaks_after) (map (λ r. r.value) l.records)
    ≡ last_match (λ r. is_state g.D.PartialEq.eq l.size l.peaks (after r) r.peaks_after) (take l.i (map (λ r. r.value) l.records)))

abbrev pub decreases-loop-i : goal.decreases-loop-i
decreases-loop-i g l = l.i
