use Rattle.merkle_hasher.proofs.PeakWalk.{Walked}
use Rattle.merkle_scattered.proofs.ScatteredPositions.{Collected}
use Rattle.merkle_scattered.proofs.multi.scattered_positions.Given as goal

abbrev pub invariant-loop-peak : goal.invariant-loop-peak
invariant-loop-peak g l =
    (goal.iterator-loop-peak g).can_next l.peak-iterator
    × (goal.iterator-loop-peak g).is_finite l.peak-iterator
    × Walked g.F.Family.rule l.fn.leaves l.peak-iterator (λ begin done _. Collected l.fn.locations l.positions.items l.rest begin done)
