use Rattle.merkle_hasher.proofs.PeakWalk.{Walked}
use Rattle.merkle_scattered.proofs.CheckedPeaks.{ListsPeaks}
use Rattle.merkle_scattered.proofs.confirm.list_peaks.Given as goal

abbrev pub invariant-loop-subtree : goal.invariant-loop-subtree
invariant-loop-subtree g l =
    (goal.iterator-loop-subtree g).can_next l.subtree-iterator
    × (goal.iterator-loop-subtree g).is_finite l.subtree-iterator
    × Walked g.F.Family.rule l.fn.leaves l.subtree-iterator (λ begin done _. ListsPeaks l.located l.peaks.items l.from begin done)
