use Rattle.merkle_hasher.proofs.PeakWalk.{Walked}
use Rattle.merkle_draft.proofs.MarkedPeaks.{PeaksMarked}
use Rattle.merkle_draft.proofs.draft.Draft.mark_peaks.Given as goal

abbrev pub invariant-loop-peak : goal.invariant-loop-peak
invariant-loop-peak g l =
    (goal.iterator-loop-peak g).can_next l.peak-iterator × (goal.iterator-loop-peak g).is_finite l.peak-iterator
    × Walked g.F.Family.rule l.fn.leaves l.peak-iterator (λ _ done rest. PeaksMarked g.row.D.Denot g.F.Family.rule l.fn.leaves l.fn.updated l.fn.levels l.rest l.levels done rest)
