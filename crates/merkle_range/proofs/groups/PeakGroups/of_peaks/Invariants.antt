use Rattle.merkle_hasher.proofs.PeakWalk.{Walked}
use Rattle.merkle_range.specs.GroupedPeaks.{HoldsGroups}
use Rattle.merkle_range.proofs.groups.PeakGroups.of_peaks.Given as goal

abbrev pub invariant-loop-peak : goal.invariant-loop-peak
invariant-loop-peak g l =
    (goal.iterator-loop-peak g).can_next l.peak-iterator
    × (goal.iterator-loop-peak g).is_finite l.peak-iterator
    × Walked g.F.Family.rule l.fn.leaves l.peak-iterator (λ _ done _. HoldsGroups l.range.start l.range.end l.groups done)
