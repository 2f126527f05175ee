use Rattle.std.proofs.Common.{◌≡◌, ◌++◌, map}
use Rattle.merkle_base.specs.Places.{peaks_of}
use Rattle.merkle_hasher.specs.Subtrees.{subtree_of}
use Rattle.merkle_hasher.proofs.peaks.list_peaks.Given as goal

abbrev pub invariant-loop-peak : goal.invariant-loop-peak
invariant-loop-peak g l =
    (goal.iterator-loop-peak g).can_next l.peak-iterator
    × (goal.iterator-loop-peak g).is_finite l.peak-iterator
    × (l.peaks.items ++ l.peak-iterator ≡ map subtree_of (peaks_of g.F.Family.rule l.fn.leaves))
