use Rattle.merkle_base.proofs.PeakLists.{Counted}
use Rattle.merkle_base.proofs.family.count_inactive.Given as goal

abbrev pub invariant-loop-height : goal.invariant-loop-height
invariant-loop-height g l =
    (goal.iterator-loop-height g).can_next l.height-iterator ×
    (goal.iterator-loop-height g).is_finite l.height-iterator ×
    Counted g.F.Family.rule l.fn.leaves l.fn.floor (g.F.Peaks.Listed.left l.height-iterator) l.end_leaf l.count
