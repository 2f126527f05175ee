use Rattle.std.proofs.Common.{◌≡◌, ◌++◌, ℕ, List, map, length}
use Rattle.merkle_base.specs.Places.{peak_positions, peaks_of, placed}
use Rattle.merkle_draft.specs.DraftReads.{old_node}
use Rattle.merkle_batch_theory.specs.Assignment.{ReadsAgree, digests_from}
use Rattle.merkle_draft.proofs.PeakReads.{AreFirstRead}
use Rattle.merkle_draft.proofs.draft.Draft.read_peaks.Given as goal

abbrev pub invariant-loop-position : goal.invariant-loop-position
invariant-loop-position g l =
    (goal.iterator-loop-position g).can_next l.position-iterator
    × (goal.iterator-loop-position g).is_finite l.position-iterator
    × ((done : List (ℕ × ℕ)) × (done ++ g.F.Peaks.Listed.left l.position-iterator ≡ map placed (peaks_of g.F.Family.rule l.fn.leaves))
    × AreFirstRead done l.self.before (old_node l.self (g.B.Base.contents l.base)))
    × ((truth : ℕ → g.row.D.Denot) → ReadsAgree (old_node l.self (g.B.Base.contents l.base)) l.self.before truth → l.self.appended ≡ digests_from truth l.self.before (length l.self.appended)
    → l.digests.items ++ map truth (map (λ q. q.0) (g.F.Peaks.Listed.left l.position-iterator)) ≡ map truth (peak_positions g.F.Family.rule l.fn.leaves))
