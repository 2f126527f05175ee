use Rattle.std.proofs.Common.{◌≡◌, ◌+◌, ◌≤◌, ◌++◌, map, take, length}
use Rattle.merkle_batch_theory.specs.Contents.{held_peaks}
use Rattle.merkle_batch_theory.specs.MemModel.{contents}
use Rattle.merkle_batch_theory.specs.HeldPeaks.{held_at}
use Rattle.merkle_core.proofs.mem.Mem.write_peaks.Given as goal

abbrev pub invariant-loop-position : goal.invariant-loop-position
invariant-loop-position g l =
    (goal.iterator-loop-position g).can_next l.position-iterator
    × (goal.iterator-loop-position g).is_finite l.position-iterator
    × (length l.digests ≡ 64)
    × (l.count + length (g.F.Peaks.Listed.left l.position-iterator) ≤ 64)
    × (take l.count l.digests ++ held_at (contents l.self) (map (λ q. q.0) (g.F.Peaks.Listed.left l.position-iterator)) ≡ held_peaks g.F.Family.rule l.self.leaves (contents l.self))
