use Rattle.std.proofs.Common.{◌≡◌, ◌++◌}
use Rattle.merkle_base.specs.Places.{peak_positions}
use Rattle.merkle_batch_theory.specs.HeldPeaks.{held_at}
use Rattle.merkle_batch_theory.specs.MemModel.{contents}
use Rattle.merkle_core.proofs.mem.Mem.pinned_nodes.Given as goal

abbrev pub invariant-loop-position : goal.invariant-loop-position
invariant-loop-position g l =
    (goal.iterator-loop-position g).can_next l.position-iterator
    × (goal.iterator-loop-position g).is_finite l.position-iterator
    × (l.digests.items ++ held_at (contents l.self) l.position-iterator ≡ held_at (contents l.self) (peak_positions g.F.Family.rule l.self.boundary))
