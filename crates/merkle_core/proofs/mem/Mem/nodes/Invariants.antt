use Rattle.std.proofs.Common.{◌≡◌, ◌-◌, ◌++◌}
use Rattle.std.specs.List.{range_with_len}
use Rattle.merkle_base.specs.Forest.{size}
use Rattle.merkle_batch_theory.specs.HeldPeaks.{held_at}
use Rattle.merkle_batch_theory.specs.MemModel.{contents}
use Rattle.merkle_core.proofs.mem.Mem.nodes.Given as goal

abbrev pub invariant-loop-index : goal.invariant-loop-index
invariant-loop-index g l =
    let start = size g.F.Family.rule l.self.boundary in
    l.digests.items ++ held_at (contents l.self) (range_with_len l.index (l.self.size - l.index)) ≡ held_at (contents l.self) (range_with_len start (l.self.size - start))
