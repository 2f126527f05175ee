use Rattle.std.proofs.Common.{◌≡◌, ◌≤◌, ◌++◌, vec_capacity}
use Rattle.merkle_batch_theory.specs.MemModel.{contents}
use Rattle.merkle_core.specs.ConfigBytes.{counted_spelling}
use Rattle.merkle_core.specs.MemBytes.{held_pins}
use Rattle.merkle_core.proofs.WrittenNodes.{held_bytes}
use Rattle.merkle_core.proofs.mem.Mem.write_pins.Given as goal

-- what is written, and the bytes of the pins that are left
abbrev pub invariant-loop-position : goal.invariant-loop-position
invariant-loop-position g l =
    (goal.iterator-loop-position g).can_next l.position-iterator
    × (goal.iterator-loop-position g).is_finite l.position-iterator
    × (l.out.items ++ held_bytes g.D.Digest.bytes (contents l.self) l.position-iterator ≡ l.fn.out.items ++ counted_spelling g.D.Digest.bytes (held_pins g.F.Family.rule l.self))
    × (vec_capacity l.fn.out ≤ vec_capacity l.out)
