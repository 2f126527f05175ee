use Rattle.std.proofs.Common.{◌≡◌, ◌≤◌, ◌+◌}
use Rattle.std.specs.Prelude.{vec_len, vec_capacity}
use Rattle.merkle_base.proofs.room.make_room.Given as goal

abbrev pub invariant-loop : goal.invariant-loop
invariant-loop g l =
    (l.items.items ≡ l.initial.items.items) × (vec_len l.items ≡ vec_len l.initial.items) × (vec_len l.items + l.counter ≤ vec_capacity l.items)
