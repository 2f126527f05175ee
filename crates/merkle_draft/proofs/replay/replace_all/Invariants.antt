use Rattle.std.proofs.Common.{◌≡◌, ℕ, map, ◌++◌}
use Rattle.std.specs.FinMap.{get}
use Rattle.std.specs.Map.Iter.{deref_pair}
use Rattle.merkle_batch_theory.specs.Held.{overwritten_by}
use Rattle.merkle_batch_theory.proofs.OverwriteFacts.{latest}
use Rattle.merkle_draft.proofs.replay.replace_all.Given as goal

abbrev pub invariant-loop-position : goal.invariant-loop-position
invariant-loop-position g l =
    (l.held.start ≡ l.initial.held.start)
    × (l.held.size ≡ l.initial.held.size)
    × (l.held.capacity ≡ l.initial.held.capacity)
    × ((p : ℕ) → get l.held.stored p ≡ overwritten_by (latest l.yielded p) (get l.initial.held.stored p))
    × (map deref_pair l.yielded ++ l.position-iterator ≡ l.initial.position-iterator)
