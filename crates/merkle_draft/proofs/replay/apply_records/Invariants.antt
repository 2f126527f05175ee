use Rattle.std.proofs.Common.{◌≡◌, ◌+◌, ℕ, map, drop}
use Rattle.merkle_batch_theory.specs.Held.{held_contents, total_appended}
use Rattle.merkle_batch_theory.specs.Replay.{with_records}
use Rattle.merkle_draft.proofs.replay.apply_records.Given as goal

abbrev pub invariant-loop-change : goal.invariant-loop-change
invariant-loop-change g l =
    (l.held.start ≡ l.initial.held.start)
    × (l.held.capacity ≡ l.initial.held.capacity)
    × (l.held.size + total_appended (drop l.change-index (map (λ r. r.value) l.changes)) ≡ l.initial.held.size + total_appended (map (λ r. r.value) l.changes))
    × ((b : ℕ) → with_records (drop l.change-index (map (λ r. r.value) l.changes)) (held_contents b l.held) ≡ with_records (map (λ r. r.value) l.changes) (held_contents b l.initial.held))
