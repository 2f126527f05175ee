use Rattle.std.proofs.Common.{◌≡◌, ℕ, ◌+◌, ◌-◌, ◌≤◌, vec_len, length}
use Rattle.merkle_draft.specs.Levels.{level_at, from_height}
use Rattle.merkle_draft.proofs.LevelLists.{in_lists}
use Rattle.merkle_draft.proofs.levels.Levels.add.Given as goal

abbrev pub invariant-loop-self : goal.invariant-loop-self
invariant-loop-self g l =
    ((h : ℕ) → level_at (in_lists l.self-inside.lists.items) h ≡ level_at l.fn.self h)
    × (length (from_height (in_lists l.self-inside.lists.items) 0) ≡ length (from_height l.fn.self 0))
    × (length l.self-inside.lists.items ≤ 64)

abbrev pub decreases-loop-self : goal.decreases-loop-self
decreases-loop-self g l = (l.height + 1) - vec_len l.self-inside.lists
