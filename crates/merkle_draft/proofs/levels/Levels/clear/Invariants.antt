use Rattle.std.proofs.Common.{◌≡◌, ℕ, ◌<◌, [], length}
use Rattle.merkle_draft.specs.Levels.{level_at}
use Rattle.merkle_draft.proofs.LevelLists.{in_lists}
use Rattle.merkle_draft.proofs.levels.Levels.clear.Given as goal

abbrev pub invariant-loop-height : goal.invariant-loop-height
invariant-loop-height g l = (length l.self-inside.lists.items ≡ length l.initial.self-inside.lists.items) × ((h : ℕ) → h < l.height → level_at (in_lists l.self-inside.lists.items) h ≡ [])
