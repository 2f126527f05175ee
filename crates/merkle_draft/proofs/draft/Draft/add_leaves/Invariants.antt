use Rattle.std.proofs.Common.{◌≡◌, ℕ, ◌+◌, ◌-◌, ◌<◌, ◌≤◌, ◌++◌, List, length, Some, slice_get}
use Rattle.merkle_base.specs.Forest.{size}
use Rattle.merkle_draft.specs.DraftReads.{OnlyAppends}
use Rattle.merkle_draft.specs.Levels.{from_height, AreAdded}
use Rattle.merkle_draft.proofs.draft.Draft.add_leaves.Given as goal

abbrev pub invariant-loop-digest : goal.invariant-loop-digest
invariant-loop-digest g l =
    (l.leaf ≡ l.fn.leaves + l.digest-index)
    × OnlyAppends l.fn.self l.self
    × (l.self.before + length l.self.appended ≡ size g.F.Family.rule l.leaf)
    × ((i : ℕ) (d : g.row.D.Denot) → i < l.digest-index → slice_get l.added i ≡ Some d → slice_get l.self.appended (size g.F.Family.rule (l.fn.leaves + i) - l.fn.self.before) ≡ Some d)
    × AreAdded g.F.Family.rule g.F.Family.MAX_LEAVES (size g.F.Family.rule l.fn.leaves) (size g.F.Family.rule l.leaf) l.fn.levels l.levels
    × (length (from_height l.levels 0) + l.digest-index + length l.fn.self.appended ≡ length (from_height l.fn.levels 0) + length l.self.appended)
    × ((more : List g.row.D.Denot) × (l.self.appended ≡ l.fn.self.appended ++ more))
