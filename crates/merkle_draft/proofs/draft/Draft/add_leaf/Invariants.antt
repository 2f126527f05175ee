use Rattle.std.proofs.Common.{◌≡◌, ◌+◌, ◌≤◌, suc, List, ◌∷◌, ◌++◌, length, ℕ}
use Rattle.merkle_base.specs.Forest.{size}
use Rattle.merkle_base.specs.Heights.{parent_heights}
use Rattle.merkle_draft.specs.DraftReads.{OnlyAppends}
use Rattle.merkle_draft.specs.Levels.{from_height, AreAdded}
use Rattle.merkle_draft.proofs.draft.Draft.add_leaf.Given as goal

abbrev pub invariant-loop-height : goal.invariant-loop-height
invariant-loop-height g l =
    (goal.iterator-loop-height g).can_next l.height-iterator
    × (goal.iterator-loop-height g).is_finite l.height-iterator
    × OnlyAppends l.fn.self l.self
    × ((done : List ℕ)
    × (done ++ g.F.ParentHeights.Listed.left l.height-iterator ≡ parent_heights g.F.Family.rule l.fn.leaf)
    × (l.self.before + length l.self.appended ≡ size g.F.Family.rule l.fn.leaf + 1 + length done))
    × AreAdded g.F.Family.rule g.F.Family.MAX_LEAVES (size g.F.Family.rule l.fn.leaf) (l.self.before + length l.self.appended) l.fn.levels l.levels
    × ((more : List g.row.D.Denot) × (l.self.appended ≡ l.fn.self.appended ++ l.fn.digest ∷ more))
    × (length (from_height l.levels 0) + suc (length l.fn.self.appended) ≡ length (from_height l.fn.levels 0) + length l.self.appended)
