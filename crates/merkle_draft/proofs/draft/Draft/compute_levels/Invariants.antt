use Rattle.std.proofs.Common.{◌≡◌, ◌≤◌, ◌+◌, ℕ, List, Option, length}
use Rattle.std.specs.FinMap.{get}
use Rattle.merkle_draft.specs.DraftReads.{below, stored_node}
use Rattle.merkle_draft.specs.Levels.{from_height}
use Rattle.merkle_draft.specs.Settled.{AreSettled, HasSameShape, IsReadyToCompute}
use Rattle.merkle_draft.proofs.draft.Draft.compute_levels.Given as goal

abbrev pub invariant-loop-height : goal.invariant-loop-height
invariant-loop-height g l =
    HasSameShape l.fn.self l.self
    × ((p : ℕ) → l.fn.self.before ≤ p → get l.self.overwritten p ≡ get l.fn.self.overwritten p)
    × (l.count + length (from_height l.levels l.height) ≡ length (from_height l.levels 0))
    × ((m : ℕ → Option g.row.D.Denot) (n : ℕ) (ds : List g.row.D.Denot) (a : ℕ)
    → IsReadyToCompute (g.H.Hasher.hashing l.hasher) g.F.Family.rule g.F.Family.MAX_LEAVES m (below l.fn.self (g.B.Base.contents l.base)) n ds l.fn.self.before a l.levels (stored_node l.fn.self)
    → AreSettled (g.H.Hasher.hashing l.hasher) g.F.Family.rule m (below l.fn.self (g.B.Base.contents l.base)) n ds (from_height l.levels l.height) (stored_node l.self))
