use Rattle.std.proofs.Common.{◌≡◌, ◌≤◌, ◌++◌, ℕ, List, Option}
use Rattle.std.specs.FinMap.{get}
use Rattle.std.specs.Slice.Iter.{chunks_rest}
use Rattle.merkle_draft.specs.DraftReads.{below, stored_node}
use Rattle.merkle_draft.specs.Settled.{AreSettled, HasSameShape, IsStage}
use Rattle.merkle_draft.proofs.draft.Draft.compute_chunks.Given as goal

abbrev pub invariant-loop-chunk : goal.invariant-loop-chunk
invariant-loop-chunk g l =
    (goal.iterator-loop-chunk g).can_next l.chunk-iterator
    × (goal.iterator-loop-chunk g).is_finite l.chunk-iterator
    × HasSameShape l.fn.self l.self
    × ((p : ℕ) → l.fn.self.before ≤ p → get l.self.overwritten p ≡ get l.fn.self.overwritten p)
    × (done : List ℕ) × (done ++ chunks_rest l.chunk-iterator ≡ l.positions)
    × ((m : ℕ → Option g.row.D.Denot) (n : ℕ) (ds : List g.row.D.Denot) (later : List ℕ)
    → IsStage (g.H.Hasher.hashing l.hasher) g.F.Family.rule g.F.Family.MAX_LEAVES m (below l.fn.self (g.B.Base.contents l.base)) n ds l.fn.self.before
    l.height l.positions later (stored_node l.fn.self)
    → AreSettled (g.H.Hasher.hashing l.hasher) g.F.Family.rule m (below l.fn.self (g.B.Base.contents l.base)) n ds (chunks_rest l.chunk-iterator ++ later) (stored_node l.self))
