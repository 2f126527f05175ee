use Rattle.std.proofs.Common.{◌≡◌, ◌+◌, ◌++◌, ◌≤◌, ℕ, List, [], Option, length}
use Rattle.std.specs.FinMap.{get}
use Rattle.std.specs.Slice.Iter.{chunks_rest}
use Rattle.merkle_base.specs.Forest.{size}
use Rattle.merkle_draft.specs.DraftReads.{below, stored_node}
use Rattle.merkle_draft.specs.NewDigests.{AreNewDigests}
use Rattle.merkle_draft.proofs.draft.Draft.append_leaves.Given as goal

abbrev pub invariant-loop-chunk : goal.invariant-loop-chunk
invariant-loop-chunk g l =
    (goal.iterator-loop-chunk g).can_next l.chunk-iterator
    × (goal.iterator-loop-chunk g).is_finite l.chunk-iterator
    × (l.self.before ≡ l.fn.self.before) × (l.self.kept ≡ l.fn.self.kept)
    × ((p : ℕ) → l.fn.self.before ≤ p → get l.self.overwritten p ≡ get l.fn.self.overwritten p)
    × (l.self.before + length l.self.appended ≡ size g.F.Family.rule l.leaf)
    × (done : List g.row.D.Denot) × (done ++ chunks_rest l.chunk-iterator ≡ l.added)
    × (l.leaf ≡ l.fn.leaves + length done)
    × (l.count + length done + size g.F.Family.rule l.fn.leaves ≡ size g.F.Family.rule l.leaf)
    × ((m : ℕ → Option g.row.D.Denot)
    → AreNewDigests (g.H.Hasher.hashing l.hasher) g.F.Family.rule m (below l.fn.self (g.B.Base.contents l.base)) l.fn.leaves [] (stored_node l.fn.self)
    → AreNewDigests (g.H.Hasher.hashing l.hasher) g.F.Family.rule m (below l.fn.self (g.B.Base.contents l.base)) l.fn.leaves done (stored_node l.self))
