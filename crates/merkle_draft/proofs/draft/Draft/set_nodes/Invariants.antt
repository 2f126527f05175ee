use Rattle.std.proofs.Common.{◌≡◌, ◌≤◌, ◌++◌, ℕ, List, Option, drop}
use Rattle.std.specs.FinMap.{get}
use Rattle.merkle_base.specs.Hashing.{Hashing}
use Rattle.merkle_draft.specs.DraftReads.{stored_node}
use Rattle.merkle_draft.specs.Settled.{AreAnswers, AreSettled, HasSameShape}
use Rattle.merkle_draft.proofs.draft.Draft.set_nodes.Given as goal

abbrev pub invariant-loop-i : goal.invariant-loop-i
invariant-loop-i g l =
    HasSameShape l.fn.self l.self
    × ((p : ℕ) → l.fn.self.before ≤ p → get l.self.overwritten p ≡ get l.fn.self.overwritten p)
    × ((h : Hashing g.row.D.Denot) (m under : ℕ → Option g.row.D.Denot) (n : ℕ) (ds : List g.row.D.Denot) (later : List ℕ) → AreAnswers h g.F.Family.rule m under n ds l.positions l.digests
    → AreSettled h g.F.Family.rule m under n ds (l.positions ++ later) (stored_node l.fn.self) → AreSettled h g.F.Family.rule m under n ds (drop l.i l.positions ++ later) (stored_node l.self))
