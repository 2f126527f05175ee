use Rattle.std.proofs.Common.{◌≡◌, ◌+◌, ℕ, List, Option, drop, length, map}
use Rattle.merkle_base.specs.Hashing.{Hashing}
use Rattle.merkle_base.specs.Tree.{Tree}
use Rattle.merkle_base.specs.Table.{digest_for}
use Rattle.merkle_scattered.specs.Confirmed.{AreChecked, all_parents_met}
use Rattle.merkle_scattered.proofs.CheckedDigests.{IsLeft}
use Rattle.merkle_scattered.proofs.confirm.push_digests.Given as goal

abbrev pub invariant-loop-node : goal.invariant-loop-node
invariant-loop-node g l =
    ((h : Hashing g.row.D.Denot) (a : ℕ → Option g.row.D.Denot) (ts : List Tree) → AreChecked g.F.Family.rule g.F.Family.MAX_LEAVES l.located l.nodes ts
    → length l.computed ≡ length (all_parents_met h a l.located ts) → l.next + length (all_parents_met h a l.located (drop l.node-index ts)) ≡ length l.computed)
    × ((h : Hashing g.row.D.Denot) (ts : List Tree) → h.empty ≡ g.D.Digest.EMPTY → AreChecked g.F.Family.rule g.F.Family.MAX_LEAVES l.located l.nodes ts
    → l.computed ≡ map (λ n. h.node n.0 n.1 n.2) (all_parents_met h (digest_for l.told.positions.now l.told.digests.now) l.located ts)
    → IsLeft h (digest_for l.told.positions.now l.told.digests.now) l.located ts (drop l.node-index ts) (drop l.next l.computed) l.fn.digests.items l.digests.items)
