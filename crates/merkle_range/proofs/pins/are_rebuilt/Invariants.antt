use Rattle.std.proofs.Common.{◌≡◌, true, List, map, take, drop}
use Rattle.merkle_base.specs.Tree.{Tree}
use Rattle.merkle_hasher.specs.Subtrees.{AreNodes, subtree_of}
use Rattle.merkle_claim_theory.specs.Rebuilt.{AllRebuilt, rebuilt_node}
use Rattle.merkle_base.specs.Table.{digest_for}
use Rattle.merkle_range.proofs.pins.are_rebuilt.Given as goal

abbrev pub invariant-loop-peak : goal.invariant-loop-peak
invariant-loop-peak g l =
    (l.rest ≡ drop l.peak-index l.digests)
    × ((ts : List Tree) → l.peaks ≡ map subtree_of ts → AreNodes g.F.Family.rule g.F.Family.MAX_LEAVES ts
    → AllRebuilt (g.H.Hasher.hashing l.hasher) (λ _. true) (rebuilt_node (g.H.Hasher.hashing l.hasher) (digest_for l.pins.positions.items l.pins.digests.now)) (take l.peak-index ts) l.digests)
