use Rattle.std.proofs.Common.{◌≡◌, List, map, take}
use Rattle.merkle_base.specs.Tree.{Tree}
use Rattle.merkle_root_theory.specs.Check.{in_range}
use Rattle.merkle_root_theory.specs.Walk.{leaf_from}
use Rattle.merkle_hasher.specs.Subtrees.{AreNodes}
use Rattle.merkle_hasher.specs.Subtrees.{subtree_of}
use Rattle.merkle_root_theory.specs.Walk.{ArePeaksWalked}
use Rattle.merkle_root_theory.specs.Extract.{over_pairs}
use Rattle.merkle_range.proofs.checks.reconstruct_peaks.Given as goal

abbrev pub invariant-loop-peak : goal.invariant-loop-peak
invariant-loop-peak g l = (ts : List Tree) → l.peaks ≡ map subtree_of ts → AreNodes g.F.Family.rule g.F.Family.MAX_LEAVES ts
    → ArePeaksWalked (g.H.Hasher.hashing l.hasher) (in_range l.range.start l.range.end)
    (leaf_from (g.H.Hasher.hashing l.hasher) l.range.start l.leaves) (take l.peak-index ts) l.fn.digests.now l.fn.out.items l.out.items l.digests.now
    × g.C.Collector.Took l.fn.collector
    (over_pairs (g.H.Hasher.hashing l.hasher) (in_range l.range.start l.range.end)
    (leaf_from (g.H.Hasher.hashing l.hasher) l.range.start l.leaves) (take l.peak-index ts) l.fn.digests.now) l.collector
