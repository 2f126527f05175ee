use Rattle.std.proofs.Common.{◌≡◌, ◌≤◌, List, length, map, take, drop}
use Rattle.merkle_base.specs.Tree.{Tree, position}
use Rattle.merkle_base.specs.Hashing.{Hashing}
use Rattle.merkle_root_theory.specs.Extract.{single_pairs}
use Rattle.merkle_range.proofs.extraction.put_each.Given as goal

abbrev pub invariant-loop-position : goal.invariant-loop-position
invariant-loop-position g l =
    (l.rest ≡ drop l.position-index l.digests)
    × ((h : Hashing g.row.D.Denot) (ts : List Tree) → l.positions ≡ map position ts → length ts ≤ length l.digests
    → g.C.Collector.Took l.fn.collector (single_pairs h (take l.position-index ts) l.digests) l.collector)
