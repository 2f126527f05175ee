use Rattle.std.proofs.Common.{◌≡◌, ◌++◌, List, map, take}
use Rattle.std.specs.List.{flat_map}
use Rattle.merkle_base.specs.Tree.{Tree, position}
use Rattle.merkle_root_theory.specs.Plan.{siblings}
use Rattle.merkle_root_theory.specs.Check.{in_range}
use Rattle.merkle_hasher.specs.Subtrees.{AreNodes, subtree_of}
use Rattle.merkle_range.proofs.groups.append_siblings.Given as goal

abbrev pub invariant-loop-peak : goal.invariant-loop-peak
invariant-loop-peak g l = (ts : List Tree) → l.peaks ≡ map subtree_of ts → AreNodes g.F.Family.rule g.F.Family.MAX_LEAVES ts
    → l.out.items ≡ l.fn.out.items ++ map position (flat_map (siblings (in_range l.range.start l.range.end)) (take l.peak-index ts))
