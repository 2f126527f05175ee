use Rattle.std.proofs.Common.{length}
use Rattle.merkle_root_theory.specs.Walk.{leaf_from}
use Rattle.merkle_reconstruction.specs.Inside.{AreTall, AreParents}
use Rattle.merkle_reconstruction.proofs.inside.digests_inside.Given as goal

abbrev pub invariant-loop-peak : goal.invariant-loop-peak
invariant-loop-peak g l =
    let h = g.H.Hasher.hashing l.hasher in
    AreTall g.F.Family.rule g.F.Family.MAX_LEAVES l.range.start (length l.leaves) l.tall.items
    × AreParents h g.F.Family.rule g.F.Family.MAX_LEAVES (leaf_from h l.range.start l.leaves) l.parents.items
