use Rattle.merkle_base.specs.Hashing.{Hashing}
use Rattle.merkle_root_theory.specs.Walk.{leaf_from}
use Rattle.merkle_reconstruction.specs.Inside.{AreParents}
use Rattle.merkle_reconstruction.proofs.below.leaf_parents.Given as goal

abbrev pub invariant-loop-node : goal.invariant-loop-node
invariant-loop-node g l = (h : Hashing g.row.D.Denot) → AreParents h g.F.Family.rule g.F.Family.MAX_LEAVES (leaf_from h l.start l.leaves) l.parents.items
