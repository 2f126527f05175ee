use Rattle.std.proofs.Common.{◌++◌, List, map, drop}
use Rattle.merkle_root_theory.specs.Walk.{leaf_from}
use Rattle.merkle_reconstruction.specs.Inside.{AreChildDigests}
use Rattle.merkle_reconstruction.proofs.inside.child_digests.Given as goal

abbrev pub invariant-loop-node : goal.invariant-loop-node
invariant-loop-node g l =
    let h = g.H.Hasher.hashing l.hasher in
    (ds : List g.row.H-Digest.Denot) → AreChildDigests h g.F.Family.rule g.F.Family.MAX_LEAVES (leaf_from h l.start l.leaves) (drop l.node-index l.nodes) ds
    → AreChildDigests h g.F.Family.rule g.F.Family.MAX_LEAVES (leaf_from h l.start l.leaves) l.nodes (map (λ n. h.node n.0 n.1 n.2) l.children.items ++ ds)
