use Rattle.std.proofs.Common.{◌≡◌, ◌++◌, map, length}
use Rattle.merkle_hasher.proofs.nodes.node_digests.Given as goal

abbrev pub invariant-loop-rest : goal.invariant-loop-rest
invariant-loop-rest g l = l.digests.items ++ map (λ n. (g.T.Hasher.hashing l.hasher).node n.0 n.1 n.2) l.rest
    ≡ l.fn.digests.items ++ map (λ n. (g.T.Hasher.hashing l.hasher).node n.0 n.1 n.2) l.nodes

abbrev pub decreases-loop-rest : goal.decreases-loop-rest
decreases-loop-rest g l = length l.rest
