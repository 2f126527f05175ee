use Rattle.std.proofs.Common.{◌≡◌, ◌+◌, ◌++◌, take}
use Rattle.merkle_hasher.specs.LeafDigests.{bytes_of, leaf_digests, positioned_digests}
use Rattle.merkle_leaves.proofs.queue.push_leaf_digests.Given as goal

abbrev pub invariant-loop-element : goal.invariant-loop-element
invariant-loop-element g l =
    let h = g.T.Hasher.hashing l.hasher in
    (l.location ≡ l.fn.first + l.element-index)
    × (l.digests.items ++ positioned_digests h l.waiting.items ≡ l.fn.digests.items ++ leaf_digests h g.F.Family.rule l.fn.first (bytes_of (take l.element-index l.elements)))
