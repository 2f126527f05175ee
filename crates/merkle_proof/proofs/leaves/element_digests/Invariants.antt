use Rattle.std.proofs.Common.{◌≡◌, ◌++◌, take}
use Rattle.merkle_hasher.specs.LeafDigests.{positioned_digests}
use Rattle.merkle_proof.proofs.LocatedDigests.{hashed}
use Rattle.merkle_proof.proofs.leaves.element_digests.Given as goal

abbrev pub invariant-loop-element : goal.invariant-loop-element
invariant-loop-element g l =
    let h = g.H.Hasher.hashing l.hasher in
    l.digests.items ++ positioned_digests h l.waiting.items ≡ hashed h g.F.Family.rule (take l.element-index l.elements)
