use Rattle.std.proofs.Common.{◌≡◌, take}
use Rattle.merkle_proof.specs.Input.{digested}
use Rattle.merkle_audit_parts.proofs.multi_claim.located_digests.Given as goal

abbrev pub invariant-loop-element : goal.invariant-loop-element
invariant-loop-element g l =
    let h = g.H.Hasher.hashing l.hasher in
    l.leaves.items ≡ digested h g.F.Family.rule (take l.element-index l.elements)
