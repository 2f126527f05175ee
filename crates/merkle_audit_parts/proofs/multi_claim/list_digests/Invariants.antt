use Rattle.std.proofs.Common.{◌≡◌, take, map}
use Rattle.merkle_audit_parts.proofs.multi_claim.list_digests.Given as goal

abbrev pub invariant-loop-leaf : goal.invariant-loop-leaf
invariant-loop-leaf g l = l.digests.items ≡ map (λ e. e.0) (take l.leaf-index l.leaves)
