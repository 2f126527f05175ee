use Rattle.std.proofs.Common.{◌≡◌, take, map}
use Rattle.merkle_audit_parts.proofs.multi_claim.list_locations.Given as goal

abbrev pub invariant-loop-leaf : goal.invariant-loop-leaf
invariant-loop-leaf g l = l.locations.items ≡ map (λ e. e.1) (take l.leaf-index l.leaves)
