use Rattle.std.proofs.Common.{◌≡◌, take}
use Rattle.merkle_proof.specs.Input.{by_location}
use Rattle.merkle_proof.proofs.multi_checks.list_located.Given as goal

abbrev pub invariant-loop-leaf : goal.invariant-loop-leaf
invariant-loop-leaf g l = l.located.items ≡ by_location (take l.leaf-index l.leaves)
