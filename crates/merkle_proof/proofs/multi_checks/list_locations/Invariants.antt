use Rattle.std.proofs.Common.{◌≡◌, take, map}
use Rattle.merkle_proof.proofs.multi_checks.list_locations.Given as goal

abbrev pub invariant-loop-item : goal.invariant-loop-item
invariant-loop-item g l = l.locations.items ≡ map (λ e. e.1) (take l.item-index l.items)
