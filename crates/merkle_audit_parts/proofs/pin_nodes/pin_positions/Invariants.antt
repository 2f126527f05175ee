use Rattle.std.proofs.Common.{◌≡◌, ◌++◌}
use Rattle.merkle_base.specs.Places.{peak_positions}
use Rattle.merkle_audit_parts.proofs.pin_nodes.pin_positions.Given as goal

abbrev pub invariant-loop-position : goal.invariant-loop-position
invariant-loop-position g l =
    (goal.iterator-loop-position g).can_next l.position-iterator
    × (goal.iterator-loop-position g).is_finite l.position-iterator
    × (l.positions.items ++ l.position-iterator ≡ peak_positions g.F.Family.rule l.fn.leaves)
