use Rattle.merkle_base.specs.Places.{peak_positions}
use Rattle.merkle_core.proofs.PinMaps.{Pairing}
use Rattle.merkle_core.proofs.components.pair_pins.Given as goal

abbrev pub invariant-loop-position : goal.invariant-loop-position
invariant-loop-position g l =
    (goal.iterator-loop-position g).can_next l.position-iterator
    × (goal.iterator-loop-position g).is_finite l.position-iterator
    × Pairing (peak_positions g.F.Family.rule l.fn.boundary) l.digests.items l.position-iterator l.pins.entries
