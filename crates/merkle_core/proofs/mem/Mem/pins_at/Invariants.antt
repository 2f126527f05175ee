use Rattle.std.proofs.Common.{◌≡◌, ℕ, nat_eq}
use Rattle.std.specs.Map.{lookup}
use Rattle.std.specs.Option.{option_or}
use Rattle.merkle_base.specs.Places.{peak_positions}
use Rattle.merkle_batch_theory.specs.HeldPeaks.{pins_of}
use Rattle.merkle_batch_theory.specs.MemModel.{contents}
use Rattle.merkle_core.proofs.mem.Mem.pins_at.Given as goal

abbrev pub invariant-loop-position : goal.invariant-loop-position
invariant-loop-position g l =
    (goal.iterator-loop-position g).can_next l.position-iterator
    × (goal.iterator-loop-position g).is_finite l.position-iterator
    × ((p : ℕ) → option_or (lookup (nat_eq p) (pins_of (contents l.self) l.position-iterator)) (lookup (nat_eq p) l.pins.entries)
    ≡ lookup (nat_eq p) (pins_of (contents l.self) (peak_positions g.F.Family.rule l.fn.location)))
