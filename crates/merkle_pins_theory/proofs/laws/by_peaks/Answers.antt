use Rattle.merkle_pins_theory.proofs.PinnedInputs.{pinned_by_peaks}
use Rattle.merkle_pins_theory.proofs.laws.by_peaks.Goals as goal

pub returns : goal.returns
returns g c = pinned_by_peaks
