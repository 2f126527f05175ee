use Rattle.merkle_claim_theory.proofs.RebuiltPins.{pinned_is_rebuilt, pins_give_old_root}
use Rattle.merkle_claim_theory.proofs.AcceptedInputs.{pinned_cases}
use Rattle.merkle_claim_theory.proofs.PinnedChecks.{honest_pinned_is_accepted, accepted_pinned_is_honest, pins_are_old_peaks}
use Rattle.merkle_claim_theory.proofs.laws.pinned_checks.Goals as goal

pub returns : goal.returns
returns g c = record {
  honest = honest_pinned_is_accepted;
  others = accepted_pinned_is_honest;
  cases = pinned_cases;
  peaks = pins_are_old_peaks;
  parts = pinned_is_rebuilt;
  old_roots = pins_give_old_root;
}
