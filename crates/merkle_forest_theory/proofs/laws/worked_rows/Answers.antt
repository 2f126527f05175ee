use Rattle.std.proofs.Common.{◌≡◌, ℕ, zero, suc, ◌<◌, length, slice_index, ap, refl, arith}
use Rattle.merkle_base.specs.Forest.{forest}
use Rattle.merkle_base.specs.Heights.{peak_heights}
use Rattle.merkle_forest_theory.specs.Rows.{unmerged}
use Rattle.merkle_forest_theory.proofs.laws.worked_rows.Goals as goal

unmerged_many : (n : ℕ) → length (peak_heights unmerged n) ≡ n
unfolding peak_heights
unmerged_many zero = refl
unmerged_many (suc n) = ap suc (unmerged_many n)

unmerged_low : (n i : ℕ) → i < length (peak_heights unmerged n) → slice_index (peak_heights unmerged n) i ≡ 0
unfolding peak_heights
unmerged_low zero i l = absurd (omega arith)
unmerged_low (suc n) zero l = refl
unmerged_low (suc n) (suc i) l = unmerged_low n i (omega arith)

pub returns : goal.returns
unfolding forest peak_heights
returns c = record {
  range_positions = refl;
  range_peaks = refl;
  range_parents = refl;
  belt_positions = refl;
  belt_peaks_8 = refl;
  belt_peaks_11 = refl;
  belt_parents = refl;
  belt_pairs = (refl, refl);
  belt_root = refl;
  range_stands = refl;
  range_comes = refl;
  belt_comes = refl;
  three_nodes = refl;
  three_peaks = refl;
  inactive = refl;
  few_peaks = λ n i l b. omega (arith, unmerged_many n, unmerged_low n i b);
  too_many = λ f. absurd (omega (arith, f 124 0 (omega arith) (omega (arith, unmerged_many 124)), unmerged_many 124));
  belt_chunk = refl;
  digests = refl;
  digests_of_peaks = refl;
  folds_forward = refl;
  folds_backward = refl;
  folds_apart = refl;
  root_bytes = refl;
  root_bytes_one = refl;
  root_bytes_empty = refl;
}
