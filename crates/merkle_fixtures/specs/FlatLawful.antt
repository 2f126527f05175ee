-- Why the family that never merges is lawful. The lemmas stand here, since the law of an `impl` cites nothing of `proofs`.
use Rattle.std.proofs.Common.{◌≡◌, ℕ, zero, suc, length, arith, refl}
use Rattle.merkle_base.specs.Forest.{size}
use Rattle.merkle_base.specs.Heights.{peak_heights, IsLawful}
use Rattle.merkle_base.proofs.Births.{size_peaks}
use Rattle.merkle_fixtures.specs.Flat.{never}

-- each leaf is a peak
pub flat_peak_count : (n : ℕ) → length (peak_heights never n) ≡ n
unfolding peak_heights
flat_peak_count zero = refl
flat_peak_count (suc n) = omega (arith, flat_peak_count n)

-- and there are no other nodes
pub flat_size : (n : ℕ) → size never n ≡ n
flat_size n = omega (arith, size_peaks never n, flat_peak_count n)

pub flat_lawful : IsLawful never 64 64
flat_lawful = record {
  equal = λ n h. tt;
  at_most_64_peaks = λ n h. omega (arith, flat_peak_count n);
  size_at_limit = flat_size 64;
  limit_fits = omega arith;
}
