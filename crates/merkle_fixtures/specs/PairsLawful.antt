-- Why the family of pairs is lawful. The lemmas stand here, since the law of an `impl` cites nothing of `proofs`.
use Rattle.std.proofs.Common.{◌≡◌, ℕ, zero, suc, ◌+◌, ◌*◌, ◌≤◌, ◌⊎◌, List, [], ◌∷◌, length, arith, refl, ap, inl, inr}
use Rattle.merkle_base.specs.Forest.{size}
use Rattle.merkle_base.specs.Heights.{AreEqualMerges, peak_heights, IsLawful}
use Rattle.merkle_base.proofs.Births.{size_peaks}
use Rattle.merkle_fixtures.specs.Pairs.{pairing}

-- each merge is of two equal peaks
pub pairing_equal : (hs : List ℕ) → AreEqualMerges (pairing (0 ∷ hs)) (0 ∷ hs)
pairing_equal [] = tt
pairing_equal (zero ∷ hs) = (refl, tt)
pairing_equal (suc a ∷ hs) = tt

-- as many ones
abbrev pub ones : ℕ → List ℕ
ones zero = []
ones (suc k) = 1 ∷ ones k

pub length-ones : (k : ℕ) → length (ones k) ≡ k
length-ones zero = refl
length-ones (suc k) = omega (arith, length-ones k)

heights_odd : (k n : ℕ) → peak_heights pairing n ≡ ones k → peak_heights pairing (suc n) ≡ 0 ∷ ones k
unfolding peak_heights
heights_odd zero n e = rw e refl
heights_odd (suc k) n e = rw e refl

heights_even : (k n : ℕ) → peak_heights pairing n ≡ 0 ∷ ones k → peak_heights pairing (suc n) ≡ ones (suc k)
unfolding peak_heights
heights_even k n e = rw e refl

heights_none : peak_heights pairing 0 ≡ []
unfolding peak_heights
heights_none = refl

-- every pair is a peak of height 1
pub heights_paired : (k : ℕ) → peak_heights pairing (2 * k) ≡ ones k
heights_paired zero = (let e : 2 * 0 ≡ 0 = omega arith in rw e heights_none)
heights_paired (suc k) =
    let e : 2 * suc k ≡ suc (suc (2 * k)) = omega arith in
    rw e (heights_even k (suc (2 * k)) (heights_odd k (2 * k) (heights_paired k)))

-- and a last leaf without another is a peak
pub heights_single : (k : ℕ) → peak_heights pairing (2 * k + 1) ≡ 0 ∷ ones k
heights_single k = (let e : 2 * k + 1 ≡ suc (2 * k) = omega arith in rw e (heights_odd k (2 * k) (heights_paired k)))

pub size_paired : (k : ℕ) → size pairing (2 * k) ≡ 3 * k
size_paired k = omega (arith, size_peaks pairing (2 * k), ap length (heights_paired k), length-ones k)

pub size_single : (k : ℕ) → size pairing (2 * k + 1) ≡ 3 * k + 1
size_single k = omega (arith, size_peaks pairing (2 * k + 1), ap length (heights_single k), length-ones k)

-- a count of leaves is a number of pairs, with a single leaf or without
pub halves : (n : ℕ) → (k : ℕ) × ((n ≡ 2 * k) ⊎ (n ≡ 2 * k + 1))
halves zero = (0, inl (omega arith))
halves (suc n) = (let h = halves n in elim h.1 [ inl e ↦ (h.0, inr (omega arith)) | inr e ↦ (suc h.0, inl (omega arith)) ])

pub peak_count : (n : ℕ) → length (peak_heights pairing n) * 2 ≤ n + 1
peak_count n = (let h = halves n in elim h.1 [
  | inl e ↦ rw e (omega (arith, ap length (heights_paired h.0), length-ones h.0))
  | inr e ↦ rw e (omega (arith, ap length (heights_single h.0), length-ones h.0))
])

pub pairs_lawful : IsLawful pairing 100 150
pairs_lawful = record {
  equal = λ n h. pairing_equal (peak_heights pairing n);
  at_most_64_peaks = λ n h. omega (arith, peak_count n);
  size_at_limit = size_paired 50;
  limit_fits = omega arith;
}
