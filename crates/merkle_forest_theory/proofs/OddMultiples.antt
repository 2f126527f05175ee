-- Odd multiples of powers of two.
use Rattle.std.proofs.Common.{◌≡◌, ◌≢◌, ℕ, suc, ◌+◌, ◌*◌, ◌^◌, ◌-◌, ◌<◌, ◌≤◌, arith, sym, ap, inl, inr, ◌∙◌, pow-suc, pow_pos, pow_mono, mul-le-mul_right}
use Rattle.std.proofs.Common.{le_of_mul-le-mul_right, le_antisymm, le_of_eq}
use Rattle.std.specs.Int.RustNames.{count_ones}
use Rattle.std.proofs.lemmas.Nat.{ones_cat, zero_from_ones}
use Rattle.std.proofs.lemmas.Bool.{cases_lt}
use Rattle.merkle_forest_theory.proofs.RangeLawful.{pow_split, ones_shift, ones_pow}

pub mul_cancel : (a b c : ℕ) → 0 < c → a * c ≡ b * c → a ≡ b
mul_cancel a b c p e = le_antisymm (le_of_mul-le-mul_right (le_of_eq e) p) (le_of_mul-le-mul_right (le_of_eq (sym e)) p)

-- where an odd multiple of 2 ^ k is a multiple of 2 ^ j, j is at most k
pub odd_below : (r c j k : ℕ) → (2 * r + 1) * 2 ^ k ≡ c * 2 ^ j → j ≤ k
odd_below r c j k e = elim (cases_lt k j) [
  | inl g ↦
      (let d : 2 ^ j ≡ 2 ^ (j - suc k) * 2 ^ suc k = pow_split (suc k) j g in
      let q : ℕ = 2 ^ (j - suc k) in
      let f : c * 2 ^ j ≡ c * (q * (2 ^ k * 2)) = ap (λ (x : ℕ). c * x) (d ∙ ap (λ (x : ℕ). q * x) (pow-suc 2 k)) in
      let same : 2 * r + 1 ≡ 2 * (c * q) = mul_cancel (2 * r + 1) (2 * (c * q)) (2 ^ k) (pow_pos k) (e ∙ f ∙ omega arith) in
      absurd (omega arith))
  | inr l ↦ l
]

-- no power of two is an odd number, other than 1, times a power of two
pub odd_no_power : (r j k : ℕ) → 0 < r → (2 * r + 1) * 2 ^ j ≡ 2 ^ k → ⊥
odd_no_power r j k p e =
    let l : k ≤ j = odd_below r 1 k j (e ∙ omega arith) in
    let m : 2 ^ k ≤ 2 ^ j = pow_mono l in
    let q : 2 * 2 ^ j ≤ 2 * r * 2 ^ j = mul-le-mul_right (2 ^ j) (omega arith) in
    let z : (2 * r + 1) * 2 ^ j ≡ 2 * r * 2 ^ j + 2 ^ j = omega arith in
    omega (arith, pow_pos j)

-- such a number has two ones or more
pub odd_ones : (r j : ℕ) → 0 < r → count_ones ((2 * r + 1) * 2 ^ j) ≢ 1
odd_ones r j p e =
    let twice : 2 * r + 1 ≡ r * 2 ^ 1 + 1 = omega arith in
    let more : count_ones (2 * r + 1) ≡ count_ones r + count_ones 1 = ap count_ones twice ∙ ones_cat 1 r 1 (omega arith) in
    let none : count_ones r ≡ 0 = omega (arith, e, ones_shift j (2 * r + 1), more, ones_pow 0) in
    omega (arith, zero_from_ones r none)
