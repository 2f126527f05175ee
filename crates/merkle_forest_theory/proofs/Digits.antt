-- `EndsInOnes` against std's words.
use Rattle.std.proofs.Common.{◌≡◌, ℕ, ◌+◌, ◌*◌, ◌^◌, ◌-◌, ◌<◌, inl, inr, arith, ap, ◌∙◌, pow_pos, w64}
use Rattle.std.specs.Int.{bit_at, trailing_ones}
use Rattle.std.proofs.lemmas.Nat.Bits.{bit_at_lowest, bit_at_cat_low, bit_at_cat_high, bit_at_ones, bit_at-trailing_ones}
use Rattle.std.proofs.lemmas.Bool.{cases_order}
use Rattle.merkle_forest_theory.specs.Digits.{EndsInOnes}

ends_split : (t n : ℕ) → (e : EndsInOnes t n) → n ≡ 2 * e.0 * 2 ^ t + (2 ^ t - 1)
ends_split t n e = omega (arith, e.1, pow_pos t)

pub ends_below : (t n i : ℕ) → EndsInOnes t n → i < t → bit_at n i ≡ 1
ends_below t n i e l =
    ap (λ (x : ℕ). bit_at x i) (ends_split t n e) ∙ bit_at_cat_low (2 * e.0) t (2 ^ t - 1) i l ∙ bit_at_ones t i l

pub ends_at : (t n : ℕ) → EndsInOnes t n → bit_at n t ≡ 0
ends_at t n e =
    let z : t - t ≡ 0 = omega arith in
    ap (λ (x : ℕ). bit_at x t) (ends_split t n e) ∙ bit_at_cat_high (2 * e.0) t (2 ^ t - 1) t (omega (arith, pow_pos t)) (omega arith) ∙ ap (bit_at (2 * e.0)) z ∙ bit_at_lowest (2 * e.0) ∙ omega arith

-- what `u64::trailing_ones` answers
pub ends_trailing : (t n : ℕ) → EndsInOnes t n → n + 1 < 2 ^ 64 → trailing_ones w64 n ≡ t
ends_trailing t n e l =
    let k = bit_at-trailing_ones w64 n l in
    compare (trailing_ones w64 n) k.1 k.2
  where
    compare : (s : ℕ) → bit_at n s ≡ 0 → ((i : ℕ) → i < s → bit_at n i ≡ 1) → s ≡ t
    compare s z o = elim (cases_order s t) [
      | inl c ↦ c
      | inr b ↦ elim b [ inl a ↦ absurd (omega (arith, z, ends_below t n s e a)) | inr d ↦ absurd (omega (arith, o t d, ends_at t n e)) ]
    ]
