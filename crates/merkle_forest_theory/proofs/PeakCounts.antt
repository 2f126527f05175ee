-- How many peaks there are beside how high they are, up to the limits.
use Rattle.std.proofs.Common.{◌≡◌, ℕ, zero, suc, ◌+◌, ◌^◌, ◌<◌, ◌≤◌, ◌⊎◌, List, [], ◌∷◌, length, slice_index, arith, ap, inl, inr, subst}
use Rattle.std.specs.Int.{bit_at}
use Rattle.std.specs.Int.RustNames.{count_ones}
use Rattle.std.proofs.lemmas.Nat.{ones-le}
use Rattle.std.proofs.lemmas.Nat.Bits.{bit_at-lt}
use Rattle.merkle_base.specs.Heights.{peak_heights, weight}
use Rattle.merkle_base.proofs.Limits.{log_below}
use Rattle.merkle_forest_theory.specs.Mmr.{mmr_merges}
use Rattle.merkle_forest_theory.specs.Mmb.{mmb_merges}
use Rattle.merkle_forest_theory.specs.FewPeaks.{FewPeaks}
use Rattle.merkle_forest_theory.proofs.RangeLawful.{mmr_weight, mmr_peak_count, ones_pow}
use Rattle.merkle_forest_theory.proofs.BeltLawful.{mmb_peak_count}
use Rattle.merkle_forest_theory.proofs.MountainBelt.{mmb_peak_height}

weight_at : (hs : List ℕ) (i : ℕ) → i < length hs → 2 ^ slice_index hs i ≤ weight hs
weight_at [] i l = absurd (omega arith)
weight_at (h ∷ hs) zero l = omega arith
weight_at (h ∷ hs) (suc i) l = omega (arith, weight_at hs i (omega arith))

-- the other peaks and the path under this one are at most 122
pub mmr_few : FewPeaks mmr_merges (2 ^ 62)
mmr_few n i l b = elim (either n) [
  | inl h ↦ omega (arith, log_below (slice_index (peak_heights mmr_merges n) i) 62 n (omega (arith, weight_at (peak_heights mmr_merges n) i b, mmr_weight n)) h, ones-le 62 n h, mmr_peak_count n)
  | inr h ↦ omega (
    arith,
    log_below (slice_index (peak_heights mmr_merges n) i) 63 n
        (omega (arith, weight_at (peak_heights mmr_merges n) i b, mmr_weight n)) (omega arith),
    mmr_peak_count n,
    ap count_ones (eq n l h),
    ones_pow 62,
  )
]
  where
    either : (n : ℕ) → (n < 2 ^ 62) ⊎ (2 ^ 62 ≤ n)
    either n = grind arith

    eq : (n : ℕ) → n ≤ 2 ^ 62 → 2 ^ 62 ≤ n → n ≡ 2 ^ 62
    eq n a b = omega arith

top_bit : (n : ℕ) → 2 ^ 62 ≤ n + 1 → n ≤ 2 ^ 62 + 30 → bit_at (n + 1) 61 ≡ 0
top_bit n a b = omega arith

pub mmb_few : FewPeaks mmb_merges (2 ^ 62 + 30)
mmb_few n i l b =
    let c = mmb_peak_count n in
    let few : length (peak_heights mmb_merges n) < 63 = log_below (length (peak_heights mmb_merges n)) 63 (n + 1) c.0 (omega arith) in
    elim (either (length (peak_heights mmb_merges n)) i few b) [
      | inl h ↦ omega (arith, mmb_peak_height n i b, bit_at-lt (n + 1) i)
      | inr h ↦ (let low : 2 ^ 62 ≤ n + 1 = subst (λ (x : ℕ). 2 ^ x ≤ n + 1) h.0 c.0 in
          omega (arith, mmb_peak_height n i b, ap (bit_at (n + 1)) h.1, top_bit n low l))
    ]
  where
    either : (k i : ℕ) → k < 63 → i < k → (i + k + 1 ≤ 123) ⊎ ((k ≡ 62) × (i ≡ 61))
    either k i a b = grind arith
