-- Why the Mountain Belt is lawful. The lemmas stand here, since the law of an `impl` cites nothing of `proofs`.
use Rattle.std.proofs.Common.{◌≡◌, ℕ, zero, suc, ◌+◌, ◌*◌, ◌^◌, ◌-◌, ◌<◌, ◌≤◌, Bool, true, false, eqb, List, [], ◌∷◌, length, map, arith, refl, ap, inl, inr, ◌∙◌, pow-suc}
use Rattle.std.proofs.lemmas.Bool.{eq-eqb}
use Rattle.std.proofs.lemmas.Bool.Decides.{eqb_tells}
use Rattle.merkle_base.specs.Forest.{size}
use Rattle.merkle_base.specs.Heights.{raised, all_raised, AreEqualMerges, peak_heights, IsLawful}
use Rattle.merkle_base.proofs.Births.{size_peaks}
use Rattle.merkle_base.proofs.Limits.{log_below}
use Rattle.merkle_forest_theory.specs.Mmb.{mmb_merges, mmb_merges_from}
use Rattle.merkle_forest_theory.specs.BeltDigits.{increment, digits_after, number_of_digits, spread}

-- ---- the merges of the rule
equal_merges_suc : (is : List ℕ) (h : ℕ) (hs : List ℕ) → AreEqualMerges is hs → AreEqualMerges (map suc is) (h ∷ hs)
equal_merges_suc [] h hs e = tt
equal_merges_suc (i ∷ is) h hs e = (e.0, equal_merges_suc is h (raised i hs) e.1)

-- a merge is of two equal peaks
pub pair_equal : (h : ℕ) (hs : List ℕ) → AreEqualMerges (mmb_merges_from h hs) (h ∷ hs)
pair_equal h [] = tt
pair_equal h (a ∷ hs) = elim (eqb_tells a h) [
  | inl e ↦ rw e.0 (e.1, tt)
  | inr e ↦ rw e.0 (equal_merges_suc (mmb_merges_from a hs) h (a ∷ hs) (pair_equal a hs))
]

pub eqb_same : (k : ℕ) → eqb k k ≡ true
eqb_same k = eq-eqb k k refl

pub eqb_suc : (k : ℕ) → eqb (suc k) k ≡ false
eqb_suc k = elim (eqb_tells (suc k) k) [ inl e ↦ absurd (omega (arith, e.1)) | inr e ↦ e.0 ]

-- ---- the heights count in binary
all_raised_suc : (is : List ℕ) (h : ℕ) (hs : List ℕ) → all_raised (map suc is) (h ∷ hs) ≡ h ∷ all_raised is hs
all_raised_suc [] h hs = refl
all_raised_suc (i ∷ is) h hs = all_raised_suc is h (raised i hs)

-- a leaf and its merge are one more
pub spread_step : (k : ℕ) (bs : List Bool) → all_raised (mmb_merges_from k (spread k bs)) (k ∷ spread k bs) ≡ spread k (increment bs)
spread_step k [] = refl
spread_step k (false ∷ bs) = rw (eqb_same k) refl
spread_step k (true ∷ bs) =
    rw (eqb_suc k, all_raised_suc (mmb_merges_from (suc k) (spread (suc k) bs)) k (suc k ∷ spread (suc k) bs)) (ap (λ (hs : List ℕ). k ∷ hs) (spread_step (suc k) bs))

pub mmb_heights : (n : ℕ) → peak_heights mmb_merges n ≡ spread 0 (digits_after n)
unfolding peak_heights digits_after
mmb_heights zero = refl
mmb_heights (suc n) = rw (mmb_heights n) (spread_step 0 (digits_after n))

pub number_of_digits-increment : (bs : List Bool) → number_of_digits (increment bs) ≡ suc (number_of_digits bs)
number_of_digits-increment [] = refl
number_of_digits-increment (false ∷ bs) = omega arith
number_of_digits-increment (true ∷ bs) = omega (arith, number_of_digits-increment bs)

pub number_of_digits-digits_after : (n : ℕ) → number_of_digits (digits_after n) ≡ n + 1
unfolding digits_after
number_of_digits-digits_after zero = refl
number_of_digits-digits_after (suc n) = omega (arith, number_of_digits-increment (digits_after n), number_of_digits-digits_after n)

-- ---- the number of peaks
pub number_of_digits_low : (bs : List Bool) → 2 ^ length bs ≤ number_of_digits bs
number_of_digits_low [] = omega arith
number_of_digits_low (true ∷ bs) = omega (arith, number_of_digits_low bs, pow-suc 2 (length bs))
number_of_digits_low (false ∷ bs) = omega (arith, number_of_digits_low bs, pow-suc 2 (length bs))

pub number_of_digits_high : (bs : List Bool) → number_of_digits bs < 2 ^ suc (length bs)
number_of_digits_high [] = omega arith
number_of_digits_high (true ∷ bs) = omega (arith, number_of_digits_high bs, pow-suc 2 (suc (length bs)))
number_of_digits_high (false ∷ bs) = omega (arith, number_of_digits_high bs, pow-suc 2 (suc (length bs)))

pub length-spread : (k : ℕ) (bs : List Bool) → length (spread k bs) ≡ length bs
length-spread k [] = refl
length-spread k (b ∷ bs) = ap suc (length-spread (suc k) bs)

-- no two numbers are the binary logarithm of one
pub same_log : (a b n : ℕ) → 2 ^ a ≤ n → n < 2 ^ suc a → 2 ^ b ≤ n → n < 2 ^ suc b → a ≡ b
same_log a b n la ha lb hb = omega (arith, log_below a (suc b) n la hb, log_below b (suc a) n lb ha)

-- it is the binary logarithm of n + 1
pub mmb_peak_count : (n : ℕ) → (2 ^ length (peak_heights mmb_merges n) ≤ n + 1) × (n + 1 < 2 ^ suc (length (peak_heights mmb_merges n)))
mmb_peak_count n =
    let e : length (peak_heights mmb_merges n) ≡ length (digits_after n) = ap length (mmb_heights n) ∙ length-spread 0 (digits_after n) in
    rw e (omega (arith, number_of_digits_low (digits_after n), number_of_digits-digits_after n), omega (arith, number_of_digits_high (digits_after n), number_of_digits-digits_after n))

-- ---- sizes
pub mmb_size : (n k : ℕ) → 2 ^ k ≤ n + 1 → n + 1 < 2 ^ suc k → size mmb_merges n ≡ 2 * n - k
mmb_size n k low high =
    let c = mmb_peak_count n in
    let e : length (peak_heights mmb_merges n) ≡ k = same_log (length (peak_heights mmb_merges n)) k (n + 1) c.0 c.1 low high in
    omega (arith, size_peaks mmb_merges n, e)

-- ---- lawful
pub mmb_lawful : IsLawful mmb_merges (2 ^ 62 + 30) (2 ^ 63 - 2)
mmb_lawful = record {
  equal = λ n h. pair_equal 0 (peak_heights mmb_merges n);
  at_most_64_peaks = λ n h. omega (arith, log_below (length (peak_heights mmb_merges n)) 64 (n + 1) (mmb_peak_count n).0 (omega arith));
  size_at_limit = mmb_size (2 ^ 62 + 30) 62 (omega arith) (omega arith);
  limit_fits = omega arith;
}
