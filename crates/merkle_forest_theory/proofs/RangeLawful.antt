-- Why the Mountain Range is lawful. The lemmas stand here, since the law of an `impl` cites nothing of `proofs`.
use Rattle.std.proofs.Common.{◌≡◌, ℕ, zero, suc, ◌+◌, ◌*◌, ◌^◌, ◌-◌, ◌<◌, ◌≤◌, List, [], ◌∷◌, length, arith, refl, sym, ap, inl, inr, ◌∙◌, pow-suc, pow-add, pow_pos}
use Rattle.std.specs.Int.RustNames.{count_ones}
use Rattle.std.proofs.lemmas.Nat.{ones_cat, ones-le}
use Rattle.std.proofs.lemmas.Bool.Decides.{eqb_tells}
use Rattle.merkle_base.specs.Forest.{size}
use Rattle.merkle_base.specs.Heights.{EqualAt, raised, all_raised, AreEqualMerges, peak_heights, IsLawful, weight}
use Rattle.merkle_base.proofs.Births.{size_peaks}
use Rattle.merkle_forest_theory.specs.Ascending.{AscendsFrom}
use Rattle.merkle_forest_theory.specs.Mmr.{mmr_merges, mmr_merges_from}

-- ---- the merges of the rule
-- each merge is of two equal peaks
pub mmr_merges_equal : (h : ℕ) (hs : List ℕ) → AreEqualMerges (mmr_merges_from h hs) (h ∷ hs)
mmr_merges_equal h [] = tt
mmr_merges_equal h (a ∷ hs) = elim (eqb_tells a h) [
  | inl e ↦ rw (e.0, e.1) (refl, mmr_merges_equal (suc h) hs)
  | inr e ↦ rw e.0 tt
]

-- the peaks' heights strictly increase from the newest on
pub carry_ascends : (k h : ℕ) (hs : List ℕ) → k ≤ h → AscendsFrom h hs → AscendsFrom k (all_raised (mmr_merges_from h hs) (h ∷ hs))
carry_ascends k h [] l a = (l, tt)
carry_ascends k h (b ∷ hs) l a = elim (eqb_tells b h) [
  | inl e ↦ rw (e.0, e.1) (carry_ascends k (suc h) hs (omega arith) (rw e.1 at a.1))
  | inr e ↦ rw e.0 (l, (omega (arith, a.0, e.1), a.1))
]

pub mmr_ascends : (n : ℕ) → AscendsFrom 0 (peak_heights mmr_merges n)
unfolding peak_heights
mmr_ascends zero = tt
mmr_ascends (suc n) = carry_ascends 0 0 (peak_heights mmr_merges n) (omega arith) (mmr_ascends n)

-- a merge of two equal peaks keeps the number of leaves
pub raised_weight : (i : ℕ) (hs : List ℕ) → EqualAt i hs → weight (raised i hs) ≡ weight hs
raised_weight i [] e = refl
raised_weight zero (b ∷ []) e = refl
raised_weight zero (b ∷ a ∷ hs) e = omega (arith, pow-suc 2 a, ap (λ (k : ℕ). 2 ^ k) e)
raised_weight (suc i) (h ∷ hs) e = omega (arith, raised_weight i hs e)

pub all_raised_weight : (is hs : List ℕ) → AreEqualMerges is hs → weight (all_raised is hs) ≡ weight hs
all_raised_weight [] hs e = refl
all_raised_weight (i ∷ is) hs e = all_raised_weight is (raised i hs) e.1 ∙ raised_weight i hs e.0

pub mmr_weight : (n : ℕ) → weight (peak_heights mmr_merges n) ≡ n
unfolding peak_heights
mmr_weight zero = refl
mmr_weight (suc n) =
    let hs : List ℕ = peak_heights mmr_merges n in
    omega (arith, all_raised_weight (mmr_merges_from 0 hs) (0 ∷ hs) (mmr_merges_equal 0 hs), mmr_weight n)

-- ---- the number of peaks
pub pow_split : (k h : ℕ) → k ≤ h → 2 ^ h ≡ 2 ^ (h - k) * 2 ^ k
pow_split k h l = let e : h ≡ h - k + k = omega arith in ap (λ (x : ℕ). 2 ^ x) e ∙ pow-add 2 (h - k) k

pub ascends_multiple : (k : ℕ) (hs : List ℕ) → AscendsFrom k hs → (a : ℕ) × (weight hs ≡ a * 2 ^ k)
ascends_multiple k [] h = (0, omega arith)
ascends_multiple k (h ∷ hs) a =
    let m = ascends_multiple (suc h) hs a.1 in
    let q : ℕ = 2 ^ (h - k) in
    let e : 2 ^ h ≡ q * 2 ^ k = pow_split k h a.0 in
    let d : 2 ^ suc h ≡ q * 2 ^ k * 2 = pow-suc 2 h ∙ ap (λ (x : ℕ). x * 2) e in
    let f : m.0 * 2 ^ suc h ≡ m.0 * (q * 2 ^ k * 2) = ap (λ (x : ℕ). m.0 * x) d in
    (q + m.0 * q * 2, omega (arith, m.1, e, f))

ones_zero : count_ones 0 ≡ 0
unfolding count_ones
ones_zero = refl

ones_one : count_ones 1 ≡ 1
unfolding count_ones
ones_one = refl

pub ones_shift : (k a : ℕ) → count_ones (a * 2 ^ k) ≡ count_ones a
ones_shift k a =
    let e : a * 2 ^ k ≡ a * 2 ^ k + 0 = omega arith in
    ap count_ones e ∙ omega (arith, ones_cat k a 0 (pow_pos k), ones_zero)

pub ones_pow : (k : ℕ) → count_ones (2 ^ k) ≡ 1
ones_pow k = let e : 2 ^ k ≡ 1 * 2 ^ k = omega arith in ap count_ones e ∙ ones_shift k 1 ∙ ones_one

pub ascends_ones : (k : ℕ) (hs : List ℕ) → AscendsFrom k hs → count_ones (weight hs) ≡ length hs
ascends_ones k [] h = ones_zero
ascends_ones k (h ∷ hs) a =
    let m = ascends_multiple (suc h) hs a.1 in
    let e : 2 ^ h + weight hs ≡ m.0 * 2 ^ suc h + 2 ^ h = omega (arith, m.1) in
    let below : 2 ^ h < 2 ^ suc h = omega (arith, pow-suc 2 h, pow_pos h) in
    ap count_ones e ∙ omega (arith, ones_cat (suc h) m.0 (2 ^ h) below, ones_pow h, ones_shift (suc h) m.0, ap count_ones m.1, ascends_ones (suc h) hs a.1)

pub mmr_peak_count : (n : ℕ) → length (peak_heights mmr_merges n) ≡ count_ones n
mmr_peak_count n = sym (ascends_ones 0 (peak_heights mmr_merges n) (mmr_ascends n)) ∙ ap count_ones (mmr_weight n)

-- ---- sizes
pub mmr_size : (n : ℕ) → size mmr_merges n ≡ 2 * n - count_ones n
mmr_size n = omega (arith, size_peaks mmr_merges n, mmr_peak_count n)

-- ---- lawful
pub mmr_lawful : IsLawful mmr_merges (2 ^ 62) (2 ^ 63 - 1)
mmr_lawful = record {
  equal = λ n h. mmr_merges_equal 0 (peak_heights mmr_merges n);
  at_most_64_peaks = λ n h. omega (arith, mmr_peak_count n, ones-le 63 n (omega arith));
  size_at_limit = omega (arith, mmr_size (2 ^ 62), ones_pow 62);
  limit_fits = omega arith;
}
