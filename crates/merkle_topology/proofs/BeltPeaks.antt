-- The peaks of the Mountain Belt, counted from the newest: where each has its leaves, and so where it stands.
use Rattle.std.proofs.Common.{◌≡◌, ℕ, zero, suc, ◌+◌, ◌*◌, ◌^◌, ◌-◌, ◌/◌, ◌%◌, ◌<◌, ◌≤◌, Bool, true, false, List, [], ◌∷◌, ◌++◌, length, map, reverse, take}
use Rattle.std.proofs.Common.{Some, slice_get, slice_index, unwrap_or, Option, arith, sym, ap, ◌∙◌, pow-suc}
use Rattle.std.proofs.Math.Nat.{div-one}
use Rattle.std.proofs.Math.Seq.{take-suc, take-length}
use Rattle.std.proofs.lemmas.List.{length-map, length-reverse, length-take-le, reverse-append}
use Rattle.std.proofs.Math.Pow.{shr_mono}
use Rattle.std.proofs.lemmas.Nat.{shr-shr, shl-shr, one_shl}
use Rattle.std.proofs.lemmas.Option.{unwrap_or-slice_get}
use Rattle.merkle_base.specs.Tree.{Tree, position, height, first_leaf}
use Rattle.merkle_base.specs.Forest.{forest, size}
use Rattle.merkle_base.specs.Heights.{peak_heights, weight}
use Rattle.merkle_base.specs.Places.{placed, peaks_of}
use Rattle.merkle_forest_theory.specs.Mmb.{mmb_merges, birth_leaf, mmb_position, newest_peaks}
use Rattle.merkle_forest_theory.specs.BeltDigits.{digits_after, number_of_digits, spread}
use Rattle.merkle_forest_theory.proofs.BeltLawful.{mmb_heights, number_of_digits-digits_after, length-spread, mmb_peak_count, same_log}
use Rattle.merkle_base.proofs.Lists.{get_below, get_exists}
use Rattle.merkle_base.proofs.Nodes.{size_le}
use Rattle.merkle_base.proofs.Lookup.{peak_node, peak_first}
use Rattle.merkle_base.proofs.Balance.{heights_forest}
use Rattle.merkle_base.proofs.Limits.{log_below}
use Rattle.merkle_forest_theory.proofs.MountainBelt.{mmb_equal, mmb_peak_height, mmb_placed}

-- ---- the leaves under the newest peaks
half_shr : (n m i : ℕ) → n / 2 ≡ m → n / 2 ^ suc i ≡ m / 2 ^ i
half_shr n m i e =
    let s : 1 + i ≡ suc i = omega arith in
    sym (shr-shr n 1 i ∙ ap (λ (x : ℕ). n / 2 ^ x) s) ∙ ap (λ (x : ℕ). x / 2 ^ i) e

-- with digit i and all above it moved to the end
weight_spread : (k i : ℕ) (bs : List Bool) → i ≤ length bs → weight (take i (spread k bs)) + number_of_digits bs / 2 ^ i * 2 ^ (k + i) + 2 ^ k ≡ number_of_digits bs * 2 ^ k + 2 ^ (k + i)
weight_spread k zero bs l = let e : k + 0 ≡ k = omega arith in rw (e, div-one (number_of_digits bs)) (omega arith)
weight_spread k (suc i) [] l = absurd (omega arith)
weight_spread k (suc i) (true ∷ bs) l =
    let e : k + suc i ≡ suc k + i = omega arith in
    let h : (1 + 2 * number_of_digits bs) / 2 ≡ number_of_digits bs = omega arith in
    rw (e, half_shr (1 + 2 * number_of_digits bs) (number_of_digits bs) i h)
    (omega (arith, weight_spread (suc k) i bs (omega arith), pow-suc 2 k, ap (λ (x : ℕ). number_of_digits bs * x) (pow-suc 2 k)))
weight_spread k (suc i) (false ∷ bs) l =
    let e : k + suc i ≡ suc k + i = omega arith in
    let h : (0 + 2 * number_of_digits bs) / 2 ≡ number_of_digits bs = omega arith in
    rw (e, half_shr (0 + 2 * number_of_digits bs) (number_of_digits bs) i h)
    (omega (arith, weight_spread (suc k) i bs (omega arith), pow-suc 2 k, ap (λ (x : ℕ). number_of_digits bs * x) (pow-suc 2 k)))

weight_newest : (n i : ℕ) → i ≤ length (peak_heights mmb_merges n) → weight (take i (peak_heights mmb_merges n)) + (n + 1) / 2 ^ i * 2 ^ i ≡ n + 2 ^ i
weight_newest n i l =
    let e : length (peak_heights mmb_merges n) ≡ length (digits_after n) = ap length (mmb_heights n) ∙ length-spread 0 (digits_after n) in
    let z : 0 + i ≡ i = omega arith in
    let w : weight (take i (spread 0 (digits_after n))) + number_of_digits (digits_after n) / 2 ^ i * 2 ^ (0 + i) + 2 ^ 0
    ≡ number_of_digits (digits_after n) * 2 ^ 0 + 2 ^ (0 + i) = weight_spread 0 i (digits_after n) (omega (arith, e)) in
    let v : weight (take i (spread 0 (digits_after n))) + (n + 1) / 2 ^ i * 2 ^ i + 1 ≡ (n + 1) * 1 + 2 ^ i = rw (z, number_of_digits-digits_after n) at w in
    omega (arith, v, ap (λ (hs : List ℕ). weight (take i hs)) (mmb_heights n))

weight_suc : (hs : List ℕ) (i : ℕ) → i < length hs → weight (take (suc i) hs) ≡ weight (take i hs) + 2 ^ slice_index hs i
weight_suc [] i l = absurd (omega arith)
weight_suc (h ∷ hs) zero l = omega arith
weight_suc (h ∷ hs) (suc i) l = omega (arith, weight_suc hs i (omega arith))

-- ---- the peak at an index
-- its height, and the end of its leaves
abbrev pub peak_height : (n i : ℕ) → ℕ
peak_height n i = i + (n + 1) / 2 ^ i % 2

abbrev pub peak_end : (n i : ℕ) → ℕ
peak_end n i = ((n + 1) / 2 ^ i - 1) * 2 ^ i

some_shr : (x i : ℕ) → 2 ^ i ≤ x → 1 ≤ x / 2 ^ i
some_shr x i l =
    let e : 1 * 2 ^ i ≡ 2 ^ i = omega arith in
    omega (arith, shl-shr 1 i, ap (λ (y : ℕ). y / 2 ^ i) e, shr_mono i l)

one_less : (q w : ℕ) → 1 ≤ q → (q - 1) * w + w ≡ q * w
one_less zero w l = absurd (omega arith)
one_less (suc q) w l = (let e : suc q - 1 ≡ q = omega arith in rw e (omega arith))

-- where a root is, the leaf that it is created with is too
pub birth_below : (s h n : ℕ) → mmb_position s h < size mmb_merges n → birth_leaf s h < n
birth_below s zero n l = grind (arith, size_le mmb_merges n s)
birth_below s (suc h) n l = grind (arith, size_le mmb_merges n (s + 3 * 2 ^ h - 2))

take_get : (ts : List Tree) (i : ℕ) (t : Tree) → slice_get ts i ≡ Some t → take (suc i) ts ≡ take i ts ++ t ∷ []
take_get ts i t e =
    take-suc ts i t (get_below ts i t e) ∙ ap (λ (u : Tree). take i ts ++ u ∷ []) (sym (unwrap_or-slice_get ts i t) ∙ ap (λ (o : Option Tree). unwrap_or o t) e)

-- What holds of peak i of n leaves.
pub record IsPeak (n i : ℕ) : Type 0 where
  pub positive : 1 ≤ (n + 1) / 2 ^ i
  pub fits : 2 ^ peak_height n i ≤ peak_end n i
  pub last : peak_end n i ≤ n
  pub birth : birth_leaf (peak_end n i - 2 ^ peak_height n i) (peak_height n i) < n
  pub first : newest_peaks (suc i) n ≡ (mmb_position (peak_end n i - 2 ^ peak_height n i) (peak_height n i), peak_height n i) ∷ newest_peaks i n

pub peak_count : (n k : ℕ) → 2 ^ k ≤ n + 1 → k ≤ length (peak_heights mmb_merges n)
peak_count n k l = omega (arith, log_below k (suc (length (peak_heights mmb_merges n))) (n + 1) l (mmb_peak_count n).1)

length-peaks : (n : ℕ) → length (forest mmb_merges n).peaks ≡ length (peak_heights mmb_merges n)
length-peaks n = sym (length-map (forest mmb_merges n).peaks height) ∙ ap length (heights_forest mmb_merges n)

pub mmb_peak : (n i : ℕ) → 2 ^ suc i ≤ n + 1 → IsPeak n i
mmb_peak n i l =
    let w : 2 ^ suc i ≡ 2 ^ i * 2 = pow-suc 2 i in
    let within : suc i ≤ length (peak_heights mmb_merges n) = peak_count n (suc i) l in
    let positive : 1 ≤ (n + 1) / 2 ^ i = some_shr (n + 1) i (omega arith) in
    let g = get_exists (forest mmb_merges n).peaks i (omega (arith, length-peaks n)) in
    let t : Tree = g.0 in
    let f = peak_first mmb_merges n (mmb_equal n) i t g.1 in
    let high : height t ≡ peak_height n i = f.1 ∙ mmb_peak_height n i within in
    let same : 2 ^ slice_index (peak_heights mmb_merges n) i ≡ 2 ^ height t = ap (λ (x : ℕ). 2 ^ x) (sym f.1) in
    let less = one_less ((n + 1) / 2 ^ i) (2 ^ i) positive in
    let end : first_leaf t + 2 ^ height t ≡ peak_end n i =
    omega (arith, f.0, weight_suc (peak_heights mmb_merges n) i within, same, weight_newest n i (omega arith), less) in
    let up : 2 ^ height t ≡ 2 ^ peak_height n i = ap (λ (x : ℕ). 2 ^ x) high in
    let start : first_leaf t ≡ peak_end n i - 2 ^ peak_height n i = omega arith in
    let node = peak_node mmb_merges n i t g.1 in
    let root : position t ≡ mmb_position (peak_end n i - 2 ^ peak_height n i) (peak_height n i) =
    (mmb_placed n (position t) t node).position ∙ ap (λ (x : ℕ). mmb_position x (height t)) start ∙ ap (mmb_position (peak_end n i - 2 ^ peak_height n i)) high in
    let turned : reverse (take (suc i) (forest mmb_merges n).peaks) ≡ t ∷ reverse (take i (forest mmb_merges n).peaks) =
    ap reverse (take_get (forest mmb_merges n).peaks i t g.1) ∙ reverse-append (take i (forest mmb_merges n).peaks) (t ∷ []) in
    record {
      positive = positive;
      fits = omega arith;
      last = omega (arith, weight_newest n i (omega arith), less);
      birth = birth_below (peak_end n i - 2 ^ peak_height n i) (peak_height n i) n (omega (arith, root, get_below (forest mmb_merges n).nodes (position t) t node));
      first = ap (map placed) turned ∙ ap (λ (p : ℕ). (p, height t) ∷ newest_peaks i n) root
          ∙ ap (λ (h : ℕ). (mmb_position (peak_end n i - 2 ^ peak_height n i) (peak_height n i), h) ∷ newest_peaks i n) high;
    }

-- the numbers that say so fit 64 bits
pub record PeakFits (n i : ℕ) : Type 0 where
  pub index : i < 63
  pub height : peak_height n i < 63
  pub end : peak_end n i % 18446744073709551616 ≡ peak_end n i
  pub width : 1 * 2 ^ peak_height n i % 18446744073709551616 ≡ 2 ^ peak_height n i

pub peak_fits : (n i : ℕ) → n ≤ 4611686018427387934 → 2 ^ suc i ≤ n + 1 → PeakFits n i
peak_fits n i small l =
    let k = mmb_peak n i l in
    let low : peak_height n i < 63 = log_below (peak_height n i) 63 n (omega (arith, k.fits, k.last)) (omega arith) in
    record {
      index = omega (arith, log_below (suc i) 63 (n + 1) l (omega arith));
      height = low;
      end = omega (arith, k.last);
      width = one_shl (peak_height n i) 64 (omega arith);
    }

-- ---- the number of peaks
pub length-newest_peaks : (k n : ℕ) → 2 ^ k ≤ n + 1 → length (newest_peaks k n) ≡ k
length-newest_peaks k n l =
    length-map (reverse (take k (forest mmb_merges n).peaks)) placed ∙ length-reverse (take k (forest mmb_merges n).peaks)
    ∙ length-take-le k (forest mmb_merges n).peaks (omega (arith, peak_count n k l, length-peaks n))

-- all of them, where they are as many as the binary logarithm of n + 1
pub newest_all : (k n : ℕ) → 2 ^ k ≤ n + 1 → n + 1 < 2 ^ suc k → newest_peaks k n ≡ map placed (peaks_of mmb_merges n)
newest_all k n low high =
    let c = mmb_peak_count n in
    let e : k ≡ length (forest mmb_merges n).peaks = same_log k (length (peak_heights mmb_merges n)) (n + 1) low high c.0 c.1 ∙ sym (length-peaks n) in
    ap (λ (x : ℕ). newest_peaks x n) e ∙ ap (λ (ts : List Tree). map placed (reverse ts)) (take-length (forest mmb_merges n).peaks)
