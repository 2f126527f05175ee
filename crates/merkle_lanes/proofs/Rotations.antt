-- Rotations of a word of 32 bits, bit by bit, and rotations inside one another.
use Rattle.std.proofs.Common.{◌≡◌, ℕ, ◌+◌, ◌-◌, ◌*◌, ◌/◌, ◌%◌, ◌^◌, ◌<◌, ◌≤◌, max, bit_or, bit_xor, arith, refl, sym, ap, inl, inr, ◌∙◌}
use Rattle.std.specs.Int.{bit_at, rotate_right, w32}
use Rattle.std.specs.Int.Bits.{xor_assoc}
use Rattle.std.proofs.lemmas.Bool.{cases_lt}
use Rattle.std.proofs.lemmas.Nat.{or_lt, pow_pos, shr-shr, shr_le, xor_lt}
use Rattle.std.proofs.lemmas.Nat.Bits.{bit_at-zero, bit_at_above, bit_at_cat_high, bit_at_cat_low, bit_at_or, bit_at_xor, same_from_bits_below}

rotate_shifts : (x k : ℕ) → 0 < k → k < 32 → rotate_right w32 x k ≡ bit_or (x / 2 ^ k) (x * 2 ^ (32 - k) % 2 ^ 32)
rotate_shifts x k low high =
    let right : k % 32 ≡ k = omega arith in
    let left : (32 - k) % 32 ≡ 32 - k = omega arith in
    rw (right, left) refl

rotate_lt : (x k : ℕ) → x < 2 ^ 32 → 0 < k → k < 32 → rotate_right w32 x k < 2 ^ 32
rotate_lt x k fits low high = rw (rotate_shifts x k low high) (or_lt 32 (x / 2 ^ k) (x * 2 ^ (32 - k) % 2 ^ 32) (omega (arith, shr_le x k)) (omega arith))

bit_at_low_word : (x i : ℕ) → i < 32 → bit_at (x % 2 ^ 32) i ≡ bit_at x i
bit_at_low_word x i low =
    let parts : x / 2 ^ 32 * 2 ^ 32 + x % 2 ^ 32 ≡ x = omega arith in
    sym (bit_at_cat_low (x / 2 ^ 32) 32 (x % 2 ^ 32) i low) ∙ ap (λ y. bit_at y i) parts

-- a bit after a shift to the left
bit_at_shl_below : (x k i : ℕ) → i < k → bit_at (x * 2 ^ k) i ≡ 0
bit_at_shl_below x k i low = let whole : x * 2 ^ k ≡ x * 2 ^ k + 0 = omega arith in ap (λ y. bit_at y i) whole ∙ bit_at_cat_low x k 0 i low ∙ bit_at-zero i

bit_at_shl : (x k i : ℕ) → k ≤ i → bit_at (x * 2 ^ k) i ≡ bit_at x (i - k)
bit_at_shl x k i high = let whole : x * 2 ^ k ≡ x * 2 ^ k + 0 = omega arith in ap (λ y. bit_at y i) whole ∙ bit_at_cat_high x k 0 i (pow_pos k) high

bit_at_rotate : (x k i : ℕ) → x < 2 ^ 32 → 0 < k → k < 32 → i < 32 → bit_at (rotate_right w32 x k) i ≡ bit_at x ((i + k) % 32)
bit_at_rotate x k i fits low high within =
    let down : ℕ = bit_at (x / 2 ^ k) i in
    let up : ℕ = bit_at (x * 2 ^ (32 - k) % 2 ^ 32) i in
    let both : bit_at (rotate_right w32 x k) i ≡ max down up = ap (λ y. bit_at y i) (rotate_shifts x k low high) ∙ bit_at_or (x / 2 ^ k) (x * 2 ^ (32 - k) % 2 ^ 32) i in
    let lower : down ≡ bit_at x (k + i) = ap (λ y. y % 2) (shr-shr x k i) in
    let upper : up ≡ bit_at (x * 2 ^ (32 - k)) i = bit_at_low_word (x * 2 ^ (32 - k)) i within in
    elim (cases_lt (i + k) 32) [
      | inl l ↦ (let place : k + i ≡ (i + k) % 32 = omega arith in
          let none : up ≡ 0 = upper ∙ bit_at_shl_below x (32 - k) i (omega arith) in
          let is : max down up ≡ bit_at x (k + i) = omega (arith, none, lower) in
          both ∙ is ∙ ap (bit_at x) place)
      | inr l ↦ (let place : i - (32 - k) ≡ (i + k) % 32 = omega arith in
          let none : down ≡ 0 = lower ∙ bit_at_above x 32 (k + i) fits (omega arith) in
          let is : max down up ≡ bit_at x (i - (32 - k)) = omega (arith, none, upper, bit_at_shl x (32 - k) i (omega arith)) in
          both ∙ is ∙ ap (bit_at x) place)
    ]

rotate_xor : (x y k : ℕ) → x < 2 ^ 32 → y < 2 ^ 32 → 0 < k → k < 32 → rotate_right w32 (bit_xor x y) k ≡ bit_xor (rotate_right w32 x k) (rotate_right w32 y k)
rotate_xor x y k fits_x fits_y low high =
    let both : bit_xor x y < 2 ^ 32 = xor_lt 32 x y fits_x fits_y in
    same_from_bits_below 32 _ _ (rotate_lt (bit_xor x y) k both low high) (xor_lt 32 _ _ (rotate_lt x k fits_x low high) (rotate_lt y k fits_y low high)) (λ i l.
    bit_at_rotate (bit_xor x y) k i both low high l ∙ bit_at_xor x y ((i + k) % 32)
    ∙ sym (bit_at_xor (rotate_right w32 x k) (rotate_right w32 y k) i ∙ rw (bit_at_rotate x k i fits_x low high l, bit_at_rotate y k i fits_y low high l) refl))

rotate_rotate : (x j k : ℕ) → x < 2 ^ 32 → 0 < j → 0 < k → k + j < 32 → rotate_right w32 (rotate_right w32 x j) k ≡ rotate_right w32 x (k + j)
rotate_rotate x j k fits more_j more_k high =
    let inner : rotate_right w32 x j < 2 ^ 32 = rotate_lt x j fits more_j (omega arith) in
    same_from_bits_below 32 _ _ (rotate_lt (rotate_right w32 x j) k inner more_k (omega arith)) (rotate_lt x (k + j) fits (omega arith) high) (λ i l.
    (let place : ((i + k) % 32 + j) % 32 ≡ (i + (k + j)) % 32 = omega arith in
    bit_at_rotate (rotate_right w32 x j) k i inner more_k (omega arith) l ∙ bit_at_rotate x j ((i + k) % 32) fits more_j (omega arith) (omega arith)
    ∙ ap (bit_at x) place ∙ sym (bit_at_rotate x (k + j) i fits (omega arith) high l)))

-- two rotations of x, the second inside the first
pub rotate_two : (x a b : ℕ) → x < 2 ^ 32 → 0 < a → 0 < b → a + b < 32
    → rotate_right w32 (bit_xor x (rotate_right w32 x b)) a ≡ bit_xor (rotate_right w32 x a) (rotate_right w32 x (a + b))
rotate_two x a b fits more_a more_b high =
    rotate_xor x (rotate_right w32 x b) a fits (rotate_lt x b fits more_b (omega arith)) more_a (omega arith)
    ∙ ap (bit_xor (rotate_right w32 x a)) (rotate_rotate x b a fits more_b more_a high)

-- three, each inside the one before
pub rotate_three : (x a b c : ℕ) → x < 2 ^ 32 → 0 < a → 0 < b → 0 < c → a + (b + c) < 32
    → rotate_right w32 (bit_xor x (rotate_right w32 (bit_xor x (rotate_right w32 x c)) b)) a
    ≡ bit_xor (bit_xor (rotate_right w32 x a) (rotate_right w32 x (a + b))) (rotate_right w32 x (a + (b + c)))
rotate_three x a b c fits more_a more_b more_c high =
    let near : ℕ = rotate_right w32 x b in
    let far : ℕ = rotate_right w32 x (b + c) in
    let near_fits : near < 2 ^ 32 = rotate_lt x b fits more_b (omega arith) in
    let far_fits : far < 2 ^ 32 = rotate_lt x (b + c) fits (omega arith) (omega arith) in
    ap (λ (y : ℕ). rotate_right w32 (bit_xor x y) a) (rotate_two x b c fits more_b more_c (omega arith))
    ∙ rotate_xor x (bit_xor near far) a fits (xor_lt 32 near far near_fits far_fits) more_a (omega arith)
    ∙ ap (bit_xor (rotate_right w32 x a)) (rotate_xor near far a near_fits far_fits more_a (omega arith)
    ∙ rw (rotate_rotate x b a fits more_b more_a (omega arith), rotate_rotate x (b + c) a fits (omega arith) more_a high) refl)
    ∙ sym (xor_assoc (rotate_right w32 x a) (rotate_right w32 x (a + b)) (rotate_right w32 x (a + (b + c))))
