-- A message of 64 bytes is two blocks: the message, and the padding.
use Rattle.std.proofs.Common.{◌≡◌, ℕ, ◌+◌, ◌/◌, ◌≤◌, List, ◌++◌, length, take, drop, arith, refl, ap, sym, ◌∙◌, length-append}
use Rattle.std.proofs.Math.Seq.{drop-append_seam, take-length}
use Rattle.sha2.specs.Sha256.{compress, digest_bytes, hash_after, initial_hash_256, padded_message, padding, sha256, word_at}
use Rattle.merkle_lanes.proofs.Words.{word_in_first_block, word_left, word_right}

-- the padded message is two blocks
two_blocks : (m : List ℕ) → length m ≡ 64 → length (padded_message m) / 64 ≡ 2
two_blocks m long =
    let e : length (padding (length m)) ≡ 64 = ap (λ (n : ℕ). length (padding n)) long in
    let whole : length (padded_message m) ≡ length m + length (padding (length m)) = length-append m (padding (length m)) in
    omega (arith, whole, e)

-- the second block is the padding
second_block : (m : List ℕ) → length m ≡ 64 → take 64 (drop 64 (padded_message m)) ≡ padding 64
second_block m long =
    let seam : drop 64 (padded_message m) ≡ padding (length m) =
    ap (λ (n : ℕ). drop n (padded_message m)) (sym long) ∙ drop-append_seam m (padding (length m)) in
    ap (λ (p : List ℕ). take 64 p) (seam ∙ ap padding long) ∙ take-length (padding 64)

-- the digest by the two blocks
pub digest_by_halves : (m s t : List ℕ) → length m ≡ 64 → s ≡ compress initial_hash_256 (take 64 (drop 0 (padded_message m)))
    → t ≡ compress s (padding 64) → digest_bytes t 8 ≡ sha256 m
unfolding sha256 hash_after
digest_by_halves m s t long es et = rw (et, es, two_blocks m long, second_block m long) refl

module _ (a b : List ℕ) (la : length a ≡ 32) (lb : length b ≡ 32) where
  in_block : (i : ℕ) → i + 4 ≤ 64 → word_at (a ++ b) (0 + i) ≡ word_at (take 64 (drop 0 (padded_message (a ++ b)))) i
  in_block i h = word_in_first_block (a ++ b) i (omega (arith, length-append a b, la, lb)) h

  -- a word of the first half, as one of the first block
  pub first_half_word : (i : ℕ) → i + 4 ≤ 32 → word_at a i ≡ word_at (take 64 (drop 0 (padded_message (a ++ b)))) i
  first_half_word i h =
      let place : 0 + i ≡ i = omega arith in
      sym (word_left a b i (omega (arith, la))) ∙ ap (word_at (a ++ b)) (sym place) ∙ in_block i (omega arith)

  -- a word of the second half
  pub second_half_word : (i : ℕ) → i + 4 ≤ 32 → word_at b i ≡ word_at (take 64 (drop 0 (padded_message (a ++ b)))) (32 + i)
  second_half_word i h = sym (word_right a b 32 i (0 + (32 + i)) la (omega arith)) ∙ in_block (32 + i) (omega arith)
