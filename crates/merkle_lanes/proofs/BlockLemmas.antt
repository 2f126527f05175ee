-- Blocks of a message, and the digest by those of a padded message.
use Rattle.std.proofs.Common.{◌≡◌, ◌≢◌, ℕ, ◌+◌, ◌*◌, ◌/◌, ◌<◌, ◌≤◌, List, ◌++◌, length, take, drop, slice_index, refl, sym, ap, ◌∙◌, arith, inl, inr}
use Rattle.std.proofs.lemmas.Bool.{cases_lt}
use Rattle.std.proofs.lemmas.List.{take-append-drop}
use Rattle.std.proofs.lemmas.Simd.{get_or-chunk}
use Rattle.sha2.specs.Sha256.{digest_bytes, hash_after, initial_hash_256, padded_message, sha256, word_at}
use Rattle.sha2.proofs.Absorbing256.{hash_after-append}

-- a word by its four bytes
pub word_by_bytes : (a b : List ℕ) (i k : ℕ) → slice_index a i ≡ slice_index b k → slice_index a (i + 1) ≡ slice_index b (k + 1)
    → slice_index a (i + 2) ≡ slice_index b (k + 2) → slice_index a (i + 3) ≡ slice_index b (k + 3) → word_at a i ≡ word_at b k
word_by_bytes a b i k e0 e1 e2 e3 = rw (e0, e1, e2, e3) refl

-- a word of a block
pub block_word : (p : List ℕ) (n i : ℕ) → i + 4 ≤ 64 → word_at (take 64 (drop n p)) i ≡ word_at p (n + i)
block_word p n i h =
    let at : (k : ℕ) → k < 64 → slice_index (take 64 (drop n p)) k ≡ slice_index p (n + k) = λ k l. get_or-chunk n 64 p k 0 l in
    word_by_bytes (take 64 (drop n p)) p i (n + i) (at i (omega arith)) (at (i + 1) (omega arith) ∙ ap (slice_index p) (omega arith))
    (at (i + 2) (omega arith) ∙ ap (slice_index p) (omega arith)) (at (i + 3) (omega arith) ∙ ap (slice_index p) (omega arith))

-- the digest from the hash value after k blocks, where k is n and the first n are the message with its padding
pub digest_of_padded : (m bytes : List ℕ) (n k : ℕ) → k ≡ n → length (padded_message m) ≡ n * 64 → take (n * 64) bytes ≡ padded_message m
    → digest_bytes (hash_after initial_hash_256 bytes k) 8 ≡ sha256 m
unfolding sha256
digest_of_padded m bytes n k is long e =
    let p = padded_message m in
    let whole : p ++ drop (n * 64) bytes ≡ bytes = ap (λ (x : List ℕ). x ++ drop (n * 64) bytes) (sym e) ∙ take-append-drop (n * 64) bytes in
    let count : n ≡ length p / 64 = omega (arith, long) in
    let same : hash_after initial_hash_256 bytes n ≡ hash_after initial_hash_256 p n =
    ap (λ (x : List ℕ). hash_after initial_hash_256 x n) (sym whole) ∙ hash_after-append initial_hash_256 p (drop (n * 64) bytes) n (omega (arith, long)) in
    ap (λ (h : List ℕ). digest_bytes h 8) (ap (hash_after initial_hash_256 bytes) is ∙ same ∙ ap (hash_after initial_hash_256 p) count)

-- what stands there after block i: what stood there before, or what was taken after it
pub taken_by : (count i : ℕ) (before after value : List ℕ) → (count ≤ i → before ≡ value) → (count ≡ i + 1 → after ≡ value) → (count ≢ i + 1 → after ≡ before)
    → count ≤ i + 1 → after ≡ value
taken_by count i before after value early last other low =
    elim (cases_lt i count) [
      | inl more ↦ last (omega arith)
      | inr less ↦ other (λ e. omega arith) ∙ early (omega arith)
    ]
