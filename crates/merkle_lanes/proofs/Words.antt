-- Words of joined strings, and of a message with its padding.
use Rattle.std.proofs.Common.{◌≡◌, ℕ, ◌+◌, ◌-◌, ◌<◌, ◌≤◌, List, ◌++◌, length, take, drop, slice_index, refl, sym, ap, ◌∙◌, arith}
use Rattle.std.proofs.lemmas.List.{get_or_append_left, get_or-append_right}
use Rattle.sha2.specs.Sha256.{padded_message, padding, word_at}
use Rattle.merkle_lanes.proofs.BlockLemmas.{block_word, word_by_bytes}

-- a word of joined strings
pub word_left : (a b : List ℕ) (i : ℕ) → i + 4 ≤ length a → word_at (a ++ b) i ≡ word_at a i
word_left a b i h =
    let at : (k : ℕ) → k < length a → slice_index (a ++ b) k ≡ slice_index a k = λ k l. get_or_append_left a b 0 k l in
    word_by_bytes (a ++ b) a i i (at i (omega arith)) (at (i + 1) (omega arith)) (at (i + 2) (omega arith)) (at (i + 3) (omega arith))

pub word_right : (a b : List ℕ) (n i k : ℕ) → length a ≡ n → k ≡ n + i → word_at (a ++ b) k ≡ word_at b i
word_right a b n i k long place =
    let at : (p d : ℕ) → p ≡ n + d → slice_index (a ++ b) p ≡ slice_index b d =
    λ p d s.
    let off : p - n ≡ d = omega arith in
    get_or-append_right a b n p 0 long (omega arith) ∙ ap (slice_index b) off in
    word_by_bytes (a ++ b) b k i (at k i place) (at (k + 1) (i + 1) (omega arith)) (at (k + 2) (i + 2) (omega arith)) (at (k + 3) (i + 3) (omega arith))

-- a word of the message
pub padded_word : (m : List ℕ) (i : ℕ) → i + 4 ≤ length m → word_at (padded_message m) i ≡ word_at m i
padded_word m i h =
    let at : (k : ℕ) → k < length m → slice_index (padded_message m) k ≡ slice_index m k = λ k l. get_or_append_left m (padding (length m)) 0 k l in
    word_by_bytes (padded_message m) m i i (at i (omega arith)) (at (i + 1) (omega arith)) (at (i + 2) (omega arith)) (at (i + 3) (omega arith))

-- a word of the first block of a message that fills it
pub word_in_first_block : (m : List ℕ) (i : ℕ) → 64 ≤ length m → i + 4 ≤ 64 → word_at m (0 + i) ≡ word_at (take 64 (drop 0 (padded_message m))) i
word_in_first_block m i long h = sym (block_word (padded_message m) 0 i h ∙ padded_word m (0 + i) (omega (arith, long)))

-- a word of the padding
pub padding_word : (m : List ℕ) (n i : ℕ) → length m ≡ n → word_at (padded_message m) (n + i) ≡ word_at (padding n) i
padding_word m n i long = word_right m (padding (length m)) n i (n + i) long refl ∙ ap (λ (k : ℕ). word_at (padding k) i) long
