-- A message of 40 bytes is one block.
use Rattle.std.proofs.Common.{◌≡◌, ℕ, zero, suc, ◌+◌, ◌*◌, ◌/◌, ◌<◌, List, [], ◌∷◌, length, take, drop, slice_index, ap, arith, refl, length-append}
use Rattle.sha2.specs.Sha256.{compress, digest_bytes, hash_after, initial_hash_256, padded_message, padding, sha256, word_at}

-- the padded message is one block
pub one_block : (m : List ℕ) → length m ≡ 40 → length (padded_message m) / 64 ≡ 1
one_block m long =
    let e : length (padding (length m)) ≡ 24 = ap (λ (n : ℕ). length (padding n)) long in
    let whole : length (padded_message m) ≡ length m + length (padding (length m)) = length-append m (padding (length m)) in
    omega (arith, whole, e)

-- the digest by the state after the block
pub digest_by_block : (m s : List ℕ) → length m ≡ 40 → s ≡ compress initial_hash_256 (take 64 (drop 0 (padded_message m))) → digest_bytes s 8 ≡ sha256 m
unfolding sha256 hash_after
digest_by_block m s long es = rw (es, one_block m long) refl

-- the words of the padding
pub padding_words : (p z n : ℕ) → p ≡ 0x80000000 → z ≡ 0 → n ≡ 320 → (k : ℕ) → k < 6
    → slice_index (p ∷ z ∷ z ∷ z ∷ z ∷ n ∷ []) k ≡ word_at (padding 40) (4 * k)
padding_words p z n ep ez en zero h = ep
padding_words p z n ep ez en (suc zero) h = ez
padding_words p z n ep ez en (suc (suc zero)) h = ez
padding_words p z n ep ez en (suc (suc (suc zero))) h = ez
padding_words p z n ep ez en (suc (suc (suc (suc zero)))) h = ez
padding_words p z n ep ez en (suc (suc (suc (suc (suc zero))))) h = en
padding_words p z n ep ez en (suc (suc (suc (suc (suc (suc k)))))) h = absurd (omega arith)
