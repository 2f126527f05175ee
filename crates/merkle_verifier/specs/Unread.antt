-- Why bytes are no proof, and by which number it is told.
use Rattle.std.specs.Prelude.{◌≡◌, ◌≢◌, ◌⊎◌, ℕ, ◌-◌, ◌^◌, ◌≤◌, ◌<◌, List, [], ◌++◌, length}
use Rattle.merkle_base.specs.declared.error.DecodeError.{DecodeError}
use Rattle.merkle_base.specs.declared.error.DecodeError.TheVariants as decoding
use Rattle.merkle_codec.specs.ProofSpelling.{parts_spelling, IsProofReadRefusal}
use Rattle.merkle_verifier.specs.Answers.{malformed, out_of_memory}
use Rattle.merkle_verifier.specs.Inputs.{digest_bytes, IsSpelled}
use Rattle.merkle_sha256.specs.declared.sha256.Sha256Digest.{Sha256Digest}
use Rattle.merkle_verifier.specs.declared.read.ReadError.{ReadError}
use Rattle.merkle_verifier.specs.declared.read.ReadError.TheVariants.{EndOfBuffer, InvalidVarint, Invalid, OutOfMemory, Trailing}

-- the answer of reading a proof where bytes are read as one: 0, and every other number says why they are not
abbrev pub was_read : ℕ
was_read = 0

-- bytes begin with no proof of digests of 32 bytes, as many as 64 bits count, and are refused with this error
abbrev pub IsRefused : (max_leaves : ℕ) → List ℕ → DecodeError → Type 0
IsRefused max_leaves proof e = IsProofReadRefusal 32 (λ b. length b ≡ 32) max_leaves (2 ^ 64 - 1) proof e

-- bytes begin with a proof, and others follow
abbrev pub IsFollowed : (max_leaves : ℕ) → List ℕ → Type 0
IsFollowed max_leaves proof =
    (leaves inactive : ℕ) × (digests : List Sha256Digest) × (rest : List ℕ) × (leaves ≤ max_leaves) × (inactive < 2 ^ 64)
    × (rest ≢ []) × (proof ≡ parts_spelling digest_bytes leaves inactive digests ++ rest)

-- bytes are not read as a proof, for this reason
abbrev pub IsUnread : (max_leaves : ℕ) → List ℕ → ReadError → Type 0
IsUnread max_leaves proof EndOfBuffer = IsRefused max_leaves proof decoding.EndOfBuffer
IsUnread max_leaves proof InvalidVarint = IsRefused max_leaves proof decoding.InvalidVarint
IsUnread max_leaves proof Invalid = IsRefused max_leaves proof decoding.Invalid
IsUnread max_leaves proof OutOfMemory = IsRefused max_leaves proof decoding.OutOfMemory
IsUnread max_leaves proof Trailing = IsFollowed max_leaves proof

-- the answer of a check whose proof is not read, by the reason
abbrev pub refused_answer : ReadError → ℕ
refused_answer EndOfBuffer = malformed
refused_answer InvalidVarint = malformed
refused_answer Invalid = malformed
refused_answer OutOfMemory = out_of_memory
refused_answer Trailing = malformed

-- the answer of reading a proof where bytes are not read as one, by the reason
abbrev pub reason : ReadError → ℕ
reason EndOfBuffer = 16
reason InvalidVarint = 17
reason Invalid = 18
reason OutOfMemory = out_of_memory
reason Trailing = 20

-- the answer of reading a proof, with the two numbers that it writes: `was_read`, and those of the proof that the bytes encode, or
-- else the number of the reason why they are not read
abbrev pub IsReadAnswer : (max_leaves : ℕ) → (proof : List ℕ) → (leaves inactive answer : ℕ) → Type 0
IsReadAnswer max_leaves proof leaves inactive answer =
    ((answer ≡ was_read) × (digests : List Sha256Digest) × IsSpelled max_leaves proof leaves inactive digests)
    ⊎ ((e : ReadError) × IsUnread max_leaves proof e × (answer ≡ reason e))
