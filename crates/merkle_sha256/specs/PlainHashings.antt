-- What the hashers over the two plain hashes compute.
use Rattle.std.specs.Prelude.{eqb, ◌∷◌, []}
use Rattle.std.specs.Cmp.Lexicographic.{pointwise}
use Rattle.merkle_digest.specs.declared.digest.Xor8Digest.{Xor8Digest}
use Rattle.merkle_digest.specs.DigestLaws.{xor_of}
use Rattle.merkle_sha256.specs.declared.sha256.Sha256Digest.{Sha256Digest}
use Rattle.merkle_sha256.specs.Sha256Laws.{sha256, length-sha256, no_bytes, length-no_bytes}
use Rattle.merkle_base.specs.Hashing.{Hashing}
use Rattle.merkle_leaves.specs.Standard.{standard}

-- the functions of the standard hasher over SHA-256
abbrev pub sha256_hashing : Hashing Sha256Digest
sha256_hashing = standard (λ m. record { bytes = sha256 m; sized = length-sha256 m }) (λ d. d.bytes) (λ a b. pointwise eqb a.bytes b.bytes)
    (record { bytes = no_bytes; sized = length-no_bytes })

-- the functions of the standard hasher over the exclusive or of all bytes
abbrev pub xor8_hashing : Hashing Xor8Digest
xor8_hashing = standard (λ m. record { byte = xor_of m }) (λ d. d.byte ∷ []) (λ a b. eqb a.byte b.byte) (record { byte = 0 })
