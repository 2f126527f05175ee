-- What is given to a check as bytes.
use Rattle.std.specs.Prelude.{◌≡◌, ℕ, ◌^◌, ◌<◌, ◌≤◌, List, [], ◌∷◌, length, map}
use Rattle.std.specs.List.{flat_map}
use Rattle.merkle_base.specs.Forest.{size}
use Rattle.merkle_base.specs.Hashing.{Hashing}
use Rattle.merkle_codec.specs.ProofSpelling.{parts_spelling}
use Rattle.merkle_sha256.specs.declared.sha256.Sha256Digest.{Sha256Digest}

-- the bytes of a digest
abbrev pub digest_bytes : Sha256Digest → List ℕ
digest_bytes d = d.bytes

-- the bytes of digests, one after another
abbrev pub joined_digests : List Sha256Digest → List ℕ
joined_digests digests = flat_map digest_bytes digests

-- bytes encode a proof of this leaf count, this number of inactive peaks and these digests, and nothing follows; the numbers fit 64 bits
pub record IsSpelled (max_leaves : ℕ) (proof : List ℕ) (leaves inactive : ℕ) (digests : List Sha256Digest) : Type 0 where
  pub leaves_fit : leaves ≤ max_leaves
  pub inactive_fits : inactive < 2 ^ 64
  pub count_fits : length digests < 2 ^ 64
  pub spelled : proof ≡ parts_spelling digest_bytes leaves inactive digests

-- bytes are cut into parts by lengths: the parts have these lengths, and joined they are the bytes
abbrev pub IsCut : (lengths bytes : List ℕ) → (parts : List (List ℕ)) → Type 0
IsCut lengths bytes parts = (map length parts ≡ lengths) × (flat_map (λ p. p) parts ≡ bytes)

-- each part, paired with its location
abbrev pub located : {A : Type 0} → List ℕ → List A → List (A × ℕ)
located [] parts = []
located (i ∷ is) [] = []
located (i ∷ is) (part ∷ parts) = (part, i) ∷ located is parts

-- the leaf digest of each element, at its location
abbrev pub leaf_digests_at : {D : Type 0} → Hashing D → (List ℕ → List ℕ) → List ℕ → List (List ℕ) → List D
leaf_digests_at h rule [] elements = []
leaf_digests_at h rule (i ∷ is) [] = []
leaf_digests_at h rule (i ∷ is) (element ∷ elements) = h.leaf (size rule i) element ∷ leaf_digests_at h rule is elements
