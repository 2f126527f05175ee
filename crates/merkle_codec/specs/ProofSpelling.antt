-- The bytes that spell a proof, and what is wrong with bytes that begin with no spelling of one.
use Rattle.std.specs.Prelude.{◌≡◌, ℕ, ◌-◌, ◌*◌, ◌^◌, ◌<◌, ◌≤◌, ◌⊎◌, List, ◌++◌, length, take, drop}
use Rattle.std.specs.List.{flat_map}
use Rattle.merkle_base.specs.declared.error.DecodeError.{DecodeError}
use Rattle.merkle_base.specs.declared.error.DecodeError.TheVariants.{EndOfBuffer, Invalid, TooMany, OutOfMemory}
use Rattle.merkle_codec.specs.NumberSpelling.{number_spelling, IsRefusalFrom}
use Rattle.merkle_proof.specs.declared.proof.Proof.{Proof}

-- the bytes of a proof's parts: the number of leaves, that of inactive peaks, that of digests, and the bytes of the digests
abbrev pub parts_spelling : {D : Type 0} → (D → List ℕ) → (leaves inactive : ℕ) → List D → List ℕ
parts_spelling bytes leaves inactive digests = number_spelling leaves ++ number_spelling inactive ++ number_spelling (length digests) ++ flat_map bytes digests

-- the bytes of a proof: the number of leaves, that of inactive peaks, that of digests, and the bytes of the digests
abbrev pub proof_spelling : {F D Peaks Heights : Type 0} → (D → List ℕ) → Proof F D Peaks Heights → List ℕ
proof_spelling bytes p = parts_spelling bytes p.leaves p.inactive_peaks p.digests.items

-- one proof, wherever its digests lie in memory
pub record SameProof {F D Peaks Heights : Type 0} (p q : Proof F D Peaks Heights) : Type 0 where
  pub leaves : p.leaves ≡ q.leaves
  pub inactive : p.inactive_peaks ≡ q.inactive_peaks
  pub digests : p.digests.items ≡ q.digests.items

-- a proof is read under a limit on the number of digests; the limit and the number of inactive peaks are of 64 bits
pub record IsReadable {F D Peaks Heights : Type 0} (max_leaves limit : ℕ) (p : Proof F D Peaks Heights) : Type 0 where
  pub leaves : p.leaves ≤ max_leaves
  pub inactive : p.inactive_peaks < 2 ^ 64
  pub digests : length p.digests.items ≤ limit
  pub limit_fits : limit < 2 ^ 64

-- bytes have no digest at one of the first n places
abbrev pub HasNoDigest : (size : ℕ) → (List ℕ → Type 0) → (n : ℕ) → List ℕ → Type 0
HasNoDigest size Spells n b = (i : ℕ) × (i < n) × (¬ Spells (take size (drop (i * size) b)))

-- bytes begin with no n digests: there are too few bytes, or enough, and then memory is refused or a place has no digest
abbrev pub IsDigestsRefusal : (size : ℕ) → (List ℕ → Type 0) → (n : ℕ) → List ℕ → DecodeError → Type 0
IsDigestsRefusal size Spells n b e =
    ((length b < n * size) × (e ≡ EndOfBuffer))
    ⊎ ((n * size ≤ length b) × (e ≡ OutOfMemory))
    ⊎ ((n * size ≤ length b) × HasNoDigest size Spells n b × (e ≡ Invalid))

-- bytes begin with no proof: they are refused at the number of leaves, after it at that of inactive peaks, after it at that of
-- digests, or after it at the digests
abbrev pub IsProofReadRefusal : (size : ℕ) → (List ℕ → Type 0) → (max_leaves limit : ℕ) → List ℕ → DecodeError → Type 0
IsProofReadRefusal size Spells max_leaves limit =
    IsRefusalFrom max_leaves Invalid (λ _. IsRefusalFrom (2 ^ 64 - 1) Invalid (λ _. IsRefusalFrom limit TooMany (IsDigestsRefusal size Spells)))
