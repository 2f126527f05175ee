-- What the checks of a proof are given.
use Rattle.std.specs.Prelude.{ℕ, List, map}
use Rattle.std.specs.Borrow.{Bor}
use Rattle.merkle_base.specs.Forest.{size}
use Rattle.merkle_base.specs.Hashing.{Hashing}
use Rattle.merkle_root_theory.specs.Check.{RangeInput}
use Rattle.merkle_base.specs.Scheme.{Scheme}
use Rattle.merkle_claim_theory.specs.Multiproof.{MultiInput}
use Rattle.merkle_range.specs.Input.{digest_input, leaf_digests}
use Rattle.merkle_proof.specs.declared.proof.Proof.{Proof}

-- a proof with the leaves of these digests from location a on
abbrev pub digest_input_of : {F D Peaks Heights : Type 0} → Proof F D Peaks Heights → ℕ → List D → RangeInput D
digest_input_of p a leaves = digest_input p.leaves p.inactive_peaks p.digests.items a leaves

-- a proof with the elements from location a on
abbrev pub input_of : {F D Peaks Heights : Type 0} → Scheme D → Proof F D Peaks Heights → ℕ → List (List ℕ) → RangeInput D
input_of s p a es = digest_input_of p a (leaf_digests s.hashing s.rule a es)

-- the leaf digest of each element, and its location
abbrev pub digested : {D : Type 0} → Hashing D → (List ℕ → List ℕ) → List (Bor (List ℕ) × ℕ) → List (D × ℕ)
digested h rule es = map (λ e. (h.leaf (size rule e.1) e.0.now, e.1)) es

-- the location and the digest of each of some leaves
abbrev pub by_location : {D : Type 0} → List (D × ℕ) → List (ℕ × D)
by_location leaves = map (λ l. (l.1, l.0)) leaves

-- the location and the leaf digest of each element
abbrev pub element_leaves : {D : Type 0} → Hashing D → (List ℕ → List ℕ) → List (Bor (List ℕ) × ℕ) → List (ℕ × D)
element_leaves h rule es = by_location (digested h rule es)

-- the parts of a proof with leaves, each given by its location and its digest
abbrev pub located_input : {D : Type 0} → (leaves inactive : ℕ) → List D → List (ℕ × D) → MultiInput D
located_input leaves inactive digests located = record { leaves = leaves; inactive = inactive; digests = digests; elements = located }

-- the parts of a proof with leaves of these digests at locations
abbrev pub multi_digest_input : {D : Type 0} → (leaves inactive : ℕ) → List D → List (D × ℕ) → MultiInput D
multi_digest_input leaves inactive digests ls = located_input leaves inactive digests (by_location ls)

-- the parts of a proof with elements at locations
abbrev pub multi_input : {D : Type 0} → Scheme D → (leaves inactive : ℕ) → List D → List (Bor (List ℕ) × ℕ) → MultiInput D
multi_input s leaves inactive digests es = multi_digest_input leaves inactive digests (digested s.hashing s.rule es)

-- a proof with leaves of these digests at locations
abbrev pub multi_digest_input_of : {F D Peaks Heights : Type 0} → Proof F D Peaks Heights → List (D × ℕ) → MultiInput D
multi_digest_input_of p ls = multi_digest_input p.leaves p.inactive_peaks p.digests.items ls

-- a proof with elements at locations
abbrev pub multi_input_of : {F D Peaks Heights : Type 0} → Scheme D → Proof F D Peaks Heights → List (Bor (List ℕ) × ℕ) → MultiInput D
multi_input_of s p es = multi_digest_input_of p (digested s.hashing s.rule es)
