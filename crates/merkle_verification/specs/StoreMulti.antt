-- The proof of scattered leaves that a store answers.
use Rattle.std.specs.Prelude.{◌≡◌, ℕ, ◌⊎◌, nat_eq, cond, List, [], ◌∷◌, map, reverse, Option, Some, None}
use Rattle.std.specs.List.{list_any}
use Rattle.std.specs.Option.{option_or}
use Rattle.merkle_base.specs.Cases.{first_case}
use Rattle.merkle_base.specs.declared.error.Error.{Error}
use Rattle.merkle_base.specs.declared.error.Error.TheVariants.{CompressedDigest, ElementPruned}
use Rattle.merkle_claim_theory.specs.Multiproof.{multi_positions}
use Rattle.merkle_store_theory.specs.StoreValue.{StoreValue}
use Rattle.merkle_scattered.specs.MultiPositions.{AreLocations, multi_refusals}
use Rattle.merkle_proof.specs.declared.proof.Proof.{Proof}
use Rattle.merkle_store_theory.specs.StoreProof.{found_at, first_lacking}

-- the digest at a position: that of the first pairs, or else of the second
abbrev pub either_at : {D : Type 0} → (first second : List (ℕ × D)) → ℕ → Option D
either_at first second p = option_or (found_at first p) (found_at second p)

-- the digest at a position: that of the pairs, or else the last one given there
abbrev pub known_at : {D : Type 0} → (pairs given : List (ℕ × D)) → ℕ → Option D
known_at pairs given = either_at pairs (reverse given)

-- the error that names a position where no digest is known: `CompressedDigest` for a peak folded in the suffix, and else `ElementPruned`
abbrev pub unknown_error : {F : Type 0} → (suffix_peaks : List ℕ) → ℕ → Error F
unknown_error suffix_peaks p = cond (list_any (λ q. nat_eq q p) suffix_peaks) (CompressedDigest p) (ElementPruned p)

-- the refusal names the first unknown position
abbrev pub IsUnknown : {F D : Type 0} → (ℕ → Option D) → (suffix_peaks ps : List ℕ) → Error F → Type 0
IsUnknown node suffix_peaks ps e = (p : ℕ) × (e ≡ unknown_error suffix_peaks p) × (first_lacking node ps ≡ Some p)

-- p is the proof of the leaves at some locations that a store answers, to which peaks are given
pub record IsMultiAnswered {F D Peaks Heights : Type 0} (rule : List ℕ → List ℕ) (max_leaves : ℕ) (v : StoreValue D)
    (locations : List ℕ) (given : List (ℕ × D)) (p : Proof F D Peaks Heights) : Type 0 where
  pub leaves : p.leaves ≡ v.leaves
  pub inactive : p.inactive_peaks ≡ v.inactive
  pub within : AreLocations max_leaves v.leaves locations
  pub digests : map Some p.digests.items ≡ map (known_at v.pairs given) (multi_positions rule v.leaves locations)

-- why a store answers no proof of the leaves at some locations: there are no such leaves, or a node is unknown
abbrev pub IsStoreMultiRefusal : {F D : Type 0} → (List ℕ → List ℕ) → (max_leaves : ℕ) → StoreValue D
    → (locations : List ℕ) → (given : List (ℕ × D)) → Error F → Type 0
IsStoreMultiRefusal rule max_leaves v locations given e =
    (first_case (multi_refusals max_leaves v.leaves locations) ≡ Some e)
    ⊎ (AreLocations max_leaves v.leaves locations × IsUnknown (known_at v.pairs given) v.suffix_peaks (multi_positions rule v.leaves locations) e)
