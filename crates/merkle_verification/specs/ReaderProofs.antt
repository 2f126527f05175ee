-- What proofs of scattered leaves are made of.
use Rattle.std.specs.Prelude.{◌≡◌, ◌≤◌, ℕ, List, map, length, Option, Some}
use Rattle.merkle_base.specs.Hashing.{Hashing}
use Rattle.merkle_base.specs.Places.{peaks_of}
use Rattle.merkle_root_theory.specs.Range.{leaf_of}
use Rattle.merkle_claim_theory.specs.Multiproof.{MultiInput, multi_positions}
use Rattle.merkle_scattered.specs.MultiPositions.{AreLocations}
use Rattle.merkle_proof.specs.declared.proof.Proof.{Proof}

-- the proof of the leaves at some locations of n has the digests that stand at the positions which it reads
pub record IsBuiltMulti {F D Peaks Heights : Type 0} (rule : List ℕ → List ℕ) (max_leaves : ℕ) (node : ℕ → Option D)
    (k n : ℕ) (locations : List ℕ) (p : Proof F D Peaks Heights) : Type 0 where
  pub leaves : p.leaves ≡ n
  pub inactive : p.inactive_peaks ≡ k
  pub at_most_peaks : k ≤ length (peaks_of rule n)
  pub within : AreLocations max_leaves n locations
  pub digests : map Some p.digests.items ≡ map node (multi_positions rule n locations)

-- a proof with the leaves of a list at locations
abbrev pub multi_list_input : {F D Peaks Heights : Type 0} → Proof F D Peaks Heights → Hashing D → List D → List ℕ → MultiInput D
multi_list_input p h xs locations =
    record { leaves = p.leaves; inactive = p.inactive_peaks; digests = p.digests.items; elements = map (λ i. (i, leaf_of h xs i)) locations }
