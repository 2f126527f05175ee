-- What is hashed for an accepted input, as an audit takes it from the store of the proof.
use Rattle.std.specs.Prelude.{◌≡◌, ◌≤◌, ℕ, List, ◌++◌, map, Ok, Option, Some, None}
use Rattle.std.specs.List.{AllByRecursion}
use Rattle.std.specs.Option.{unwrap_or}
use Rattle.merkle_base.specs.Places.{peaks_of}
use Rattle.merkle_base.specs.Scheme.{Scheme}
use Rattle.merkle_base.specs.Tree.{Tree}
use Rattle.merkle_hasher.specs.Subtrees.{subtree_of}
use Rattle.merkle_root_theory.specs.Check.{RangeInput, range_inputs}
use Rattle.merkle_root_theory.specs.Expression.{Input}
use Rattle.merkle_root_theory.specs.Reconstruction.{reconstructed}
use Rattle.merkle_store_theory.specs.StoreProof.{found_at}
use Rattle.merkle_audit_theory.specs.Searches.{input_at}
use Rattle.merkle_audit_theory.specs.Seen.{met_children, Sees}
use Rattle.merkle_audit_theory.specs.Tiers.{AreOfTier}
use Rattle.merkle_audit_parts.specs.declared.claim.Claim.{Claim}
use Rattle.merkle_audit_parts.specs.declared.claim.RangeNodes.{RangeNodes}
use Rattle.merkle_walks.specs.Hashed.{fold_at, top_of}

-- the digest of a node that the check has, or `none` where it has none
abbrev pub digest_in_claim : {F D P Q : Type 0} → D → RangeNodes F D P Q → ℕ → D
digest_in_claim none s p = elim s.store [ Some v ↦ unwrap_or (found_at v.pairs p) none | None ↦ none ]

-- the digests of a node's children, if it overlaps the range
abbrev pub range_pair : {F D P Q : Type 0} → D → RangeNodes F D P Q → Tree → Option (D × D)
range_pair none s t = met_children s.start s.end (digest_in_claim none s) t

-- what is hashed for an accepted range input: first the string of the root and the folds, then the nodes of each peak
pub record IsClaim {F D P Q : Type 0} (none : D) (s : Scheme D) (r : RangeInput D) (c : Claim F D P Q) : Type 0 where
  pub nodes : List (Input D)
  pub parts : range_inputs s r ≡ top_of c.top ++ nodes
  pub above : AreOfTier 1 (map fold_at c.top.folds.items)
  pub below : AreOfTier 2 nodes
  pub bounded : r.leaves ≤ s.max_leaves
  pub peaks : c.peaks.items ≡ map subtree_of (peaks_of s.rule r.leaves)
  pub sees : AllByRecursion (λ t. Sees (range_pair none c.nodes) (input_at (range_inputs s r)) t) (peaks_of s.rule r.leaves)

-- a range input leads to the root, and this is all that is hashed for it
abbrev pub IsClaimFor : {F D P Q : Type 0} → D → Scheme D → D → RangeInput D → Claim F D P Q → Type 0
IsClaimFor none s root r c = (reconstructed s r ≡ Ok root) × IsClaim none s r c
