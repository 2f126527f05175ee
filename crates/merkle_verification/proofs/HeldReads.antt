-- Where all that is read is held, and in what order.
use Rattle.std.proofs.Common.{◌≡◌, ℕ, ◌<◌, ◌≤◌, ◌∷◌, List, length, true, Option, inl, inr, refl, sym, ap, ◌∙◌, subst, arith}
use Rattle.std.specs.Prelude.{is_some}
use Rattle.std.proofs.lemmas.Bool.{false≢true}
use Rattle.merkle_base.specs.Forest.{size}
use Rattle.merkle_base.specs.Heights.{IsLawful}
use Rattle.merkle_base.specs.Places.{peaks_of}
use Rattle.merkle_base.specs.declared.error.Error.{Error}
use Rattle.merkle_base.proofs.Nodes.{size_le}
use Rattle.merkle_root_theory.specs.Collision.{Member}
use Rattle.merkle_root_theory.proofs.Collisions.{member_right}
use Rattle.merkle_claim_theory.specs.Multiproof.{multi_positions}
use Rattle.merkle_claim_theory.proofs.Multiproofs.{all_member}
use Rattle.merkle_scattered.specs.MultiPositions.{AreLocations}
use Rattle.merkle_proof.specs.RangePlans.{IsFirstMissing}
use Rattle.merkle_proof.proofs.MultiRefusals.{refused_are_none}
use Rattle.merkle_verification.specs.ReaderRefusals.{AreNodesHeld, IsLocationsRefusal, IsReadRefusal, IsSizeRefusal}

missing_held : {D : Type 0} (node : ℕ → Option D) (ps : List ℕ) (p : ℕ) → AreNodesHeld node ps → IsFirstMissing (λ q o. o ≡ node q) ps p → ⊥
missing_held node ps p held w =
    let m : Member ps p = subst (λ l. Member l p) (sym w.split) (member_right w.before (p ∷ w.after) p (inl refl)) in
    absurd (false≢true (ap is_some w.missing ∙ all_member (λ q. is_some (node q) ≡ true) ps p held m))

-- no read of held nodes is refused
pub read_held : {F D : Type 0} (rule : List ℕ → List ℕ) (n k : ℕ) (node : ℕ → Option D) (ps : List ℕ) → k ≤ length (peaks_of rule n)
    → AreNodesHeld node ps → (e : Error F) → IsReadRefusal rule n k node ps e → ⊥
read_held rule n k node ps few held e refused = elim refused [
  | inl x ↦ absurd (let many : length (peaks_of rule n) < k = x.0 in omega (arith, many, few))
  | inr x ↦ missing_held node ps x.1.0 held x.1.2
]

-- the nodes of a leaf count are its own
pub sized_held : {F : Type 0} (rule : List ℕ → List ℕ) (max_leaves max_nodes : ℕ) → IsLawful rule max_leaves max_nodes → (n m : ℕ) → n ≤ max_leaves
    → size rule n ≡ m → (e : Error F) → IsSizeRefusal rule max_nodes m e → ⊥
sized_held rule max_leaves max_nodes law n m l at e refused = elim refused [
  | inl x ↦ absurd (let many : max_nodes < m = x.0 in omega (arith, many, at, size_le rule n max_leaves l, law.size_at_limit))
  | inr x ↦ x.1 n at
]

-- nor are leaves whose nodes are held
pub locations_held : {F D : Type 0} (rule : List ℕ → List ℕ) (max_leaves n k : ℕ) (locations : List ℕ) (node : ℕ → Option D) → AreLocations max_leaves n locations → k ≤ length (peaks_of rule n)
    → AreNodesHeld node (multi_positions rule n locations) → (e : Error F) → IsLocationsRefusal rule max_leaves n k locations node e → ⊥
locations_held {F = F} rule max_leaves n k locations node within few held e refused = elim refused [
  | inl x ↦ refused_are_none F max_leaves n locations e x within
  | inr x ↦ read_held rule n k node (multi_positions rule n locations) few held e x.1
]
