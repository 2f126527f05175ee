-- The root that a range input leads to, or the first refusal that applies.
use Rattle.std.specs.Prelude.{◌≡◌, Bool, ◌<◌, ◌≤◌, nat_le, nat_lt, cond, List, [], ◌∷◌, length, Some, None, Result, Ok, Err, ◌↔◌}
use Rattle.merkle_base.specs.Cases.{first_case}
use Rattle.merkle_base.specs.Places.{peaks_of}
use Rattle.merkle_base.specs.Scheme.{Scheme}
use Rattle.merkle_base.specs.declared.error.ReconstructionError.{ReconstructionError}
use Rattle.merkle_base.specs.declared.error.ReconstructionError.TheVariants.{InvalidProof, MissingDigests, ExtraDigests, InvalidStartLoc, InvalidEndLoc, MissingElements, InvalidSize}
use Rattle.merkle_root_theory.specs.Check.{RangeInput, root_of, range_expression}
use Rattle.merkle_root_theory.specs.Range.{end_of, digest_count, Accepts}

-- why an input without elements is refused
abbrev pub empty_refusals : {D : Type 0} → RangeInput D → List (Bool × ReconstructionError)
empty_refusals r =
    (nat_lt 0 r.start, MissingElements)
    ∷ (nat_lt 0 r.inactive, InvalidProof)
    ∷ (nat_lt 0 r.leaves, MissingElements)
    ∷ (nat_lt 0 (length r.digests), ExtraDigests) ∷ []

-- why an input with elements is refused
abbrev pub range_refusals : {D : Type 0} → Scheme D → RangeInput D → List (Bool × ReconstructionError)
range_refusals s r =
    (nat_le s.max_leaves r.start, InvalidStartLoc)
    ∷ (nat_lt s.max_leaves (end_of r), InvalidEndLoc)
    ∷ (nat_lt r.leaves (end_of r), InvalidEndLoc)
    ∷ (nat_lt s.max_leaves r.leaves, InvalidSize)
    ∷ (nat_lt (length (peaks_of s.rule r.leaves)) r.inactive, InvalidSize)
    ∷ (nat_lt (length r.digests) (digest_count s r), MissingDigests)
    ∷ (nat_lt (digest_count s r) (length r.digests), ExtraDigests) ∷ []

-- what an input leads to: the first refusal that applies, or else the root
abbrev pub reconstructed : {D : Type 0} → Scheme D → RangeInput D → Result D ReconstructionError
reconstructed s r = elim (first_case (cond (nat_lt 0 (length r.elements)) (range_refusals s r) (empty_refusals r))) [
  | Some e ↦ Err e
  | None ↦ Ok (root_of s r.leaves r.inactive (range_expression s r))
]

-- no refusal applies to an input with elements
pub record HasShape {D : Type 0} (s : Scheme D) (r : RangeInput D) : Type 0 where
  pub nonempty : 0 < length r.elements
  pub within : end_of r ≤ r.leaves
  pub leaves : r.leaves ≤ s.max_leaves
  pub inactive : r.inactive ≤ length (peaks_of s.rule r.leaves)
  pub counts : length r.digests ≡ digest_count s r

-- the inputs that lead to a root are those that are accepted against it
abbrev pub LeadsIsAccepted : Type 0 → Type 0
LeadsIsAccepted D = (s : Scheme D) (r : RangeInput D) (root : D) → (reconstructed s r ≡ Ok root) ↔ Accepts s r root
