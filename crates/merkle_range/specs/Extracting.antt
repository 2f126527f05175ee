-- Why no digests are extracted from a proof.
use Rattle.std.specs.Prelude.{◌≡◌, ◌≢◌, ◌⊎◌, Ok, Err}
use Rattle.merkle_base.specs.Scheme.{Scheme}
use Rattle.merkle_base.specs.Refused.{UnlessMemory}
use Rattle.merkle_base.specs.declared.error.Error.{Error}
use Rattle.merkle_base.specs.declared.error.Error.TheVariants.{InvalidProof, RootMismatch}
use Rattle.merkle_base.specs.declared.error.ReconstructionError.{ReconstructionError}
use Rattle.merkle_root_theory.specs.Check.{RangeInput}
use Rattle.merkle_root_theory.specs.Reconstruction.{reconstructed}

-- e says that the proof and its elements are refused, or that they lead to another root
abbrev pub IsExtractionRefusal : {F D : Type 0} → Scheme D → RangeInput D → D → Error F → Type 0
IsExtractionRefusal {D} s r root e =
    ((x : ReconstructionError) × (reconstructed s r ≡ Err x) × (e ≡ InvalidProof))
    ⊎ ((d : D) × (reconstructed s r ≡ Ok d) × (d ≢ root) × (e ≡ RootMismatch))

-- an error of extraction says that the proof and its elements are refused or lead to another root, unless memory was refused
abbrev pub RefusesExtraction : {F D : Type 0} → Scheme D → RangeInput D → D → Error F → Type 0
RefusesExtraction s r root = UnlessMemory (IsExtractionRefusal s r root)
