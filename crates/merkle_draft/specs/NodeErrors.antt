-- Why a node wasn't computed, as the error that a caller sees.
use Rattle.std.specs.Prelude.{◌≡◌, ℕ, Option, None}
use Rattle.merkle_base.specs.declared.error.Error.{Error}
use Rattle.merkle_base.specs.declared.error.Error.TheVariants as error
use Rattle.merkle_draft.specs.declared.node_error.NodeError.{NodeError}
use Rattle.merkle_draft.specs.declared.node_error.NodeError.TheVariants.{Missing, OutOfMemory}

-- the error that a reader of nodes answers, as an error of the library
abbrev pub node_error : {F : Type 0} → NodeError F → Error F
node_error (Missing position) = error.MissingNode position
node_error OutOfMemory = error.OutOfMemory

-- the error names the position p, at which nothing is read
abbrev pub IsGapAt : {F D : Type 0} → (ℕ → Option D) → ℕ → NodeError F → Type 0
IsGapAt read p e = (e ≡ Missing p) × (read p ≡ None)
