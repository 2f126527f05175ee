-- The digests that positions must have.
use Rattle.std.specs.Prelude.{◌≡◌, ℕ, ◌<◌, List, map, Option, Some}
use Rattle.std.specs.List.{range_with_len}

-- the digests of n positions from p on
abbrev pub digests_from : {D : Type 0} → (ℕ → D) → ℕ → ℕ → List D
digests_from truth p n = map truth (range_with_len p n)

-- what is read below a size is what must be there
abbrev pub ReadsAgree : {D : Type 0} → (ℕ → Option D) → ℕ → (ℕ → D) → Type 0
ReadsAgree {D} read nodes truth = (p : ℕ) (d : D) → p < nodes → read p ≡ Some d → d ≡ truth p
