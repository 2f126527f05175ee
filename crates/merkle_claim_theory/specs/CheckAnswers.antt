-- What the checks answer.
use Rattle.std.specs.Prelude.{◌≡◌, ◌≢◌, ◌↔◌, ◌⊎◌, ℕ, ◌≤◌, Bool, IsTrue, List, length, Ok, Err}
use Rattle.std.specs.List.{AllByRecursion}
use Rattle.merkle_base.specs.Root.{peaks_root}
use Rattle.merkle_base.specs.Scheme.{Scheme}
use Rattle.merkle_base.specs.declared.error.ReconstructionError.{ReconstructionError}
use Rattle.merkle_base.specs.declared.error.ReconstructionError.TheVariants.{OutOfMemory}
use Rattle.merkle_root_theory.specs.Check.{RangeInput}
use Rattle.merkle_root_theory.specs.Extract.{extracted, IsNodePair}
use Rattle.merkle_root_theory.specs.Range.{ForRootOf, IsHonestRange, RangeCollides}
use Rattle.merkle_root_theory.specs.Reconstruction.{reconstructed}
use Rattle.merkle_claim_theory.specs.Multiproof.{MultiInput, IsHonestMulti, MultiCollides}
use Rattle.merkle_claim_theory.specs.Pinned.{AcceptsPinned, AcceptsPinnedCases, IsHonestPinned, PinnedCollides}
use Rattle.merkle_claim_theory.specs.Rebuilt.{GivesOldRoot}

-- why an input leads to no root, memory aside
abbrev pub IsReconstructionRefusal : {D : Type 0} → Scheme D → RangeInput D → ReconstructionError → Type 0
IsReconstructionRefusal s r e = e ≢ OutOfMemory → reconstructed s r ≡ Err e

-- a check of a range says yes exactly if the input leads to the root
abbrev pub IsExactForRange : {D : Type 0} → Scheme D → D → RangeInput D → Bool → Type 0
IsExactForRange s root r accepts = IsTrue accepts ↔ (reconstructed s r ≡ Ok root)

-- a check of a range says yes if the input is the honest one of a list with the root
abbrev pub IsCompleteForRange : {D : Type 0} → Scheme D → D → RangeInput D → Bool → Type 0
IsCompleteForRange s root r accepts = ForRootOf s root (λ xs k. IsHonestRange s xs k r → IsTrue accepts)

-- a check of a range says yes only if the input is the honest one of each list with the root, or collides with the list
abbrev pub IsSoundForRange : {D : Type 0} → Scheme D → D → RangeInput D → Bool → Type 0
IsSoundForRange s root r accepts = IsTrue accepts → ForRootOf s root (λ xs k. IsHonestRange s xs k r ⊎ RangeCollides s r xs k)

-- a check of scattered leaves says yes if the input is the honest one of a list with the root
abbrev pub IsCompleteForMulti : {D : Type 0} → Scheme D → D → MultiInput D → Bool → Type 0
IsCompleteForMulti s root r accepts = ForRootOf s root (λ xs k. IsHonestMulti s xs k r → IsTrue accepts)

-- a check of scattered leaves says yes only if the input is the honest one of each list with the root, or collides with the list
abbrev pub IsSoundForMulti : {D : Type 0} → Scheme D → D → MultiInput D → Bool → Type 0
IsSoundForMulti s root r accepts = IsTrue accepts → ForRootOf s root (λ xs k. IsHonestMulti s xs k r ⊎ MultiCollides s r xs k)

-- a check of a range with pins says yes exactly of what `AcceptsPinned` holds of
abbrev pub IsExactForPins : {D : Type 0} → Scheme D → D → RangeInput D → (pins : List D) → Bool → Type 0
IsExactForPins s root r pins accepts = IsTrue accepts ↔ AcceptsPinned s r pins root

-- a check of a range with pins says yes exactly of what `AcceptsPinnedCases` holds of, where input with elements and input without are
-- apart
abbrev pub DecidesPins : {D : Type 0} → Scheme D → D → RangeInput D → (pins : List D) → Bool → Type 0
DecidesPins s root r pins accepts = IsTrue accepts ↔ AcceptsPinnedCases s r pins root

-- a check of a range with pins says yes if input and pins are the honest ones of a list with the root
abbrev pub IsCompleteForPins : {D : Type 0} → Scheme D → D → RangeInput D → (pins : List D) → Bool → Type 0
IsCompleteForPins s root r pins accepts = ForRootOf s root (λ xs k. IsHonestPinned s xs k r pins → IsTrue accepts)

-- a check of a range with pins says yes only if input and pins are the honest ones of each list with the root, or collide with the list
abbrev pub IsSoundForPins : {D : Type 0} → Scheme D → D → RangeInput D → (pins : List D) → Bool → Type 0
IsSoundForPins s root r pins accepts = IsTrue accepts → ForRootOf s root (λ xs k. IsHonestPinned s xs k r pins ⊎ PinnedCollides s r pins xs k)

-- a check says yes only if the pins give the root of the leaves before the range, or the input collides with the list
abbrev pub TellsOldRoot : {D : Type 0} → Scheme D → D → RangeInput D → (pins : List D) → Bool → Type 0
TellsOldRoot s root r pins accepts = IsTrue accepts → ForRootOf s root (λ xs k. GivesOldRoot s xs r.start pins ⊎ PinnedCollides s r pins xs k)

-- the input leads to the root, and the pairs are those that are extracted
abbrev pub IsExtraction : {D : Type 0} → Scheme D → D → RangeInput D → List (ℕ × D) → Type 0
IsExtraction s root r pairs = (reconstructed s r ≡ Ok root) × (pairs ≡ extracted s r)

-- each pair is a position with the digest there of each list with the root, or the input collides with the list
abbrev pub AreNodePairs : {D : Type 0} → Scheme D → D → RangeInput D → List (ℕ × D) → Type 0
AreNodePairs s root r pairs = ForRootOf s root (λ xs k. AllByRecursion (IsNodePair s xs) pairs ⊎ RangeCollides s r xs k)

-- the digests of the peaks over the first `leaves` leaves give this root
pub record GivesRoot {D : Type 0} (s : Scheme D) (root : D) (leaves inactive : ℕ) (peaks : List D) : Type 0 where
  pub enough : inactive ≤ length peaks
  pub root_is : peaks_root s leaves inactive inactive peaks ≡ root
