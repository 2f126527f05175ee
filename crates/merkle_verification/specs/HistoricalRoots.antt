-- The root of an older state, over what holds nodes.
use Rattle.std.specs.Prelude.{◌≡◌, ℕ, ◌<◌, ◌≤◌, ◌⊎◌, ◌↔◌, List, length, map, take, Option, Some, Result, IfOk, IsOk, IsErrOf}
use Rattle.merkle_base.specs.Hashing.{Hashing}
use Rattle.merkle_base.specs.Places.{peaks_of, peak_positions}
use Rattle.merkle_base.specs.Root.{list_root, peaks_root}
use Rattle.merkle_base.specs.Scheme.{Scheme}
use Rattle.merkle_base.specs.declared.error.Error.{Error}
use Rattle.merkle_base.specs.declared.error.Error.TheVariants.{LocationOverflow}
use Rattle.merkle_verification.specs.ReaderRefusals.{AreNodesHeld, IsReadRefusal}
use Rattle.merkle_verification.specs.ShownLists.{ForShown}

-- a digest is the root of n leaves for k inactive peaks, by the digests that stand at the positions of their peaks
abbrev pub IsBuiltRoot : {D : Type 0} → Scheme D → (rule : List ℕ → List ℕ) → (ℕ → Option D) → (n k : ℕ) → D → Type 0
IsBuiltRoot {D} s rule node n k root =
    (peaks : List D) × (map Some peaks ≡ map node (peak_positions rule n)) × (k ≤ length peaks) × (root ≡ peaks_root s n k k peaks)

-- where a root is answered, it is that of the first n leaves of each list that a reader with m nodes shows and that has as many
abbrev pub IsHistoricalRoot : {D E : Type 0} → Hashing D → Scheme D → (rule : List ℕ → List ℕ) → (m : ℕ) → (ℕ → Option D) → (n k : ℕ)
    → Result D E → Type 0
IsHistoricalRoot h s rule m node n k answer = ForShown h rule m node (λ xs. n ≤ length xs → IfOk answer (λ root. root ≡ list_root s (take n xs) k))

-- a root of n leaves is answered where a list may have as many with k inactive peaks, and each of their peaks is held
abbrev pub GrantsRoot : {D E T : Type 0} → (rule : List ℕ → List ℕ) → (max_leaves : ℕ) → (ℕ → Option D) → (n k : ℕ) → Result T E → Type 0
GrantsRoot rule max_leaves node n k answer =
    n ≤ max_leaves → k ≤ length (peaks_of rule n) → AreNodesHeld node (peak_positions rule n) → IsOk answer

-- n leaves are too many, or more of their peaks are called inactive than there are, or one of the peaks isn't held, the oldest such one
abbrev pub IsRootRefusal : {F D : Type 0} → (rule : List ℕ → List ℕ) → (max_leaves n k : ℕ) → (ℕ → Option D) → Error F → Type 0
IsRootRefusal rule max_leaves n k node e =
    ((max_leaves < n) × (e ≡ LocationOverflow n)) ⊎ ((n ≤ max_leaves) × IsReadRefusal rule n k node (peak_positions rule n) e)

-- a root of n leaves is refused exactly where, and as, the leaves or their peaks are
abbrev pub RefusesRoot : {F D T : Type 0} → (rule : List ℕ → List ℕ) → (max_leaves n k : ℕ) → (ℕ → Option D) → Result T (Error F) → Type 0
RefusesRoot {F} rule max_leaves n k node answer = (e : Error F) → IsErrOf answer e ↔ IsRootRefusal rule max_leaves n k node e
