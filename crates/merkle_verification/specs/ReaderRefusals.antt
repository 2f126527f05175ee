-- Why nothing is proved over what holds nodes.
use Rattle.std.specs.Prelude.{◌≡◌, ◌≢◌, ℕ, ◌≤◌, ◌<◌, ◌⊎◌, true, is_some, List, length, Option, Some}
use Rattle.std.specs.List.{AllByRecursion}
use Rattle.merkle_base.specs.Cases.{first_case}
use Rattle.merkle_base.specs.Forest.{size}
use Rattle.merkle_base.specs.Places.{peaks_of}
use Rattle.merkle_base.specs.Refused.{UnlessMemory}
use Rattle.merkle_base.specs.declared.error.Error.{Error}
use Rattle.merkle_base.specs.declared.error.Error.TheVariants.{PositionOverflow, NonLeaf, InvalidProof, ElementPruned}
use Rattle.merkle_claim_theory.specs.Multiproof.{multi_positions}
use Rattle.merkle_scattered.specs.MultiPositions.{AreLocations, multi_refusals}
use Rattle.merkle_scattered.specs.Positions.{range_positions}
use Rattle.merkle_proof.specs.RangePlans.{IsRefusal, IsFirstMissing}

-- a node is held at each of the positions
abbrev pub AreNodesHeld : {D : Type 0} → (ℕ → Option D) → List ℕ → Type 0
AreNodesHeld node ps = AllByRecursion (λ p. is_some (node p) ≡ true) ps

-- m nodes are too many, or no leaf count has m nodes
abbrev pub IsSizeRefusal : {F : Type 0} → (rule : List ℕ → List ℕ) → (max_nodes m : ℕ) → Error F → Type 0
IsSizeRefusal rule max_nodes m e =
    ((max_nodes < m) × (e ≡ PositionOverflow m)) ⊎ ((m ≤ max_nodes) × ((n : ℕ) → size rule n ≢ m) × (e ≡ NonLeaf m))

-- more peaks of n leaves are called inactive than there are, or no node is held at one of the positions ps, the first such one
abbrev pub IsReadRefusal : {F D : Type 0} → (rule : List ℕ → List ℕ) → (n k : ℕ) → (ℕ → Option D) → (ps : List ℕ) → Error F → Type 0
IsReadRefusal rule n k node ps e =
    ((length (peaks_of rule n) < k) × (e ≡ InvalidProof))
    ⊎ ((k ≤ length (peaks_of rule n)) × ((p : ℕ) × (e ≡ ElementPruned p) × IsFirstMissing (λ q o. o ≡ node q) ps p))

-- the range a..b of n leaves has no plan, or what its proof reads is refused
abbrev pub IsHistoricalRefusal : {F D : Type 0} → (rule : List ℕ → List ℕ) → (max_leaves n a b k : ℕ) → (ℕ → Option D) → Error F → Type 0
IsHistoricalRefusal rule max_leaves n a b k node e =
    IsRefusal max_leaves n a b e
    ⊎ ((a < b) × (b ≤ n) × (n ≤ max_leaves) × IsReadRefusal rule n k node (range_positions rule n a b) e)

-- m nodes are those of no leaf count, or what a proof of a..b reads is refused over the leaves that they have
abbrev pub IsReaderRefusal : {F D : Type 0} → (rule : List ℕ → List ℕ) → (max_nodes max_leaves m a b k : ℕ) → (ℕ → Option D)
    → Error F → Type 0
IsReaderRefusal rule max_nodes max_leaves m a b k node e =
    IsSizeRefusal rule max_nodes m e
    ⊎ ((n : ℕ) × (m ≤ max_nodes) × (size rule n ≡ m) × IsHistoricalRefusal rule max_leaves n a b k node e)

-- locations of leaves are refused among n, or what their proof reads is
abbrev pub IsLocationsRefusal : {F D : Type 0} → (rule : List ℕ → List ℕ) → (max_leaves n k : ℕ) → List ℕ → (ℕ → Option D)
    → Error F → Type 0
IsLocationsRefusal rule max_leaves n k locations node e =
    (first_case (multi_refusals max_leaves n locations) ≡ Some e)
    ⊎ (AreLocations max_leaves n locations × IsReadRefusal rule n k node (multi_positions rule n locations) e)

-- m nodes are those of no leaf count, or the locations are refused, or what their proof reads is, over the leaves that the nodes have
abbrev pub IsMultiRefusal : {F D : Type 0} → (rule : List ℕ → List ℕ) → (max_nodes max_leaves m k : ℕ) → List ℕ → (ℕ → Option D)
    → Error F → Type 0
IsMultiRefusal rule max_nodes max_leaves m k locations node e =
    IsSizeRefusal rule max_nodes m e
    ⊎ ((n : ℕ) × (m ≤ max_nodes) × (size rule n ≡ m) × IsLocationsRefusal rule max_leaves n k locations node e)

-- why a reader with m nodes gives no proof of the leaves at some locations, memory aside
abbrev pub RefusesMulti : {F D : Type 0} → (rule : List ℕ → List ℕ) → (max_nodes max_leaves m k : ℕ) → List ℕ → (ℕ → Option D)
    → Error F → Type 0
RefusesMulti rule max_nodes max_leaves m k locations node = UnlessMemory (IsMultiRefusal rule max_nodes max_leaves m k locations node)
