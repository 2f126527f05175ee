-- Why a structure or a batch gives no proof of a leaf, or of a range of leaves.
use Rattle.std.specs.Prelude.{◌≡◌, ℕ, ◌+◌, ◌≤◌, ◌<◌, ◌⊎◌, List, Option}
use Rattle.merkle_base.specs.Refused.{UnlessMemory}
use Rattle.merkle_base.specs.declared.family.Bagging.{Bagging}
use Rattle.merkle_base.specs.declared.error.Error.{Error}
use Rattle.merkle_base.specs.declared.error.Error.TheVariants.{LocationOverflow, LeafOutOfBounds}
use Rattle.merkle_proof.specs.RangePlans.{IsRefusal, IsBuildRefusal}

-- why there is no proof of leaf i: no list has the location, or there are no more than i leaves, or the proof isn't built from the nodes
abbrev pub IsProofRefusal : {F D : Type 0} → Bagging → (rule : List ℕ → List ℕ) → (max_leaves n i k : ℕ) → (ℕ → Option D) → Error F → Type 0
IsProofRefusal bagging rule max_leaves n i k node e =
    ((max_leaves ≤ i) × (e ≡ LocationOverflow i))
    ⊎ (((i < max_leaves) × (n ≤ i) × (e ≡ LeafOutOfBounds i))
    ⊎ ((i < n) × IsBuildRefusal bagging rule (record { leaves = n; start = i; end = i + 1 }) k (λ p r. r ≡ node p) e))

-- why there is no proof of a range: it has no plan, or the proof isn't built from the nodes
abbrev pub IsRangeRefusal : {F D : Type 0} → Bagging → (rule : List ℕ → List ℕ) → (max_leaves n a b k : ℕ) → (ℕ → Option D) → Error F → Type 0
IsRangeRefusal bagging rule max_leaves n a b k node e =
    IsRefusal max_leaves n a b e
    ⊎ ((a < b) × (b ≤ n) × IsBuildRefusal bagging rule (record { leaves = n; start = a; end = b }) k (λ p r. r ≡ node p) e)

-- why there is no proof of a leaf, memory aside
abbrev pub RefusesLeaf : {F D : Type 0} → Bagging → (rule : List ℕ → List ℕ) → (max_leaves n i k : ℕ) → (ℕ → Option D) → Error F → Type 0
RefusesLeaf bagging rule max_leaves n i k node = UnlessMemory (IsProofRefusal bagging rule max_leaves n i k node)

-- why there is no proof of a range of leaves, memory aside
abbrev pub RefusesRange : {F D : Type 0} → Bagging → (rule : List ℕ → List ℕ) → (max_leaves n a b k : ℕ) → (ℕ → Option D) → Error F → Type 0
RefusesRange bagging rule max_leaves n a b k node = UnlessMemory (IsRangeRefusal bagging rule max_leaves n a b k node)
