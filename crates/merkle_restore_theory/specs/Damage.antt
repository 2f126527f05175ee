-- Whether the digests that a structure holds follow from one another.
use Rattle.std.specs.Prelude.{◌≡◌, ◌≢◌, ℕ, ◌-◌, ◌<◌, ◌≤◌, List, length, Option, Some, true, is_some, slice_get}
use Rattle.merkle_base.specs.Tree.{Tree, leaf, join, position}
use Rattle.merkle_base.specs.Forest.{forest, size}
use Rattle.merkle_base.specs.Hashing.{Hashing}
use Rattle.merkle_batch_theory.specs.Contents.{Contents, HoldsKept, Agrees}

-- the merged node that n leaves have at p is held with both its children, and its digest is not that of theirs
abbrev pub IsDamaged : {D : Type 0} → Hashing D → (rule : List ℕ → List ℕ) → (n : ℕ) → (node : ℕ → Option D) → (p : ℕ) → Type 0
IsDamaged {D} h rule n node p =
    (l r : Tree) × (d a b : D) × (slice_get (forest rule n).nodes p ≡ Some (join p l r))
    × (node p ≡ Some d) × (node (position l) ≡ Some a) × (node (position r) ≡ Some b) × (d ≢ h.node p a b)

-- p is the first position with a damaged node
abbrev pub IsFirstDamaged : {D : Type 0} → Hashing D → (rule : List ℕ → List ℕ) → (n : ℕ) → (node : ℕ → Option D) → (p : ℕ) → Type 0
IsFirstDamaged h rule n node p = IsDamaged h rule n node p × ((q : ℕ) → q < p → IsDamaged h rule n node q → ⊥)

-- no node of n leaves is damaged
abbrev pub IsWhole : {D : Type 0} → Hashing D → (rule : List ℕ → List ℕ) → (n : ℕ) → (node : ℕ → Option D) → Type 0
IsWhole h rule n node = (p : ℕ) → IsDamaged h rule n node p → ⊥

-- how many merged nodes n leaves have from the position of leaf b on: all nodes there but the leaves
abbrev pub merged_from : (List ℕ → List ℕ) → (b n : ℕ) → ℕ
merged_from rule b n = size rule n - size rule b - (n - b)

-- the children of a node, if it has any, are both held
abbrev pub HoldsChildren : {D : Type 0} → (node : ℕ → Option D) → Tree → Type 0
HoldsChildren node (leaf p k) = Unit {0}
HoldsChildren node (join p l r) = (is_some (node (position l)) ≡ true) × (is_some (node (position r)) ≡ true)

-- each node from the boundary's position on has its children held, if it has any
abbrev pub HeldNodesHaveChildren : Type 0 → Type 0
HeldNodesHaveChildren D = (rule : List ℕ → List ℕ) (c : Contents D) (n : ℕ) → HoldsKept rule c → c.boundary ≤ n → size rule n ≡ c.size
    → (p : ℕ) (t : Tree) → slice_get (forest rule n).nodes p ≡ Some t → size rule c.boundary ≤ p → HoldsChildren c.node t

-- no damaged node stands before the boundary's position
abbrev pub DamageIsFromBoundary : Type 0 → Type 0
DamageIsFromBoundary D = (h : Hashing D) (rule : List ℕ → List ℕ) (c : Contents D) (n : ℕ) → HoldsKept rule c → size rule n ≡ c.size
    → (p : ℕ) → IsDamaged h rule n c.node p → size rule c.boundary ≤ p

-- what agrees with a list is whole
abbrev pub AgreesIsWhole : Type 0 → Type 0
AgreesIsWhole D = (h : Hashing D) (rule : List ℕ → List ℕ) (c : Contents D) (X : List D) → Agrees h rule c X → IsWhole h rule (length X) c.node

-- there is only one first damaged position
abbrev pub FirstIsUnique : Type 0 → Type 0
FirstIsUnique D = (h : Hashing D) (rule : List ℕ → List ℕ) (n : ℕ) (node : ℕ → Option D) (p q : ℕ)
    → IsFirstDamaged h rule n node p → IsFirstDamaged h rule n node q → p ≡ q
