-- What a family is asked about positions, and what it answers.
use Rattle.std.specs.Prelude.{◌≡◌, ℕ, ◌<◌, ◌≤◌, nat_le, List, map, reverse, filter, length, Some, slice_get}
use Rattle.merkle_base.specs.Tree.{Tree, join, position, height, end_leaf}
use Rattle.merkle_base.specs.Forest.{forest, size}

-- p is the number of nodes of some forest up to the limit
abbrev pub IsSize : (List ℕ → List ℕ) → ℕ → ℕ → Type 0
IsSize rule max_leaves p = (n : ℕ) × (n ≤ max_leaves) × (size rule n ≡ p)

-- q is the greatest number of nodes of a forest up to the limit that is not above p
pub record IsNearestSize (rule : List ℕ → List ℕ) (max_leaves p q : ℕ) : Type 0 where
  pub valid : IsSize rule max_leaves q
  pub within : q ≤ p
  pub greatest : (r : ℕ) → IsSize rule max_leaves r → r ≤ p → r ≤ q

-- the peaks of n leaves, oldest first
abbrev pub peaks_of : (List ℕ → List ℕ) → ℕ → List Tree
peaks_of rule n = reverse (forest rule n).peaks

-- the positions of the peaks of n leaves, oldest first
abbrev pub peak_positions : (List ℕ → List ℕ) → ℕ → List ℕ
peak_positions rule n = map position (peaks_of rule n)

-- the trees all of whose leaves are before location a
abbrev pub wholly_before : ℕ → List Tree → List Tree
wholly_before a ts = filter (λ t. nat_le (end_leaf t) a) ts

-- how many peaks of n leaves have all their leaves below the floor
abbrev pub inactive_peaks : (List ℕ → List ℕ) → ℕ → ℕ → ℕ
inactive_peaks rule n floor = length (wholly_before floor (peaks_of rule n))

-- the position and the height of a node
abbrev pub placed : Tree → ℕ × ℕ
placed t = (position t, height t)

-- the xs are the positions and heights of the peaks of the forest of p nodes, oldest first
abbrev pub ArePeaks : (List ℕ → List ℕ) → ℕ → ℕ → List (ℕ × ℕ) → Type 0
ArePeaks rule max_leaves p xs = (n : ℕ) → n ≤ max_leaves → size rule n ≡ p → xs ≡ map placed (peaks_of rule n)

-- some forest up to the limit has a merged node of height h at p
abbrev pub HasInner : (List ℕ → List ℕ) → ℕ → ℕ → ℕ → Type 0
HasInner rule max_leaves p h =
    (n : ℕ) × (t : Tree) × (n ≤ max_leaves) × (slice_get (forest rule n).nodes p ≡ Some t) × (height t ≡ h) × (0 < h)

-- l and r are the positions of the children of the node at p, in every forest that has it
abbrev pub AreChildren : (List ℕ → List ℕ) → ℕ → ℕ → ℕ → Type 0
AreChildren rule p l r =
    (n : ℕ) → (a b : Tree) → slice_get (forest rule n).nodes p ≡ Some (join p a b) → (l ≡ position a) × (r ≡ position b)

-- h is the height of the node at p, in every forest that has it
abbrev pub IsHeightAt : (List ℕ → List ℕ) → ℕ → ℕ → Type 0
IsHeightAt rule p h = (n : ℕ) → (t : Tree) → slice_get (forest rule n).nodes p ≡ Some t → h ≡ height t
