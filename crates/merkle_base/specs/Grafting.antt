-- The nodes of a forest by first leaf and height, and those inside a chunk of leaves.
use Rattle.std.specs.Prelude.{◌≡◌, ℕ, zero, suc, Bool, ◌&&◌, ◌+◌, ◌*◌, ◌^◌, ◌<◌, ◌≤◌, nat_le, leb, cond, List, [], ◌∷◌, ◌++◌, map, Some, slice_get}
use Rattle.std.specs.List.{flat_map}
use Rattle.merkle_base.specs.Tree.{Tree, leaf, join, height, first_leaf, end_leaf}
use Rattle.merkle_base.specs.Forest.{forest, size}
use Rattle.merkle_base.specs.Places.{placed, peaks_of}

-- whether all leaves of t lie in a..b
abbrev pub is_inside : ℕ → ℕ → Tree → Bool
is_inside a b t = nat_le a (first_leaf t) && nat_le (end_leaf t) b

-- the maximal nodes of t whose leaves all lie in a..b, left to right
abbrev pub maximal_inside : ℕ → ℕ → Tree → List Tree
maximal_inside a b (leaf p n) = cond (is_inside a b (leaf p n)) (leaf p n ∷ []) []
maximal_inside a b (join p l r) = cond (is_inside a b (join p l r)) (join p l r ∷ []) (maximal_inside a b l ++ maximal_inside a b r)

-- the maximal nodes of the forest of n leaves whose leaves all lie in a..b, left to right
abbrev pub nodes_inside : (List ℕ → List ℕ) → ℕ → ℕ → ℕ → List Tree
nodes_inside rule n a b = flat_map (maximal_inside a b) (peaks_of rule n)

-- the structure of that many nodes, of some leaf count up to the limit, has all leaves of the chunk:
-- chunk number i of 2 ^ h leaves each
abbrev pub HasChunk : (List ℕ → List ℕ) → ℕ → ℕ → ℕ → ℕ → Type 0
HasChunk rule max_leaves nodes i h = (n : ℕ) × (n ≤ max_leaves) × (size rule n ≡ nodes) × ((i + 1) * 2 ^ h ≤ n)

-- the xs are the positions and heights of the maximal nodes inside the chunk, left to right
abbrev pub AreChunkPeaks : (List ℕ → List ℕ) → ℕ → ℕ → ℕ → ℕ → List (ℕ × ℕ) → Type 0
AreChunkPeaks rule max_leaves nodes i h xs =
    (n : ℕ) → n ≤ max_leaves → size rule n ≡ nodes → xs ≡ map placed (nodes_inside rule n (i * 2 ^ h) ((i + 1) * 2 ^ h))

-- some forest up to the limit has the node t of height h at p
abbrev pub IsNode : (List ℕ → List ℕ) → ℕ → ℕ → ℕ → Tree → Type 0
IsNode rule max_leaves p h t = (n : ℕ) × (n ≤ max_leaves) × (slice_get (forest rule n).nodes p ≡ Some t) × (height t ≡ h)

-- n is the least leaf count whose forest has position p
abbrev pub IsBirthSize : (List ℕ → List ℕ) → ℕ → ℕ → Type 0
IsBirthSize rule p n = (p < size rule n) × ((m : ℕ) → m < n → size rule m ≤ p)

-- By formula, the positions and heights of what stands over the 2 ^ h leaves from s on in the forest of n leaves, left to right:
-- their own node where it has come, and else the left half's node and what stands over the right half.
abbrev pub stretch_nodes : (root birth : ℕ → ℕ → ℕ) → (n s h : ℕ) → List (ℕ × ℕ)
stretch_nodes root birth n s zero = (root s 0, 0) ∷ []
stretch_nodes root birth n s (suc h) = cond (leb (birth s (suc h)) n) ((root s (suc h), suc h) ∷ []) ((root s h, h) ∷ stretch_nodes root birth n (s + 2 ^ h) h)

-- What formulas give of a family's nodes: the node of height h over the leaves from s on is at `root s h`, from leaf count `birth s h` on.
pub record AreCoordinates (rule : List ℕ → List ℕ) (max_leaves : ℕ) (root birth : ℕ → ℕ → ℕ) : Type 0 where
  -- a node stands there, from a multiple of its own number of leaves on
  pub place : (n p : ℕ) (t : Tree) → n ≤ max_leaves → slice_get (forest rule n).nodes p ≡ Some t → p ≡ root (first_leaf t) (height t)
  pub aligned : (n p : ℕ) (t : Tree) → n ≤ max_leaves → slice_get (forest rule n).nodes p ≡ Some t → (a : ℕ) × (first_leaf t ≡ a * 2 ^ height t)
  pub born : (n p : ℕ) (t : Tree) → n ≤ max_leaves → slice_get (forest rule n).nodes p ≡ Some t → IsBirthSize rule p (birth (first_leaf t) (height t))
  -- over each stretch of 2 ^ h leaves from a multiple of 2 ^ h on stands a node, from that leaf count on
  pub exists : (n s a h : ℕ) → n ≤ max_leaves → s ≡ a * 2 ^ h → birth s h ≤ n
      → (p : ℕ) × (t : Tree) × (slice_get (forest rule n).nodes p ≡ Some t) × (first_leaf t ≡ s) × (height t ≡ h)
  -- that leaf count is before the end of the stretch twice as wide
  pub born_before_end : (s h : ℕ) → birth s h < s + 2 ^ suc h
  -- position and height tell the first leaf
  pub injective : (s r h : ℕ) → root s h ≡ root r h → s ≡ r
