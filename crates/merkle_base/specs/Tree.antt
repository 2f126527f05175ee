-- The trees of a forest: what a node is, and what stands under it.
use Rattle.std.specs.Prelude.{◌≡◌, ℕ, suc, ◌+◌, ◌<◌, ◌⊎◌, List, [], ◌∷◌, ◌++◌, Some, slice_get}

-- A node with all that is below it: a leaf knows its position and its location, a merged node its position and its children.
pub data Tree : Type 0 where
  leaf : (position location : ℕ) → Tree
  join : (position : ℕ) → (left right : Tree) → Tree

-- the position of a node
abbrev pub position : Tree → ℕ
position (leaf p n) = p
position (join p l r) = p

-- the height of a node: 0 of a leaf, and one more than its children's of a merged node
abbrev pub height : Tree → ℕ
height (leaf p n) = 0
height (join p l r) = suc (height l)

-- the location of the oldest leaf of a tree
abbrev pub first_leaf : Tree → ℕ
first_leaf (leaf p n) = n
first_leaf (join p l r) = first_leaf l

-- the number of leaves of a tree
abbrev pub width : Tree → ℕ
width (leaf p n) = 1
width (join p l r) = width l + width r

-- the location after the last leaf of a tree
abbrev pub end_leaf : Tree → ℕ
end_leaf t = first_leaf t + width t

-- the locations of the leaves of a tree, from left to right
abbrev pub locations : Tree → List ℕ
locations (leaf p n) = n ∷ []
locations (join p l r) = locations l ++ locations r

-- a is the tree itself or one of the nodes below it
abbrev pub IsUnder : Tree → Tree → Type 0
IsUnder a (leaf p n) = a ≡ leaf p n
IsUnder a (join p l r) = (a ≡ join p l r) ⊎ (IsUnder a l ⊎ IsUnder a r)

-- every merged node joins two trees of equal height
abbrev pub IsBalanced : Tree → Type 0
IsBalanced (leaf p n) = Unit {0}
IsBalanced (join p l r) = (height l ≡ height r) × IsBalanced l × IsBalanced r

-- t is at its own position in the list, and so is each node under it, a child before its parent; the leaves of a right child follow those
-- of the left one
abbrev pub IsBuilt : List Tree → Tree → Type 0
IsBuilt ns (leaf p n) = slice_get ns p ≡ Some (leaf p n)
IsBuilt ns (join p l r) =
    (slice_get ns p ≡ Some (join p l r)) × (position l < p) × (position r < p) × (first_leaf l + width l ≡ first_leaf r) × IsBuilt ns l × IsBuilt ns r
