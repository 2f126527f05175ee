-- The path from a node down to a leaf.
use Rattle.std.specs.Prelude.{◌≡◌, ℕ, ◌+◌, ◌<◌, ◌≤◌, cond, nat_lt, List, [], ◌∷◌, Option, Some, None, slice_get}
use Rattle.merkle_base.specs.Tree.{Tree, leaf, join, position, height, first_leaf, width}
use Rattle.merkle_base.specs.Forest.{forest}
use Rattle.merkle_hasher.specs.Subtrees.{IsNodeOf}

-- the merged nodes from t down to the leaf at location k: the position of each, that of its other child, and its height
abbrev pub path : ℕ → Tree → List (ℕ × ℕ × ℕ)
path k (leaf p n) = []
path k (join p l r) = cond (nat_lt k (first_leaf r)) ((p, position r, height (join p l r)) ∷ path k l) ((p, position l, height (join p l r)) ∷ path k r)

-- the path from a node down to the leaf at location k, or none where there is no node
abbrev pub path_from : ℕ → Option Tree → List (ℕ × ℕ × ℕ)
path_from k None = []
path_from k (Some t) = path k t

-- the node at p, in some forest up to the limit, has height h and first leaf s, and the leaf at location k is under it
pub record IsNodeAbove (rule : List ℕ → List ℕ) (max_leaves p h s k : ℕ) : Type 0 where
  pub leaves : ℕ
  pub node : Tree
  pub bounded : leaves ≤ max_leaves
  pub stands : IsNodeOf rule leaves p h s node
  pub after : s ≤ k
  pub before : k < s + width node

-- the xs are the path to the leaf at location k from the node at p, in every forest that has it
abbrev pub IsPath : (List ℕ → List ℕ) → ℕ → ℕ → List (ℕ × ℕ × ℕ) → Type 0
IsPath rule p k xs = (n : ℕ) (t : Tree) → slice_get (forest rule n).nodes p ≡ Some t → xs ≡ path k t
