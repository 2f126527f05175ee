-- The nodes of a forest as code carries them.
use Rattle.std.specs.Prelude.{◌≡◌, ℕ, ◌+◌, ◌^◌, List, [], ◌∷◌, Some, slice_get}
use Rattle.std.specs.List.{AllByRecursion}
use Rattle.merkle_base.specs.Tree.{Tree, join, position, height, first_leaf}
use Rattle.merkle_base.specs.Forest.{forest}
use Rattle.merkle_hasher.specs.declared.subtree.Subtree.{Subtree}

-- t is the node at p of the forest of n leaves, has height h, and its first leaf is s
pub record IsNodeOf (rule : List ℕ → List ℕ) (n p h s : ℕ) (t : Tree) : Type 0 where
  pub at : slice_get (forest rule n).nodes p ≡ Some t
  pub height_is : height t ≡ h
  pub first_is : first_leaf t ≡ s

-- the subtree is the node t of the forest of n leaves
abbrev pub Denotes : {F : Type 0} → (List ℕ → List ℕ) → ℕ → Subtree F → Tree → Type 0
Denotes rule n s t = IsNodeOf rule n s.position s.height s.first_leaf t

-- a and b are the children of the subtree, if it has any
abbrev pub AreChildSubtrees : {F : Type 0} → (List ℕ → List ℕ) → ℕ → (s a b : Subtree F) → Type 0
AreChildSubtrees rule n s a b = (p : ℕ) (l r : Tree) → Denotes rule n s (join p l r) → Denotes rule n a l × Denotes rule n b r

-- the subtree that represents the node t
abbrev pub subtree_of : {F : Type 0} → Tree → Subtree F
subtree_of t = record { position = position t; height = height t; first_leaf = first_leaf t }

-- each of the trees is a node of the forest of n leaves, at its own position
abbrev pub AreNodes : (List ℕ → List ℕ) → ℕ → List Tree → Type 0
AreNodes rule n ts = AllByRecursion (λ t. slice_get (forest rule n).nodes (position t) ≡ Some t) ts

-- peaks that are given by position and height, as subtrees: the first leaf of the first one is s, and that of each later one is after the
-- leaves of the one before
abbrev pub subtrees_from : {F : Type 0} → ℕ → List (ℕ × ℕ) → List (Subtree F)
subtrees_from s [] = []
subtrees_from s (p ∷ ps) = record { position = p.0; height = p.1; first_leaf = s } ∷ subtrees_from (s + 2 ^ p.1) ps

-- the peaks, given by position and height, are nodes of the forest of n leaves that cover the leaves from s on, one after another
abbrev pub AreNodesFrom : (List ℕ → List ℕ) → ℕ → ℕ → List (ℕ × ℕ) → Type 0
AreNodesFrom rule n s [] = Unit {0}
AreNodesFrom rule n s (p ∷ ps) = ((t : Tree) × IsNodeOf rule n p.0 p.1 s t) × AreNodesFrom rule n (s + 2 ^ p.1) ps
