-- The pairs of positions and digests below a node that has all its leaves in a range.
use Rattle.std.specs.Prelude.{ℕ, List, [], ◌∷◌, ◌++◌}
use Rattle.merkle_base.specs.Tree.{Tree, leaf, join, position}
use Rattle.merkle_base.specs.Hashing.{Hashing}
use Rattle.merkle_root_theory.specs.Plan.{tree_digest}

-- the positions and digests of the nodes below a node: those below its left child, those below its right child, the left child, the right
-- child; X: the digest of each leaf
abbrev pub inside_pairs : {D : Type 0} → Hashing D → (ℕ → D) → Tree → List (ℕ × D)
inside_pairs h X (leaf p i) = []
inside_pairs h X (join p l r) = inside_pairs h X l ++ (inside_pairs h X r ++ ((position l, tree_digest h X l) ∷ (position r, tree_digest h X r) ∷ []))
