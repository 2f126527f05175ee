-- The path to a leaf and the siblings that a proof of the leaf needs.
use Rattle.std.specs.Prelude.{◌≡◌, ℕ, ◌+◌, ◌<◌, ◌≤◌, List, map, Some, slice_get}
use Rattle.std.specs.List.Sorted.{IsPermutation}
use Rattle.merkle_base.specs.Tree.{Tree, position, first_leaf, width}
use Rattle.merkle_base.specs.Forest.{forest}
use Rattle.merkle_leaves.specs.Path.{path}
use Rattle.merkle_root_theory.specs.Plan.{siblings}
use Rattle.merkle_root_theory.specs.Check.{in_range}

-- the other children on the path to a leaf are the siblings of that leaf, from the top down instead of from left to right
abbrev pub PathHasSiblings : Type 0
PathHasSiblings = (rule : List ℕ → List ℕ) (n p k : ℕ) (t : Tree) → slice_get (forest rule n).nodes p ≡ Some t → first_leaf t ≤ k → k < first_leaf t + width t
    → IsPermutation (map (λ x. x.1) (path k t)) (map position (siblings (in_range k (k + 1)) t))
