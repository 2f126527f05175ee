-- The three parts of what is hashed for a root.
use Rattle.std.specs.Prelude.{◌≡◌, ℕ, List}
use Rattle.std.specs.List.{AllByRecursion}
use Rattle.merkle_root_theory.specs.Expression.{Place, Root, Join, PrefixFold, SuffixFold, Node, Input}

-- the part of what is hashed for a root that a place is in: 0 for the root, 1 for a fold, 2 for a node
abbrev pub tier : Place → ℕ
tier Root = 0
tier Join = 1
tier (PrefixFold i) = 1
tier (SuffixFold i) = 1
tier (Node p) = 2

-- each of these inputs is in part n of what is hashed for a root
abbrev pub AreOfTier : {D : Type 0} → ℕ → List (Input D) → Type 0
AreOfTier n xs = AllByRecursion (λ x. tier x.place ≡ n) xs
