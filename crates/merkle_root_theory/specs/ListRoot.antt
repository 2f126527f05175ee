-- The root over plans and the root of a list.
use Rattle.std.specs.Prelude.{◌≡◌, ℕ, List}
use Rattle.merkle_base.specs.Root.{list_root}
use Rattle.merkle_base.specs.Scheme.{Scheme}
use Rattle.merkle_root_theory.specs.Range.{plan_root}

-- the root over the plan of a list's peaks is the list's root
abbrev pub RootsAgree : Type 0 → Type 0
RootsAgree D = (s : Scheme D) (xs : List D) (k : ℕ) → plan_root s xs k ≡ list_root s xs k
