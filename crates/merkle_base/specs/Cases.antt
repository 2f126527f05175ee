-- Cases that are tried in order.
use Rattle.std.specs.Prelude.{Bool, List, [], ◌∷◌, Option, Some, None, cond}

-- what the first case that applies gives, if one applies
abbrev pub first_case : {A : Type 0} → List (Bool × A) → Option A
first_case [] = None
first_case (c ∷ cs) = cond c.0 (Some c.1) (first_case cs)
