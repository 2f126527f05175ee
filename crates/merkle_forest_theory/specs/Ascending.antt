-- Lists of numbers that ascend.
use Rattle.std.specs.Prelude.{ℕ, suc, ◌≤◌, List, [], ◌∷◌}

-- each is at least k, and greater than the one before it
abbrev pub AscendsFrom : ℕ → List ℕ → Type 0
AscendsFrom k [] = Unit {0}
AscendsFrom k (x ∷ xs) = (k ≤ x) × AscendsFrom (suc x) xs
