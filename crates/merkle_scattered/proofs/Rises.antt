-- Lists of numbers that rise.
use Rattle.std.proofs.Common.{ℕ, suc, ◌<◌, List, ◌∷◌, arith}
use Rattle.std.specs.List.{AllPairs}

-- each is less than those after it
abbrev pub Rises : List ℕ → Type 0
Rises xs = AllPairs (λ x y. x < y) xs

pub rises_tail : (x : ℕ) (xs : List ℕ) → Rises (x ∷ xs) → Rises xs
rises_tail x xs h i j d l within = h (suc i) (suc j) d (omega (arith, l)) (omega (arith, within))
