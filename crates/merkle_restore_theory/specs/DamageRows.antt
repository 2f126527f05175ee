-- Small cases of damaged structures, with the exclusive or in the place of a hash.
use Rattle.std.specs.Prelude.{ℕ, [], ◌∷◌, Option, Some, None, cond, slice_get, ◌==◌}

-- the nodes of four leaves, of which those at the positions 2 and 5 are damaged
abbrev pub twice_damaged : ℕ → Option ℕ
twice_damaged = slice_get (1 ∷ 3 ∷ 5 ∷ 0 ∷ 0 ∷ 4 ∷ 7 ∷ [])

-- a pinned node at position 2, and nothing else
abbrev pub pinned : ℕ → Option ℕ
pinned p = cond (p == 2) (Some 9) None
