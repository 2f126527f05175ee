-- The family that never merges: every leaf is a peak.
use Rattle.std.specs.Prelude.{ℕ, zero, suc, ◌+◌, List, [], ◌∷◌}

-- The rule: no merges.
abbrev pub never : List ℕ → List ℕ
never hs = []

-- the positions of `count` leaves from a position on, each with its height
abbrev pub leaves_from : (next count : ℕ) → List (ℕ × ℕ)
leaves_from next zero = []
leaves_from next (suc k) = (next, 0) ∷ leaves_from (next + 1) k
