-- Where a position stands among ascending ones.
use Rattle.std.specs.Prelude.{ℕ, ◌<◌, ◌≤◌, List, length, get_or}

-- i is the index of the first of the positions that is p or after it, or their number
abbrev pub IsFirstFrom : List ℕ → ℕ → ℕ → Type 0
IsFirstFrom ps p i = ((k : ℕ) → k < i → get_or ps k 0 < p) × ((k : ℕ) → i ≤ k → k < length ps → p ≤ get_or ps k 0)
