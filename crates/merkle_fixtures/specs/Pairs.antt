-- The family of pairs: the two leaves of a pair are merged, and nothing else is.
use Rattle.std.specs.Prelude.{ℕ, zero, suc, ◌+◌, List, [], ◌∷◌}

-- The rule: the two newest peaks are merged where both are leaves.
abbrev pub pairing : List ℕ → List ℕ
pairing [] = []
pairing (h ∷ []) = []
pairing (zero ∷ zero ∷ hs) = 0 ∷ []
pairing (zero ∷ suc a ∷ hs) = []
pairing (suc h ∷ a ∷ hs) = []

-- The peaks among `left` nodes from a position on, each with its height: a pair for every three nodes, and then leaves.
abbrev pub pairs_from : (next left : ℕ) → List (ℕ × ℕ)
pairs_from next zero = []
pairs_from next (suc zero) = (next, 0) ∷ []
pairs_from next (suc (suc zero)) = (next, 0) ∷ (next + 1, 0) ∷ []
pairs_from next (suc (suc (suc m))) = (next + 2, 1) ∷ pairs_from (next + 3) m
