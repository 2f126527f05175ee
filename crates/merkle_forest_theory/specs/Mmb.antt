-- The Merkle Mountain Belt.
use Rattle.std.specs.Prelude.{ℕ, zero, suc, ◌+◌, ◌-◌, ◌*◌, ◌^◌, cond, eqb, List, [], ◌∷◌, map, reverse, take}
use Rattle.merkle_base.specs.Forest.{forest, size}
use Rattle.merkle_base.specs.Places.{placed}

-- the index of the newest adjacent pair of equal height, if there is one, where the newest peak has height h and hs are the heights of the older ones
abbrev pub mmb_merges_from : ℕ → List ℕ → List ℕ
mmb_merges_from h [] = []
mmb_merges_from h (a ∷ hs) = cond (eqb a h) (0 ∷ []) (map suc (mmb_merges_from a hs))

-- The rule: at most one merge, of the newest adjacent pair of equal height.
abbrev pub mmb_merges : List ℕ → List ℕ
mmb_merges [] = []
mmb_merges (h ∷ hs) = mmb_merges_from h hs

-- the leaf with which the belt's node of height h over the leaves from s on comes
abbrev pub birth_leaf : (s h : ℕ) → ℕ
birth_leaf s zero = s
birth_leaf s (suc h) = s + 3 * 2 ^ h - 2

-- the position of the belt's node of height h over the leaves from s on: that of a leaf, or the next one after the leaf that it comes with
abbrev pub mmb_position : (s h : ℕ) → ℕ
mmb_position s zero = size mmb_merges s
mmb_position s (suc h) = size mmb_merges (s + 3 * 2 ^ h - 2) + 1

-- the least leaf count whose belt has the node of height h over the leaves from s on
abbrev pub mmb_birth_leaf_count : (s h : ℕ) → ℕ
mmb_birth_leaf_count s h = birth_leaf s h + 1

-- the newest `count` peaks of n leaves with their heights, oldest first
abbrev pub newest_peaks : (count n : ℕ) → List (ℕ × ℕ)
newest_peaks count n = map placed (reverse (take count (forest mmb_merges n).peaks))
