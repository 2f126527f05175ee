-- The Merkle Mountain Range.
use Rattle.std.specs.Prelude.{◌≡◌, ℕ, suc, ◌+◌, ◌-◌, ◌*◌, ◌^◌, cond, eqb, List, [], ◌∷◌}
use Rattle.merkle_base.specs.Forest.{size}
use Rattle.merkle_base.specs.Tree.{Tree, leaf, join, position, height, first_leaf, width}

-- the merges where the newest peak has height h and hs are the heights of the older ones
abbrev pub mmr_merges_from : ℕ → List ℕ → List ℕ
mmr_merges_from h [] = []
mmr_merges_from h (a ∷ hs) = cond (eqb a h) (0 ∷ mmr_merges_from (suc h) hs) []

-- The rule: the two newest peaks are merged while they have equal height.
abbrev pub mmr_merges : List ℕ → List ℕ
mmr_merges [] = []
mmr_merges (h ∷ hs) = mmr_merges_from h hs

-- the children of each merged node of a tree have the positions that its position and height say
abbrev pub IsPostorder : Tree → Type 0
IsPostorder (leaf p n) = Unit {0}
IsPostorder (join p l r) = (position l + 2 ^ suc (height l) ≡ p) × (position r + 1 ≡ p) × IsPostorder l × IsPostorder r

-- the trees, newest first, have together the first s positions, tree by tree
abbrev pub Stacked : ℕ → List Tree → Type 0
Stacked s [] = s ≡ 0
Stacked s (t ∷ ts) = (position t + 1 ≡ s) × IsPostorder t × ((r : ℕ) × (r + 2 ^ suc (height t) ≡ s + 1) × Stacked r ts)

-- the tree's leaves end at n and begin at a multiple of their number
abbrev pub IsBornAt : ℕ → Tree → Type 0
IsBornAt n t = (first_leaf t + width t ≡ n) × ((a : ℕ) × (first_leaf t ≡ a * 2 ^ height t))

-- the position of the range's node of height h over the leaves from s on
abbrev pub mmr_position : (s h : ℕ) → ℕ
mmr_position s h = size mmr_merges s + 2 ^ (h + 1) - 2

-- the least leaf count whose range has the node of height h over the leaves from s on
abbrev pub mmr_birth_leaf_count : (s h : ℕ) → ℕ
mmr_birth_leaf_count s h = s + 2 ^ h
