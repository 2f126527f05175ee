-- Forests that grow leaf by leaf under a merge rule.
use Rattle.std.specs.Prelude.{◌≡◌, ℕ, zero, suc, ◌+◌, ◌⊎◌, List, [], ◌∷◌, ◌++◌, map, length, take, drop, fold}
use Rattle.merkle_base.specs.Tree.{Tree, leaf, join, height, first_leaf, width, IsUnder}

-- The nodes in the order of their positions, and the peaks, the newest first.
pub record Forest : Type 0 where
  pub nodes : List Tree
  pub peaks : List Tree

-- the forest with leaf n appended at the next position
abbrev pub append_leaf : ℕ → Forest → Forest
append_leaf n f = record { nodes = f.nodes ++ leaf (length f.nodes) n ∷ []; peaks = leaf (length f.nodes) n ∷ f.peaks }

-- the forest after one merge: the i-th newest peak b and the one before it, a, get a parent at the next position, which takes the place of
-- both
abbrev pub merge_at : ℕ → Forest → Forest
merge_at i f = elim (drop i f.peaks) [
  | b ∷ a ∷ ts ↦ let t = join (length f.nodes) a b in record { nodes = f.nodes ++ t ∷ []; peaks = take i f.peaks ++ t ∷ ts }
  | _ ↦ f
]

-- the forest of n leaves: a leaf is appended, and then the merges are done one after another that the rule gives for the peak heights with
-- the new leaf, newest first
unfoldable pub forest : (List ℕ → List ℕ) → ℕ → Forest
forest rule zero = record { nodes = []; peaks = [] }
forest rule (suc n) = let f = append_leaf n (forest rule n) in fold (λ g i. merge_at i g) f (rule (map height f.peaks))

-- the number of nodes of the forest of n leaves
abbrev pub size : (List ℕ → List ℕ) → ℕ → ℕ
size rule n = length (forest rule n).nodes

-- the peaks, newest first, reach from n down to 0 without gap or overlap
abbrev pub Covers : ℕ → List Tree → Type 0
Covers n [] = n ≡ 0
Covers n (t ∷ ts) = (first_leaf t + width t ≡ n) × Covers (first_leaf t) ts

-- a is one of the trees, or one of the nodes below them
abbrev pub IsUnderOne : Tree → List Tree → Type 0
IsUnderOne a [] = ⊥
IsUnderOne a (t ∷ ts) = IsUnder a t ⊎ IsUnderOne a ts

-- t is a merged node
abbrev pub IsJoin : Tree → Type 0
IsJoin (leaf p n) = ⊥
IsJoin (join p l r) = Unit {0}
