-- The positions of leaves that get new digests, left to right.
use Rattle.std.specs.Prelude.{◌≡◌, ℕ, suc, ◌<◌, List, [], ◌∷◌, ◌++◌, true, Option, is_some, cond, nat_lt}
use Rattle.merkle_base.specs.Forest.{size}
use Rattle.merkle_base.specs.Tree.{Tree, leaf, join}

-- the positions of a tree's leaves that m has a new digest for, left to right
abbrev pub dirty_leaves : {D : Type 0} → (ℕ → Option D) → Tree → List ℕ
dirty_leaves m (leaf p n) = cond (is_some (m p)) (p ∷ []) []
dirty_leaves m (join p l r) = dirty_leaves m l ++ dirty_leaves m r

-- m has new digests of leaves of the forest of n leaves alone, by position
abbrev pub HasLeavesOf : {D : Type 0} → (List ℕ → List ℕ) → ℕ → (ℕ → Option D) → Type 0
HasLeavesOf rule n m = (q : ℕ) → is_some (m q) ≡ true → (k : ℕ) × (k < n) × (q ≡ size rule k)

-- how many positions, from the first on, are before the end
abbrev pub are_before : List ℕ → ℕ → ℕ
are_before [] e = 0
are_before (p ∷ ps) e = cond (nat_lt p e) (suc (are_before ps e)) 0
