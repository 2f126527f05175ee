-- Perfect trees that stand one after another.
use Rattle.std.specs.Prelude.{ℕ, zero, suc, ◌+◌, ◌-◌, ◌^◌, leb, cond, List, [], ◌∷◌}

-- the height, at most k, of the highest perfect tree that has at most `nodes` nodes
unfoldable pub tallest : (k nodes : ℕ) → ℕ
tallest zero nodes = 0
tallest (suc k) nodes = cond (leb (2 ^ suc (suc k)) (nodes + 1)) (suc k) (tallest k nodes)

-- the first `count` of the trees that `left` nodes from position `next` on make up
unfoldable pub first_trees : (count next left : ℕ) → List (ℕ × ℕ)
first_trees zero next left = []
first_trees (suc k) next zero = []
first_trees (suc k) next (suc m) =
    (next + 2 ^ suc (tallest m (suc m)) - 2, tallest m (suc m))
    ∷ first_trees k (next + 2 ^ suc (tallest m (suc m)) - 1) (suc m + 1 - 2 ^ suc (tallest m (suc m)))

-- where the trees that `left` nodes from position `next` on make up have their roots, and how high they are:
-- each tree is the highest that the nodes left hold
abbrev pub trees_from : (next left : ℕ) → List (ℕ × ℕ)
trees_from next left = first_trees left next left
