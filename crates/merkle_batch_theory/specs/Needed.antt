-- The nodes whose digests a batch computes, and those that it computes them from.
use Rattle.std.specs.Prelude.{◌≡◌, ℕ, zero, suc, ◌+◌, ◌<◌, ◌⊎◌, List, Bool, true, false, Option, Some, None, slice_get, is_some, nat_le, ◌||◌, ◌&&◌, ◌==◌}
use Rattle.std.specs.List.{filter}
use Rattle.merkle_base.specs.Tree.{Tree, leaf, join, position, height}
use Rattle.merkle_base.specs.Forest.{forest, size}
use Rattle.merkle_batch_theory.specs.History.{is_dirty}

-- whether the node is merged, and new after n leaves or an ancestor of a leaf that m has a digest for
abbrev pub is_computed : {D : Type 0} → (List ℕ → List ℕ) → (ℕ → Option D) → ℕ → Tree → Bool
is_computed rule m n (leaf p k) = false
is_computed rule m n (join p l r) = nat_le (size rule n) p || is_dirty m (join p l r)

-- the computed nodes of the forest of e leaves
abbrev pub computed_nodes : {D : Type 0} → (List ℕ → List ℕ) → (ℕ → Option D) → ℕ → ℕ → List Tree
computed_nodes rule m n e = filter (is_computed rule m n) (forest rule e).nodes

-- the computed nodes of height k of the forest of e leaves
abbrev pub level : {D : Type 0} → (List ℕ → List ℕ) → (ℕ → Option D) → ℕ → ℕ → ℕ → List Tree
level rule m n e k = filter (λ t. is_computed rule m n t && (height t == k)) (forest rule e).nodes

-- t is a child of a computed node
abbrev pub IsComputedChild : {D : Type 0} → (List ℕ → List ℕ) → (ℕ → Option D) → ℕ → ℕ → Tree → Type 0
IsComputedChild rule m n e t =
    (p : ℕ) × (l r : Tree) × (slice_get (forest rule e).nodes p ≡ Some (join p l r)) × (is_computed rule m n (join p l r) ≡ true) × ((t ≡ l) ⊎ (t ≡ r))

-- a child of a computed node or, if there are leaves after n or m has a digest for one before, a peak of e leaves
abbrev pub IsUsed : {D : Type 0} → (List ℕ → List ℕ) → (ℕ → Option D) → ℕ → ℕ → Tree → Type 0
IsUsed rule m n e t =
    IsComputedChild rule m n e t
    ⊎ (((n < e) ⊎ ((k : ℕ) × (k < n) × (is_some (m (size rule k)) ≡ true))) × ((i : ℕ) × (slice_get (forest rule e).peaks i ≡ Some t)))

-- needed: used, old, and neither overwritten nor an ancestor of an overwritten leaf
abbrev pub IsNeeded : {D : Type 0} → (List ℕ → List ℕ) → (ℕ → Option D) → ℕ → ℕ → Tree → Type 0
IsNeeded rule m n e t = IsUsed rule m n e t × (position t < size rule n) × (is_dirty m t ≡ false)

-- whether the node at a position, if there is one, passes
abbrev pub passes : (Tree → Bool) → Option Tree → Bool
passes q None = false
passes q (Some t) = q t

-- f 0 + .. + f (k - 1)
abbrev pub total : (ℕ → ℕ) → ℕ → ℕ
total f zero = 0
total f (suc k) = total f k + f k
