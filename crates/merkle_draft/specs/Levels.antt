-- Positions of parent nodes, listed by height.
use Rattle.std.specs.Prelude.{◌≡◌, ℕ, suc, ◌+◌, ◌<◌, ◌≤◌, ◌⊎◌, List, [], ◌∷◌, ◌++◌, Bool, true, false, Option, Some, None, slice_get, cond, drop, length, ◌&&◌, ◌==◌}
use Rattle.std.specs.List.{Contains, flat_map}
use Rattle.merkle_base.specs.Tree.{Tree, leaf, join, height}
use Rattle.merkle_base.specs.Forest.{forest}
use Rattle.merkle_base.specs.Places.{HasInner}
use Rattle.merkle_batch_theory.specs.History.{is_dirty}
use Rattle.merkle_batch_theory.specs.Needed.{is_computed}

-- the positions listed for height h
abbrev pub level_at : {X : Type 0} → List (List X) → ℕ → List X
level_at ls h = elim (slice_get ls h) [ Some l ↦ l | None ↦ [] ]

-- the positions of the heights from h on, height by height
abbrev pub from_height : {X : Type 0} → List (List X) → ℕ → List X
from_height ls h = flat_map (λ l. l) (drop h ls)

-- the positions listed for each height are of computed nodes of that height, and among them are those of all from position a on
abbrev pub ArePlanned : {D : Type 0} → (List ℕ → List ℕ) → (ℕ → Option D) → ℕ → ℕ → ℕ → List (List ℕ) → Type 0
ArePlanned rule m n a e ls = (h p : ℕ) →
    (Contains (level_at ls h) p → (t : Tree) × (slice_get (forest rule e).nodes p ≡ Some t) × (height t ≡ h) × (is_computed rule m n t ≡ true))
    × ((t : Tree) → slice_get (forest rule e).nodes p ≡ Some t → height t ≡ h → is_computed rule m n t ≡ true → a ≤ p → Contains (level_at ls h) p)

-- ---- dirty parents

-- whether the node is a parent above a leaf that m has a digest for
abbrev pub is_dirty_parent : {D : Type 0} → (ℕ → Option D) → Tree → Bool
is_dirty_parent m (leaf p n) = false
is_dirty_parent m (join p l r) = is_dirty m (join p l r)

-- the positions of the dirty parents of height h in a tree, each after those below it, the left ones first
abbrev pub dirty_at : {D : Type 0} → (ℕ → Option D) → ℕ → Tree → List ℕ
dirty_at m h (leaf p n) = []
dirty_at m h (join p l r) = (dirty_at m h l ++ dirty_at m h r) ++ cond (is_dirty m (join p l r) && (h == suc (height l))) (p ∷ []) []

-- how many dirty parents a tree has
abbrev pub dirty_count : {D : Type 0} → (ℕ → Option D) → Tree → ℕ
dirty_count m (leaf p n) = 0
dirty_count m (join p l r) = (dirty_count m l + dirty_count m r) + cond (is_dirty m (join p l r)) 1 0

-- how many dirty parents some trees have
abbrev pub all_dirty_count : {D : Type 0} → (ℕ → Option D) → List Tree → ℕ
all_dirty_count m [] = 0
all_dirty_count m (t ∷ ts) = dirty_count m t + all_dirty_count m ts

-- from the lists old to the lists new, the dirty parents of some trees are added, each at its height
pub record AreMarked {D : Type 0} (m : ℕ → Option D) (ts : List Tree) (old new : List (List ℕ)) : Type 0 where
  pub listed : (h : ℕ) → level_at new h ≡ level_at old h ++ flat_map (dirty_at m h) ts
  pub counted : length (from_height new 0) ≡ length (from_height old 0) + all_dirty_count m ts

-- ---- new parents

-- from the lists old to the lists new, exactly the parents at positions from a on and before b are added, each at its height
pub record AreAdded (rule : List ℕ → List ℕ) (max_leaves a b : ℕ) (old new : List (List ℕ)) : Type 0 where
  pub sound : (h p : ℕ) → Contains (level_at new h) p → Contains (level_at old h) p ⊎ ((a ≤ p) × (p < b) × HasInner rule max_leaves p h)
  pub kept : (h p : ℕ) → Contains (level_at old h) p → Contains (level_at new h) p
  pub complete : (h p : ℕ) → a ≤ p → p < b → HasInner rule max_leaves p h → Contains (level_at new h) p
