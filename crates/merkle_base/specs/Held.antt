-- What a store holds that dropped the nodes of the first leaves, but for the peaks over them.
use Rattle.std.specs.Prelude.{◌≡◌, ℕ, ◌≤◌, ◌⊎◌, List, Some, slice_get}
use Rattle.merkle_base.specs.Tree.{Tree, leaf, join, position}

-- t has position b or a later one, or is one of the old peaks
abbrev pub IsHeld : ℕ → List Tree → Tree → Type 0
IsHeld b old t = (b ≤ position t) ⊎ ((i : ℕ) × (slice_get old i ≡ Some t))

-- the children of t, if it has any, have position b or a later one or are among the old peaks
abbrev pub ChildrenHeld : ℕ → List Tree → Tree → Type 0
ChildrenHeld b old (leaf p n) = Unit {0}
ChildrenHeld b old (join p l r) = IsHeld b old l × IsHeld b old r
