-- What holds of every forest.
use Rattle.std.specs.Prelude.{◌≡◌, ℕ, ◌+◌, ◌*◌, length, Some, slice_get}
use Rattle.std.specs.List.{AllByRecursion}
use Rattle.merkle_base.specs.Tree.{Tree, position, IsBuilt}
use Rattle.merkle_base.specs.Forest.{Forest, Covers, IsUnderOne}

-- What holds of the forest of n leaves under any rule:
-- node p stands at position p; the peaks cover the n leaves; each peak, and each node under it, stands at its position, with its children
-- before it; each node stands under a peak; and a merge gives one node for one peak.
pub record IsGrown (n : ℕ) (f : Forest) : Type 0 where
  pub placed : (p : ℕ) (t : Tree) → slice_get f.nodes p ≡ Some t → position t ≡ p
  pub covers : Covers n f.peaks
  pub built : AllByRecursion (IsBuilt f.nodes) f.peaks
  pub under : (p : ℕ) (t : Tree) → slice_get f.nodes p ≡ Some t → IsUnderOne t f.peaks
  pub counted : length f.nodes + length f.peaks ≡ 2 * n
