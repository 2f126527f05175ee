-- Plans of proofs of one leaf.
use Rattle.std.specs.Prelude.{◌≡◌, ℕ, ◌+◌, ◌≤◌, ◌<◌, ◌⊎◌}
use Rattle.merkle_base.specs.declared.error.Error.{Error}
use Rattle.merkle_base.specs.declared.error.Error.TheVariants.{LocationOverflow}
use Rattle.merkle_proof.specs.RangePlans.{LeafRange, IsRefusal}

-- a leaf of a number of leaves
pub record OneLeaf : Type 0 where
  pub leaves : ℕ
  pub location : ℕ

-- one leaf of a number of leaves, as a range
abbrev pub leaf_range : OneLeaf → LeafRange
leaf_range l = record { leaves = l.leaves; start = l.location; end = l.location + 1 }

-- why there is no plan of the leaf at i: no list has the location, or the range of that leaf has no plan
abbrev pub IsElementRefusal : {F : Type 0} → (max_leaves n i : ℕ) → Error F → Type 0
IsElementRefusal max_leaves n i e = ((max_leaves ≤ i) × (e ≡ LocationOverflow i)) ⊎ ((i < max_leaves) × IsRefusal max_leaves n i (i + 1) e)
