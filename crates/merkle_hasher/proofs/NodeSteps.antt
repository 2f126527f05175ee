-- Nodes that stand where code carries them, and their children.
use Rattle.std.proofs.Common.{◌≡◌, ◌≢◌, ℕ, ◌<◌, ◌⊎◌, inl, inr, List, arith, ap}
use Rattle.merkle_base.specs.Tree.{Tree, leaf, join, height}
use Rattle.merkle_hasher.specs.Subtrees.{IsNodeOf}

module _ (rule : List ℕ → List ℕ) (m p s : ℕ) (tall : ℕ) where
  pub inner_node : (t : Tree) → IsNodeOf rule m p tall s t → tall ≢ 0 → (q : ℕ) × (a : Tree) × (b : Tree) × IsNodeOf rule m p tall s (join q a b)
  inner_node (leaf q i) w e = absurd (e (omega (arith, w.height_is)))
  inner_node (join q a b) w e = (q, a, b, w)

-- a child is lower than its parent
pub lower : (rule : List ℕ → List ℕ) (m p s tall q p' s' tall' : ℕ) (l r t : Tree) → IsNodeOf rule m p tall s (join q l r)
    → IsNodeOf rule m p' tall' s' t → (t ≡ l) ⊎ (height t ≡ height l) → tall' < tall
lower rule m p s tall q p' s' tall' l r t w v (inl e) = omega (arith, w.height_is, v.height_is, ap height e)
lower rule m p s tall q p' s' tall' l r t w v (inr e) = omega (arith, w.height_is, v.height_is, e)
