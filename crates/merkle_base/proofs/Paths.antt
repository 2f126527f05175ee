-- From a peak down to a leaf.
use Rattle.std.proofs.Common.{◌≡◌, ℕ, suc, ◌+◌, ◌<◌, ◌≤◌, List, [], ◌∷◌, Some, slice_get, arith, refl, ap, inl, inr, subst}
use Rattle.std.proofs.lemmas.Bool.{cases_lt}
use Rattle.merkle_base.specs.Tree.{Tree, leaf, join, position, first_leaf, width, IsUnder, IsBuilt}
use Rattle.merkle_base.specs.Forest.{forest, size, Covers}
use Rattle.merkle_base.proofs.Growth.{forest_grown, built_at}
use Rattle.merkle_base.proofs.Nodes.{node_built, built_under}
use Rattle.merkle_base.proofs.Births.{leaf_at}

-- an ancestor does not stand before what is under it
pub position_under : (ns : List Tree) (a t : Tree) → IsUnder a t → IsBuilt ns t → position a ≤ position t
position_under ns a (leaf p n) u h = rw u (omega arith)
position_under ns a (join p l r) u h =
    elim u [
      | inl e ↦ rw e (omega arith)
      | inr v ↦
          elim v [ inl w ↦ omega (arith, position_under ns a l w h.4, h.1) | inr w ↦ omega (arith, position_under ns a r w h.5, h.2) ]
    ]

-- a tree has a leaf for each location of its span
leaf_in : (ns : List Tree) (k : ℕ) (t : Tree) → IsBuilt ns t → first_leaf t ≤ k → k < first_leaf t + width t → (q : ℕ) × IsUnder (leaf q k) t
leaf_in ns k (leaf p n) h l u = (p, ap (leaf p) (same k n l u))
  where
    same : (k n : ℕ) → n ≤ k → k < n + 1 → k ≡ n
    same k n l u = omega arith
leaf_in ns k (join p l r) h a b = elim (cases_lt k (first_leaf r)) [
  | inl x ↦ (let w = leaf_in ns k l h.4 a (omega (arith, h.3)) in (w.0, inr (inl w.1)))
  | inr x ↦ (let w = leaf_in ns k r h.5 x (omega (arith, h.3)) in (w.0, inr (inr w.1)))
]

-- leaf k lies under each node of the forest whose span has k
pub leaf_under : (rule : List ℕ → List ℕ) (n p k : ℕ) (t : Tree) → slice_get (forest rule n).nodes p ≡ Some t → first_leaf t ≤ k → k < first_leaf t + width t → IsUnder (leaf (size rule k) k) t
leaf_under rule n p k t e l u =
    let h = node_built rule n p t e in
    let w = leaf_in (forest rule n).nodes k t h l u in
    let at : slice_get (forest rule n).nodes w.0 ≡ Some (leaf w.0 k) = built_at (forest rule n).nodes (leaf w.0 k) (built_under (forest rule n).nodes (leaf w.0 k) t w.1 h) in
    subst (λ (q : ℕ). IsUnder (leaf q k) t) (leaf_at rule n w.0 w.0 k at).0 w.1

holding : (n k : ℕ) (ts : List Tree) → Covers n ts → k < n → (i : ℕ) × (t : Tree) × (slice_get ts i ≡ Some t) × (first_leaf t ≤ k) × (k < first_leaf t + width t)
holding n k [] c l = absurd (omega arith)
holding n k (t ∷ ts) c l = elim (cases_lt k (first_leaf t)) [
  | inl x ↦ (let w = holding (first_leaf t) k ts c.1 x in (suc w.0, w.1, w.2, w.3, w.4))
  | inr x ↦ (0, t, refl, x, omega (arith, c.0))
]

-- some peak holds location k
pub peak_holding : (rule : List ℕ → List ℕ) (n k : ℕ) → k < n → (i : ℕ) × (t : Tree) × (slice_get (forest rule n).peaks i ≡ Some t) × (first_leaf t ≤ k) × (k < first_leaf t + width t)
peak_holding rule n k l = holding n k (forest rule n).peaks (forest_grown rule n).covers l
