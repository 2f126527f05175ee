-- What is needed is kept.
use Rattle.std.proofs.Common.{◌≡◌, ℕ, ◌<◌, ◌≤◌, ◌⊎◌, List, Option, Some, true, slice_get, arith, refl, sym, inl, inr, subst}
use Rattle.std.specs.Prelude.{is_some}
use Rattle.std.proofs.lemmas.Bool.{leb-true, or_cases}
use Rattle.std.proofs.Common.{leb}
use Rattle.merkle_base.specs.Tree.{Tree, leaf, join, position, IsUnder}
use Rattle.merkle_base.specs.Forest.{forest, size}
use Rattle.merkle_base.specs.Held.{IsHeld}
use Rattle.merkle_base.proofs.Nodes.{node_built, size_le, built_under}
use Rattle.merkle_base.proofs.Births.{leaf_at, all_get}
use Rattle.merkle_base.proofs.Paths.{position_under}
use Rattle.merkle_base.proofs.Held.{children_held, peaks_held}
use Rattle.merkle_batch_theory.specs.Contents.{is_kept}
use Rattle.merkle_batch_theory.specs.History.{is_dirty}
use Rattle.merkle_batch_theory.specs.Needed.{is_computed, IsUsed}
use Rattle.merkle_batch_theory.proofs.Kept.{kept_held}

-- there are leaves after n, or m has a digest for one before
abbrev pub IsChanged : {D : Type 0} → (List ℕ → List ℕ) → (ℕ → Option D) → ℕ → ℕ → Type 0
IsChanged rule m n e = (n < e) ⊎ ((k : ℕ) × (k < n) × (is_some (m (size rule k)) ≡ true))

-- a leaf under a dirty tree has a digest
pub dirty_leaf : {D : Type 0} (m : ℕ → Option D) (t : Tree) → is_dirty m t ≡ true → (q k : ℕ) × IsUnder (leaf q k) t × (is_some (m q) ≡ true)
dirty_leaf m (leaf q k) e = (q, k, refl, e)
dirty_leaf m (join p l r) e = elim (or_cases (is_dirty m l) (is_dirty m r) e) [
  | inl x ↦ (let w = dirty_leaf m l x in (w.0, w.1, inr (inl w.2), w.3))
  | inr x ↦ (let w = dirty_leaf m r x in (w.0, w.1, inr (inr w.2), w.3))
]

module _ {D : Type 0} (rule : List ℕ → List ℕ) (m : ℕ → Option D) (b n e : ℕ) (low : b ≤ n) (more : n ≤ e)
    (above : (k : ℕ) → is_some (m (size rule k)) ≡ true → b ≤ k) where
  -- where all leaves with a digest stand at or after b, so does each computed node
  pub computed_after : (p : ℕ) (l r : Tree) → slice_get (forest rule e).nodes p ≡ Some (join p l r) → is_computed rule m n (join p l r) ≡ true → size rule b ≤ p
  computed_after p l r g c = elim (or_cases (leb (size rule n) p) (is_dirty m (join p l r)) c) [
    | inl x ↦ omega (arith, leb-true (size rule n) p x, size_le rule b n low)
    | inr x ↦ (let w = dirty_leaf m (join p l r) x in
        let t = node_built rule e p (join p l r) g in
        let f = leaf_at rule e w.0 w.0 w.1 (built_under (forest rule e).nodes (leaf w.0 w.1) (join p l r) w.2 t) in
        let k : b ≤ w.1 = above w.1 (subst (λ q. is_some (m q) ≡ true) f.0 w.3) in
        omega (arith, size_le rule b w.1 k, f.0, position_under (forest rule e).nodes (leaf w.0 w.1) (join p l r) w.2 t))
  ]

  -- and each node that is used is kept at b
  pub used_kept : (t : Tree) → IsUsed rule m n e t → is_kept rule b (position t) ≡ true
  used_kept t u = elim u [
    | inl x ↦ (let c = children_held rule b e x.0 (join x.0 x.1 x.2) (omega (arith, low, more)) x.3 (computed_after x.0 x.1 x.2 x.3 x.4) in
        elim x.5 [
          | inl d ↦ subst (λ s. is_kept rule b (position s) ≡ true) (sym d) (kept_held rule b x.1 c.0)
          | inr d ↦
              subst (λ s. is_kept rule b (position s) ≡ true) (sym d) (kept_held rule b x.2 c.1)
        ])
    | inr x ↦ kept_held rule b t (all_get (IsHeld (size rule b) (forest rule b).peaks) (forest rule e).peaks x.1.0 t (peaks_held rule b e (omega (arith, low, more))) x.1.1)
  ]

-- ---- what a proof of leaves at or after the boundary reads is kept
pub sibling_kept : (rule : List ℕ → List ℕ) (b n p q k : ℕ) (l r : Tree) → b ≤ n → slice_get (forest rule n).nodes p ≡ Some (join p l r)
    → IsUnder (leaf q k) (join p l r) → b ≤ k → (is_kept rule b (position l) ≡ true) × (is_kept rule b (position r) ≡ true)
sibling_kept rule b n p q k l r low e u above =
    (let t = node_built rule n p (join p l r) e in
    let f = leaf_at rule n q q k (built_under (forest rule n).nodes (leaf q k) (join p l r) u t) in
    let c = children_held rule b n p (join p l r) low e (omega (arith, size_le rule b k above, f.0, position_under (forest rule n).nodes (leaf q k) (join p l r) u t)) in
    (kept_held rule b l c.0, kept_held rule b r c.1))

pub peaks_kept : (rule : List ℕ → List ℕ) (b n i : ℕ) (t : Tree) → b ≤ n → slice_get (forest rule n).peaks i ≡ Some t → is_kept rule b (position t) ≡ true
peaks_kept rule b n i t low e = kept_held rule b t (all_get (IsHeld (size rule b) (forest rule b).peaks) (forest rule n).peaks i t (peaks_held rule b n low) e)
