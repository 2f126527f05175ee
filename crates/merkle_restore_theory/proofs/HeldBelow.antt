-- Which nodes are held: below a node with a held one under it, both children.
use Rattle.std.proofs.Common.{◌≡◌, ℕ, ◌<◌, ◌≤◌, ◌⊎◌, List, Some, true, slice_get, arith, refl, sym, ap, ap₂, inl, inr, ◌∙◌, subst, lt-ltb, ltb-true}
use Rattle.std.specs.Prelude.{is_some, nat_lt, ◌&&◌}
use Rattle.std.proofs.lemmas.Bool.{and_parts, cases_lt}
use Rattle.merkle_base.specs.Tree.{Tree, leaf, join, position, IsUnder, IsBuilt}
use Rattle.merkle_base.specs.Forest.{forest, size}
use Rattle.merkle_base.specs.Hashing.{Hashing}
use Rattle.merkle_base.proofs.Births.{all_get}
use Rattle.merkle_base.proofs.Growth.{forest_grown}
use Rattle.merkle_base.proofs.Held.{children_held}
use Rattle.merkle_base.proofs.Lists.{get_below, one_there}
use Rattle.merkle_base.proofs.Lookup.{peak_node}
use Rattle.merkle_base.proofs.Nodes.{built_under, node_anywhere, node_built, peak_of, peak_unique, same_position}
use Rattle.merkle_base.proofs.Paths.{position_under}
use Rattle.merkle_batch_theory.specs.Contents.{Contents, HoldsKept, is_kept}
use Rattle.merkle_batch_theory.proofs.Kept.{kept_cases, kept_held}
use Rattle.merkle_restore_theory.specs.Damage.{IsDamaged, HoldsChildren, HeldNodesHaveChildren, DamageIsFromBoundary}

-- ---- trees
pub under_self : (t : Tree) → IsUnder t t
under_self (leaf p k) = refl
under_self (join p l r) = inl refl

pub under_below : (a b t : Tree) → IsUnder a b → IsUnder b t → IsUnder a t
under_below a b (leaf p k) u v = subst (IsUnder a) v u
under_below a b (join p l r) u v = elim v [
  | inl e ↦ subst (IsUnder a) e u
  | inr w ↦ elim w [ inl x ↦ inr (inl (under_below a b l u x)) | inr x ↦ inr (inr (under_below a b r u x)) ]
]

pub built_there : (ns : List Tree) (t : Tree) → IsBuilt ns t → slice_get ns (position t) ≡ Some t
built_there ns (leaf p k) b = b
built_there ns (join p l r) b = b.0

-- no node above a peak stands in the peak's forest
pub peak_is_last : (rule : List ℕ → List ℕ) (b i p : ℕ) (u t : Tree) → slice_get (forest rule b).peaks i ≡ Some u → slice_get (forest rule b).nodes p ≡ Some t → IsUnder u t → position t ≤ position u
peak_is_last rule b i p u t d e below =
    let g = forest_grown rule b in
    let top = peak_of t (forest rule b).peaks (g.under p t e) in
    let above : IsUnder u top.1 = under_below u t top.1 below top.3 in
    let same : i ≡ top.0 = peak_unique (forest rule b).nodes b u (forest rule b).peaks g.covers g.built i top.0 u top.1 d top.2 (under_self u) above in
    let one : top.1 ≡ u = one_there (subst (λ j. slice_get (forest rule b).peaks j ≡ Some top.1) (sym same) top.2) d in
    let built = all_get (IsBuilt (forest rule b).nodes) (forest rule b).peaks top.0 top.1 g.built top.2 in
    subst (λ s. position t ≤ position s) one (position_under (forest rule b).nodes t top.1 top.3 built)

-- ---- what a structure holds
module _ {D : Type 0} (rule : List ℕ → List ℕ) (c : Contents D) (n : ℕ) (held : HoldsKept rule c) (sized : size rule n ≡ c.size) where
  pub held_is_kept : (p : ℕ) → is_some (c.node p) ≡ true → (p < size rule n) × (is_kept rule c.boundary p ≡ true)
  held_is_kept p e =
      let w = and_parts (nat_lt p c.size) (is_kept rule c.boundary p) (sym (held p) ∙ e) in
      (omega (arith, ltb-true p c.size w.0, sized), w.1)

  pub kept_is_held : (p : ℕ) → p < size rule n → is_kept rule c.boundary p ≡ true → is_some (c.node p) ≡ true
  kept_is_held p l k = held p ∙ ap₂ (λ x y. x && y) (lt-ltb p c.size (omega (arith, l, sized))) k

  -- a merged node with a held one under it stands at the boundary's position or later
  pub from_boundary : (p : ℕ) (l r u : Tree) → slice_get (forest rule n).nodes p ≡ Some (join p l r) → IsUnder u l ⊎ IsUnder u r → is_some (c.node (position u)) ≡ true → size rule c.boundary ≤ p
  from_boundary p l r u e below h =
      let ns = (forest rule n).nodes in
      let built = node_built rule n p (join p l r) e in
      let early : position u < p = elim below [
        | inl x ↦ omega (arith, position_under ns u l x built.4, built.1)
        | inr x ↦ omega (arith, position_under ns u r x built.5, built.2)
      ] in
      let there : slice_get ns (position u) ≡ Some u = built_there ns u (built_under ns u (join p l r) (inr below) built) in
      elim (kept_cases rule c.boundary (position u) (held_is_kept (position u) h).1) [
        | inl m ↦ omega (arith, m, early)
        | inr k ↦ elim (cases_lt p (size rule c.boundary)) [
          | inl less ↦ absurd (no_pin p l r u k.0 k.1 e below there k.2 k.3 less early)
          | inr more ↦ more
        ]
      ]
    where
      no_pin : (p : ℕ) (l r u : Tree) (i : ℕ) (s : Tree) → slice_get (forest rule n).nodes p ≡ Some (join p l r) → IsUnder u l ⊎ IsUnder u r → slice_get (forest rule n).nodes (position u) ≡ Some u
          → slice_get (forest rule c.boundary).peaks i ≡ Some s → position u ≡ position s → p < size rule c.boundary → position u < p → ⊥
      no_pin p l r u i s e below there d q less early =
          let old : slice_get (forest rule c.boundary).nodes (position u) ≡ Some s = subst (λ x. slice_get (forest rule c.boundary).nodes x ≡ Some s) (sym q) (peak_node rule c.boundary i s d) in
          let one : s ≡ u = same_position rule c.boundary n (position u) s u old there in
          let here = node_anywhere rule n c.boundary p (join p l r) e less in
          let last : p ≤ position u = peak_is_last rule c.boundary i p u (join p l r) (subst (λ x. slice_get (forest rule c.boundary).peaks i ≡ Some x) one d) here (inr below) in
          absurd (omega (arith, last, early))

  -- the children of what stands there are held
  pub children_there : c.boundary ≤ n → (p : ℕ) (t : Tree) → slice_get (forest rule n).nodes p ≡ Some t → size rule c.boundary ≤ p → HoldsChildren c.node t
  children_there within p (leaf q k) e from = tt
  children_there within p (join q l r) e from =
      let w = children_held rule c.boundary n p (join q l r) within e from in
      let built = node_built rule n p (join q l r) e in
      let last : q < size rule n = get_below (forest rule n).nodes q (join q l r) built.0 in (
        kept_is_held (position l) (omega (arith, built.1, last)) (kept_held rule c.boundary l w.0),
        kept_is_held (position r) (omega (arith, built.2, last)) (kept_held rule c.boundary r w.1),
      )

  pub damage_from_boundary : (h : Hashing D) (p : ℕ) → IsDamaged h rule n c.node p → size rule c.boundary ≤ p
  damage_from_boundary h p w = from_boundary p w.0 w.1 w.0 w.5 (inl (under_self w.0)) (ap is_some w.7)

pub held_nodes_have_children : {D : Type 0} → HeldNodesHaveChildren D
held_nodes_have_children rule c n held within sized p t e from = children_there rule c n held sized within p t e from

pub damage_is_from_boundary : {D : Type 0} → DamageIsFromBoundary D
damage_is_from_boundary h rule c n held sized p w = damage_from_boundary rule c n held sized h p w
