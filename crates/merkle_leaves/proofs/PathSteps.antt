-- A path, step by step.
use Rattle.std.proofs.Common.{◌≡◌, ◌≢◌, ℕ, ◌+◌, ◌<◌, ◌≤◌, cond, List, [], ◌∷◌, length, slice_get, arith, refl, ap, ap₂, sym, ◌∙◌, lt-ltb, ⊎_elim}
use Rattle.std.proofs.lemmas.Bool.{le-ltb, cases_lt}
use Rattle.merkle_base.specs.Tree.{Tree, leaf, join, position, height, first_leaf, width, IsBalanced}
use Rattle.merkle_base.specs.Forest.{forest}
use Rattle.merkle_base.specs.Heights.{IsLawful}
use Rattle.merkle_base.proofs.Growth.{forest_grown}
use Rattle.merkle_base.proofs.Nodes.{node_stays, node_built, same_position}
use Rattle.merkle_base.proofs.Balance.{node_balanced}
use Rattle.merkle_leaves.specs.Path.{path, path_from, IsNodeAbove, IsPath}
use Rattle.merkle_hasher.specs.Subtrees.{IsNodeOf}

-- ---- the items
pub path_left : (k p : ℕ) (l r : Tree) → k < first_leaf r → path k (join p l r) ≡ (p, position r, height (join p l r)) ∷ path k l
path_left k p l r b = ap (λ z. cond z ((p, position r, height (join p l r)) ∷ path k l) ((p, position l, height (join p l r)) ∷ path k r)) (lt-ltb k (first_leaf r) b)

pub path_right : (k p : ℕ) (l r : Tree) → first_leaf r ≤ k → path k (join p l r) ≡ (p, position l, height (join p l r)) ∷ path k r
path_right k p l r b = ap (λ z. cond z ((p, position r, height (join p l r)) ∷ path k l) ((p, position l, height (join p l r)) ∷ path k r)) (le-ltb k (first_leaf r) b)

path_leaf : (k h : ℕ) (t : Tree) → height t ≡ h → h ≡ 0 → path k t ≡ []
path_leaf k h (leaf p n) e z = refl
path_leaf k h (join p l r) e z = absurd (omega (arith, e, z))

-- there are as many items as the node is high
path_length : (k : ℕ) (t : Tree) → IsBalanced t → length (path k t) ≡ height t
path_length k (leaf p n) b = refl
path_length k (join p l r) b = ⊎_elim
    (λ x. omega (arith, ap length (path_left k p l r x), path_length k l b.1))
    (λ x. omega (arith, ap length (path_right k p l r x), path_length k r b.2, b.0))
    (cases_lt k (first_leaf r))

module _ (rule : List ℕ → List ℕ) (m : ℕ) where
  -- the node stands in the greatest forest too
  in_greatest : (p h s k : ℕ) (w : IsNodeAbove rule m p h s k) → IsNodeOf rule m p h s w.node
  in_greatest p h s k w = record { at = node_stays rule w.leaves m p w.node w.bounded w.stands.at; height_is = w.stands.height_is; first_is = w.stands.first_is }

  from_node : (p h s k : ℕ) (t : Tree) → IsNodeOf rule m p h s t → path_from k (slice_get (forest rule m).nodes p) ≡ path k t
  from_node p h s k t w = ap (path_from k) w.at

  -- so the path from there is the path in every forest
  pub is_path : (p h s k : ℕ) → IsNodeAbove rule m p h s k → IsPath rule p k (path_from k (slice_get (forest rule m).nodes p))
  is_path p h s k w = λ n t e. from_node p h s k w.node (in_greatest p h s k w) ∙ ap (path k) (same_position rule w.leaves n p w.node t w.stands.at e)

  pub path_ends : (p h s k : ℕ) → IsNodeAbove rule m p h s k → h ≡ 0 → path_from k (slice_get (forest rule m).nodes p) ≡ []
  path_ends p h s k w z = from_node p h s k w.node (in_greatest p h s k w) ∙ path_leaf k h w.node w.stands.height_is z

  -- of a lawful rule it has as many items as its first node is high
  pub path_count : (max_nodes : ℕ) → IsLawful rule m max_nodes → (p h s k : ℕ) → IsNodeAbove rule m p h s k → length (path_from k (slice_get (forest rule m).nodes p)) ≡ h
  path_count max_nodes law p h s k w =
      let v = in_greatest p h s k w in
      ap length (from_node p h s k w.node v) ∙ path_length k w.node (node_balanced rule m law.equal m p w.node (omega arith) v.at) ∙ v.height_is

  inner_with : (p h s k : ℕ) (t : Tree) → IsNodeOf rule m p h s t → k < s + width t → h ≢ 0 → (q : ℕ) × (a : Tree) × (b : Tree) × IsNodeOf rule m p h s (join q a b) × (k < s + (width a + width b))
  inner_with p h s k (leaf q n) w l z = absurd (z (omega (arith, w.height_is)))
  inner_with p h s k (join q a b) w l z = (q, a, b, w, l)

  -- a node that is no leaf has two children
  pub inner_over : (p h s k : ℕ) → IsNodeAbove rule m p h s k → h ≢ 0 → (q : ℕ) × (a : Tree) × (b : Tree) × IsNodeOf rule m p h s (join q a b) × (k < s + (width a + width b))
  inner_over p h s k w z = inner_with p h s k w.node (in_greatest p h s k w) w.before z

  item : (p h s q : ℕ) (a b t : Tree) (x xh xs : ℕ) → IsNodeOf rule m p h s (join q a b) → IsNodeOf rule m x xh xs t → ◌≡◌ {A = ℕ × ℕ × ℕ} (q, position t, height (join q a b)) (p, x, h)
  item p h s q a b t x xh xs w v =
      let top : q ≡ p = (forest_grown rule m).placed p (join q a b) w.at in
      let other : position t ≡ x = (forest_grown rule m).placed x t v.at in
      rw (top, other, ← w.height_is) refl

  -- a step from the node at p to one of its children, which stand at x and y
  module _ (p h s k x xh xs y yh ys : ℕ) (w : IsNodeAbove rule m p h s k) (inner : h ≢ 0)
      (children : (q : ℕ) (a b : Tree) → IsNodeOf rule m p h s (join q a b) → IsNodeOf rule m x xh xs a × IsNodeOf rule m y yh ys b) where
    pub left_step : k < ys → IsNodeAbove rule m x xh xs k × (path_from k (slice_get (forest rule m).nodes p) ≡ (p, y, h) ∷ path_from k (slice_get (forest rule m).nodes x))
    left_step low =
        let (q, a, b, v, high) = inner_over p h s k w inner in
        let (l, r) = children q a b v in (
          record {
            leaves = m;
            node = a;
            bounded = omega arith;
            stands = l;
            after = omega (arith, l.first_is, v.first_is, w.after);
            before = omega (arith, l.first_is, r.first_is, (node_built rule m p (join q a b) v.at).3, low);
          },
          from_node p h s k (join q a b) v ∙ path_left k q a b (omega (arith, r.first_is, low))
              ∙ ap₂ (λ z zs. z ∷ zs) (item p h s q a b b y yh ys v r) (sym (from_node x xh xs k a l)),
        )

    pub right_step : ys ≤ k → IsNodeAbove rule m y yh ys k × (path_from k (slice_get (forest rule m).nodes p) ≡ (p, x, h) ∷ path_from k (slice_get (forest rule m).nodes y))
    right_step high =
        let (q, a, b, v, low) = inner_over p h s k w inner in
        let (l, r) = children q a b v in (
          record {
            leaves = m;
            node = b;
            bounded = omega arith;
            stands = r;
            after = high;
            before = omega (arith, v.first_is, r.first_is, (node_built rule m p (join q a b) v.at).3, low);
          },
          from_node p h s k (join q a b) v ∙ path_right k q a b (omega (arith, r.first_is, high))
              ∙ ap₂ (λ z zs. z ∷ zs) (item p h s q a b a x xh xs v l) (sym (from_node y yh ys k b r)),
        )
