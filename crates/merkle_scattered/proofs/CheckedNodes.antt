-- Nodes as a check of scattered leaves represents them, and what it computes of them.
use Rattle.std.proofs.Common.{◌≡◌, ◌≢◌, ℕ, zero, suc, Bool, true, false, cond, ◌||◌, ◌&&◌, ◌+◌, ◌<◌, ◌≤◌, nat_lt, List, [], ◌∷◌, map, drop, get_or, length}
use Rattle.std.proofs.Common.{Option, inl, inr, refl, ap, ap₂, sym, ◌∙◌, subst, arith, lt-ltb, add-one}
use Rattle.std.proofs.lemmas.Bool.{ltb-true, and_parts, cases_lt}
use Rattle.std.proofs.lemmas.List.{length-map}
use Rattle.merkle_base.specs.Hashing.{Hashing}
use Rattle.merkle_base.specs.Tree.{Tree, leaf, join, position, first_leaf, end_leaf, IsBuilt}
use Rattle.merkle_base.specs.Forest.{forest}
use Rattle.merkle_base.proofs.Growth.{built_at}
use Rattle.merkle_base.proofs.Nodes.{node_built, width_pos}
use Rattle.merkle_hasher.specs.declared.subtree.Subtree.{Subtree}
use Rattle.merkle_hasher.specs.Subtrees.{Denotes, AreNodes, subtree_of}
use Rattle.merkle_root_theory.specs.Expression.{value}
use Rattle.merkle_root_theory.specs.Plan.{tree_meets}
use Rattle.merkle_root_theory.proofs.Grouping.{subtree_is}
use Rattle.merkle_forest_theory.specs.Ascending.{AscendsFrom}
use Rattle.merkle_scattered.specs.declared.checked_node.CheckedNode.{CheckedNode}
use Rattle.merkle_scattered.specs.Confirmed.{locations_of, is_located, located_before, node_checked, checked_node, IsChecked, AreChecked, children_met, parent_met}
use Rattle.merkle_scattered.proofs.ScatteredElements.{met_at}
use Rattle.merkle_scattered.proofs.LocatedIndices.{located_before-within, located_before-later, located_before-drop, none_between, some_between}

-- item i of the nodes, and those from it on
pub checked_item : {F D : Type 0} (rule : List ℕ → List ℕ) (m : ℕ) (es : List (ℕ × D)) (ns : List (CheckedNode F)) (ts : List Tree)
    → AreChecked rule m es ns ts → (i : ℕ) → i < length ns → (d : CheckedNode F)
    → (t : Tree) × (get_or ns i d ≡ checked_node es t) × AreNodes rule m (t ∷ []) × (drop i ts ≡ t ∷ drop (i + 1) ts)
checked_item {F = F} {D = D} rule m es ns ts w i l d =
    subst (λ xs. i < length xs → (t : Tree) × (get_or xs i d ≡ checked_node es t) × AreNodes rule m (t ∷ []) × (drop i ts ≡ t ∷ drop (i + 1) ts)) (sym w.0) (step ts i w.1) l
  where
    step : (ts : List Tree) (i : ℕ) → AreNodes rule m ts → i < length (map (checked_node {F = F} es) ts)
        → (t : Tree) × (get_or (map (checked_node es) ts) i d ≡ checked_node es t) × AreNodes rule m (t ∷ []) × (drop i ts ≡ t ∷ drop (i + 1) ts)
    step [] i h l = absurd (omega arith)
    step (t ∷ ts) zero h l = (t, refl, (h.0, tt), refl)
    step (t ∷ ts) (suc i) h l = let w = step ts i h.1 (omega arith) in
        (w.0, w.1, w.2, w.3 ∙ ap (λ us. w.0 ∷ us) (ap (λ n. drop n ts) (add-one i) ∙ sym (ap (λ n. drop n (t ∷ ts)) (add-one (suc i)))))

-- after the last node there are no others
pub none_after : {F D : Type 0} (rule : List ℕ → List ℕ) (m : ℕ) (es : List (ℕ × D)) (ns : List (CheckedNode F)) (ts : List Tree)
    → AreChecked rule m es ns ts → (i : ℕ) → length ns ≤ i → drop i ts ≡ []
none_after {F = F} rule m es ns ts w i l = drop_past ts i (omega (arith, l, ap length w.0, length-map ts (checked_node {F = F} es)))
  where
    drop_past : (ts : List Tree) (i : ℕ) → length ts ≤ i → drop i ts ≡ []
    drop_past [] zero l = refl
    drop_past [] (suc i) l = refl
    drop_past (t ∷ ts) zero l = absurd (omega (arith, l))
    drop_past (t ∷ ts) (suc i) l = drop_past ts i (omega (arith, l))

module _ (ns : List Tree) (c : ℕ → Bool) where
  -- no chosen location is below a node
  unmet_between : (t : Tree) → IsBuilt ns t → ((i : ℕ) → first_leaf t ≤ i → i < end_leaf t → c i ≡ false) → tree_meets c t ≡ false
  unmet_between (leaf p i) b f = f i (omega arith) (omega arith)
  unmet_between (join p l r) b f =
      ap₂ (λ x y. x || y) (unmet_between l b.4 (λ i x y. f i x (omega (arith, y, width_pos r))))
      (unmet_between r b.5 (λ i x y. f i (omega (arith, x, b.3)) (omega (arith, y, b.3))))

module _ (rule : List ℕ → List ℕ) (m : ℕ) where
  built : (t : Tree) → AreNodes rule m (t ∷ []) → IsBuilt (forest rule m).nodes t
  built t w = node_built rule m (position t) t w.0

  pub left_node : (p : ℕ) (l r : Tree) → AreNodes rule m (join p l r ∷ []) → AreNodes rule m (l ∷ [])
  left_node p l r w = (built_at (forest rule m).nodes l (built (join p l r) w).4, tt)

  pub right_node : (p : ℕ) (l r : Tree) → AreNodes rule m (join p l r ∷ []) → AreNodes rule m (r ∷ [])
  right_node p l r w = (built_at (forest rule m).nodes r (built (join p l r) w).5, tt)

module _ (rule : List ℕ → List ℕ) (m : ℕ) {F D : Type 0} (es : List (ℕ × D)) where
  pub denotes_checked : (x : CheckedNode F) (t : Tree) → x ≡ checked_node es t → AreNodes rule m (t ∷ []) → Denotes rule m x.subtree t
  denotes_checked x t e w = subst (λ s. Denotes rule m s t) (sym (ap (λ x. x.subtree) e)) (record { at = w.0; height_is = refl; first_is = refl })

  module _ (up : AscendsFrom 0 (locations_of es)) where
    -- whether elements are below a node, by their indices
    pub is_met : (x : CheckedNode F) (t : Tree) → x ≡ checked_node es t → AreNodes rule m (t ∷ []) → x.from < x.to → tree_meets (is_located es) t ≡ true
    is_met x t e w l =
        let u = some_between (first_leaf t) (end_leaf t) es (omega (arith, l, ap (λ x. x.from) e, ap (λ x. x.to) e)) in
        met_at (forest rule m).nodes (is_located es) u.0 t (built rule m t w) u.1 u.2 u.3

    pub is_unmet : (x : CheckedNode F) (t : Tree) → x ≡ checked_node es t → AreNodes rule m (t ∷ []) → x.to ≤ x.from → tree_meets (is_located es) t ≡ false
    is_unmet x t e w l =
        unmet_between (forest rule m).nodes (is_located es) t (built rule m t w)
        (none_between 0 (first_leaf t) (end_leaf t) es up (omega (arith, l, ap (λ x. x.from) e, ap (λ x. x.to) e)))

    -- a parent under which elements are
    pub parent_is : (x : CheckedNode F) (t : Tree) → x ≡ checked_node es t → AreNodes rule m (t ∷ []) → (nat_lt x.from x.to && nat_lt 0 x.subtree.height) ≡ true
        → (p : ℕ) × (l : Tree) × (r : Tree) × (t ≡ join p l r) × (children_met es t ≡ l ∷ r ∷ []) × (tree_meets (is_located es) (join p l r) ≡ true)
    parent_is x (leaf p i) e w b = absurd (omega (arith, ltb-true 0 x.subtree.height (and_parts _ _ b).1, ap (λ x. x.subtree.height) e))
    parent_is x (join p l r) e w b =
        let met = is_met x (join p l r) e w (ltb-true x.from x.to (and_parts _ _ b).0) in
        (p, l, r, refl, ap (λ z. cond z (l ∷ r ∷ []) []) met, met)

    unmet_inner : (x : CheckedNode F) (p : ℕ) (l r : Tree) → x ≡ checked_node es (join p l r) → AreNodes rule m (join p l r ∷ []) → (nat_lt x.from x.to && nat_lt 0 x.subtree.height) ≡ false
        → tree_meets (is_located es) (join p l r) ≡ false
    unmet_inner x p l r e w b = elim (cases_lt x.from x.to) [
      | inl y ↦ absurd (cc (sym b ∙ ap₂ (λ z u. z && u) (lt-ltb x.from x.to y) (lt-ltb 0 x.subtree.height (omega (arith, ap (λ x. x.subtree.height) e)))))
      | inr y ↦ is_unmet x (join p l r) e w y
    ]

    -- what is no such parent has no children of which digests are computed
    pub no_children : (x : CheckedNode F) (t : Tree) → x ≡ checked_node es t → AreNodes rule m (t ∷ []) → (nat_lt x.from x.to && nat_lt 0 x.subtree.height) ≡ false → children_met es t ≡ []
    no_children x (leaf p i) e w b = refl
    no_children x (join p l r) e w b = ap (λ z. cond z (l ∷ r ∷ []) []) (unmet_inner x p l r e w b)

    pub no_parent : (h : Hashing D) (a : ℕ → Option D) (x : CheckedNode F) (t : Tree) → x ≡ checked_node es t → AreNodes rule m (t ∷ [])
        → (nat_lt x.from x.to && nat_lt 0 x.subtree.height) ≡ false → parent_met h a es t ≡ []
    no_parent h a x (leaf p i) e w b = refl
    no_parent h a x (join p l r) e w b = ap (λ z. cond z ((p, value h (node_checked h a es l), value h (node_checked h a es r)) ∷ []) []) (unmet_inner x p l r e w b)

module _ {F D : Type 0} (es : List (ℕ × D)) (x : CheckedNode F) where
  pub indices_within : (t : Tree) → x ≡ checked_node es t → (x.from ≤ length es) × (x.from ≤ x.to) × (x.to ≤ length es)
  indices_within t e =
      let from_is : x.from ≡ located_before (first_leaf t) es = ap (λ x. x.from) e in
      let to_is : x.to ≡ located_before (end_leaf t) es = ap (λ x. x.to) e in (
        omega (arith, from_is, located_before-within (first_leaf t) es),
        omega (arith, from_is, to_is, located_before-later (first_leaf t) (end_leaf t) (omega arith) es),
        omega (arith, to_is, located_before-within (end_leaf t) es),
      )

  -- the children of a node, where `mid` elements are before the right one
  pub children_are : (rule : List ℕ → List ℕ) (m p : ℕ) (l r : Tree) → x ≡ checked_node es (join p l r) → AreNodes rule m (join p l r ∷ [])
      → (a b : Subtree F) → Denotes rule m a l × Denotes rule m b r → (mid : ℕ) → mid ≡ x.from + located_before b.first_leaf (drop x.from es)
      → (◌≡◌ {A = CheckedNode F} (record { subtree = a; from = x.from; to = mid }) (checked_node es l))
      × (◌≡◌ {A = CheckedNode F} (record { subtree = b; from = mid; to = x.to }) (checked_node es r))
  children_are rule m p l r e w a b d mid mid_is =
      let make : Subtree F → ℕ → ℕ → CheckedNode F = λ s i j. record { subtree = s; from = i; to = j } in
      let ends : end_leaf l ≡ first_leaf r = (built rule m (join p l r) w).3 in
      let from_is : x.from ≡ located_before (first_leaf l) es = ap (λ x. x.from) e in
      let to_is : x.to ≡ located_before (end_leaf (join p l r)) es = ap (λ x. x.to) e in
      let last : end_leaf (join p l r) ≡ end_leaf r = omega (arith, ends) in
      let start : b.first_leaf ≡ first_leaf r = sym d.1.first_is in
      let mid_before : mid ≡ located_before (first_leaf r) es =
      mid_is ∙ ap (λ n. n + located_before b.first_leaf (drop n es)) from_is ∙ ap (λ (n : ℕ). located_before (first_leaf l) es + located_before n (drop (located_before (first_leaf l) es) es)) start
      ∙ sym (located_before-drop (first_leaf l) (first_leaf r) (omega (arith, ends)) es) in (
        ap (λ s. make s x.from mid) (subtree_is rule m a l d.0) ∙ ap₂ (λ i j. make (subtree_of l) i j) from_is (mid_before ∙ ap (λ (n : ℕ). located_before n es) (sym ends)),
        ap (λ s. make s mid x.to) (subtree_is rule m b r d.1) ∙ ap₂ (λ i j. make (subtree_of r) i j) mid_before (to_is ∙ ap (λ (n : ℕ). located_before n es) last),
      )

module _ {F D : Type 0} (rule : List ℕ → List ℕ) (m : ℕ) (es : List (ℕ × D)) (up : AscendsFrom 0 (locations_of es)) (x : CheckedNode F) (some : x.from < x.to) where
  -- a node above elements is one of their leaves, or has children
  pub leaf_is : (t : Tree) → IsChecked rule m es x t → x.subtree.height ≡ 0 → (p : ℕ) × (i : ℕ) × (t ≡ leaf p i) × (is_located es i ≡ true)
      × (x.from ≡ located_before i es) × (located_before i es < located_before (i + 1) es)
  leaf_is (leaf p i) w flat =
      let from_is : x.from ≡ located_before i es = ap (λ x. x.from) w.0 in
      let to_is : x.to ≡ located_before (i + 1) es = ap (λ x. x.to) w.0 in
      (p, i, refl, is_met rule m es up x (leaf p i) w.0 w.1 some, from_is, omega (arith, from_is, to_is, some))
  leaf_is (join p l r) w flat = absurd (omega (arith, flat, ap (λ x. x.subtree.height) w.0))

  pub inner_is : (t : Tree) → IsChecked rule m es x t → x.subtree.height ≢ 0 → (p : ℕ) × (l : Tree) × (r : Tree) × (t ≡ join p l r) × (tree_meets (is_located es) (join p l r) ≡ true)
  inner_is (leaf p i) w tall_is = absurd (tall_is (ap (λ x. x.subtree.height) w.0))
  inner_is (join p l r) w tall_is = (p, l, r, refl, is_met rule m es up x (join p l r) w.0 w.1 some)
