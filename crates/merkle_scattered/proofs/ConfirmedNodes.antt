-- Children of nodes that a check of scattered leaves computes: their heights, and what holds of them.
use Rattle.std.proofs.Common.{◌≡◌, ◌≢◌, ℕ, cond, ◌<◌, ◌≤◌, nat_lt, List, [], ◌∷◌, ◌++◌, map, length, Option, inl, inr, refl, ap, sym, ◌∙◌, subst, arith}
use Rattle.std.specs.List.{AllByRecursion}
use Rattle.std.proofs.lemmas.Bool.{lt-ltb, le-ltb, cases_lt, cases_Bool}
use Rattle.std.proofs.lemmas.List.{length-map}
use Rattle.merkle_base.specs.Hashing.{Hashing}
use Rattle.merkle_base.specs.Heights.{IsLawful}
use Rattle.merkle_base.specs.Tree.{Tree, leaf, join, height}
use Rattle.merkle_base.proofs.Nodes.{all_append}
use Rattle.merkle_hasher.specs.Subtrees.{AreNodes}
use Rattle.merkle_hasher.proofs.Spans.{heights_same}
use Rattle.merkle_base.proofs.Cases.{by_test}
use Rattle.merkle_root_theory.specs.Expression.{value, Holds}
use Rattle.merkle_root_theory.specs.Plan.{tree_meets}
use Rattle.merkle_scattered.specs.declared.checked_node.CheckedNode.{CheckedNode}
use Rattle.merkle_scattered.specs.Confirmed.{is_located, node_checked, checked_node, AreChecked, children_met, all_children_met, all_parents_met, EachHolds, tallest}
use Rattle.merkle_scattered.proofs.CheckedNodes.{left_node, right_node}
use Rattle.merkle_scattered.proofs.CheckedDigests.{met_holds}

-- where no child is listed there is none
pub no_children_left : {F D : Type 0} (es : List (ℕ × D)) (ts : List Tree) (xs : List (CheckedNode F))
    → xs ≡ map (checked_node es) (all_children_met es ts) → length xs ≡ 0 → all_children_met es ts ≡ []
no_children_left {F = F} es ts xs e none = of_empty (all_children_met es ts) (sym (ap length e) ∙ none)
  where
    of_empty : (us : List Tree) → length (map (checked_node {F = F} es) us) ≡ 0 → us ≡ []
    of_empty [] l = refl
    of_empty (u ∷ us) l = absurd (omega (arith, l))

module _ {D : Type 0} (es : List (ℕ × D)) where
  pub no_parents : (h : Hashing D) (a : ℕ → Option D) (ts : List Tree) → all_children_met es ts ≡ [] → all_parents_met h a es ts ≡ []
  no_parents h a [] e = refl
  no_parents h a (leaf p i ∷ ts) e = no_parents h a ts e
  no_parents h a (join p l r ∷ ts) e = by_test (λ b. tree_meets (is_located es) (join p l r) ≡ b → all_parents_met h a es (join p l r ∷ ts) ≡ []) (tree_meets (is_located es) (join p l r))
      (λ _ m. absurd (cc (sym (ap (λ z. cond z (l ∷ r ∷ []) [] ++ all_children_met es ts) m) ∙ e)))
      (λ _ m. ap (λ z. cond z ((p, value h (node_checked h a es l), value h (node_checked h a es r)) ∷ []) [] ++ all_parents_met h a es ts) m
      ∙ no_parents h a ts (sym (ap (λ z. cond z (l ∷ r ∷ []) [] ++ all_children_met es ts) m) ∙ e))
      refl

  -- what holds of nodes holds of their children
  pub holds_children : (h : Hashing D) (a : ℕ → Option D) (ts : List Tree) → EachHolds h a es ts → EachHolds h a es (all_children_met es ts)
  holds_children h a [] w = tt
  holds_children h a (leaf p i ∷ ts) w = holds_children h a ts w.1
  holds_children h a (join p l r ∷ ts) w = elim (cases_Bool (tree_meets (is_located es) (join p l r))) [
    | inl m ↦ all_append (λ t. Holds h (node_checked h a es t)) (children_met es (join p l r)) (all_children_met es ts) ((met_holds h a es (join p l r) m).0 w.0).1 (holds_children h a ts w.1)
    | inr m ↦ subst (λ z. EachHolds h a es (cond z (l ∷ r ∷ []) [] ++ all_children_met es ts)) (sym m) (holds_children h a ts w.1)
  ]

  module _ (rule : List ℕ → List ℕ) (m : ℕ) where
    pub children_nodes : (ts : List Tree) → AreNodes rule m ts → AreNodes rule m (all_children_met es ts)
    children_nodes [] w = tt
    children_nodes (leaf p i ∷ ts) w = children_nodes ts w.1
    children_nodes (join p l r ∷ ts) w = elim (cases_Bool (tree_meets (is_located es) (join p l r))) [
      | inl b ↦ subst (λ z. AreNodes rule m (cond z (l ∷ r ∷ []) [] ++ all_children_met es ts)) (sym b)
          ((left_node rule m p l r (w.0, tt)).0, ((right_node rule m p l r (w.0, tt)).0, children_nodes ts w.1))
      | inr b ↦ subst (λ z. AreNodes rule m (cond z (l ∷ r ∷ []) [] ++ all_children_met es ts)) (sym b) (children_nodes ts w.1)
    ]

    -- a child is lower than the tallest of the nodes
    module _ (limit : ℕ) (law : IsLawful rule m limit) where
      children_lower : (b : ℕ) (ts : List Tree) → AreNodes rule m ts → AllByRecursion (λ t. height t ≤ b) ts → AllByRecursion (λ t. height t < b) (all_children_met es ts)
      children_lower b [] w u = tt
      children_lower b (leaf p i ∷ ts) w u = children_lower b ts w.1 u.1
      children_lower b (join p l r ∷ ts) w u = elim (cases_Bool (tree_meets (is_located es) (join p l r))) [
        | inl met ↦ (let same = heights_same rule m limit law p (height (join p l r)) _ p l r (record { at = w.0; height_is = refl; first_is = refl }) in
            subst (λ z. AllByRecursion (λ t. height t < b) (cond z (l ∷ r ∷ []) [] ++ all_children_met es ts)) (sym met)
            (omega (arith, u.0), (omega (arith, u.0, same), children_lower b ts w.1 u.1)))
        | inr met ↦ subst (λ z. AllByRecursion (λ t. height t < b) (cond z (l ∷ r ∷ []) [] ++ all_children_met es ts)) (sym met) (children_lower b ts w.1 u.1)
      ]

      some_lower : (b : ℕ) (ts : List Tree) → length ts ≢ 0 → AllByRecursion (λ t. height t < b) ts → 0 < b
      some_lower b [] none w = absurd (none refl)
      some_lower b (t ∷ ts) none w = omega (arith, w.0)

      module _ (F : Type 0) where
        heights_within : (b : ℕ) (ts : List Tree) → tallest (map (checked_node {F = F} es) ts) ≤ b → AllByRecursion (λ t. height t ≤ b) ts
        heights_within b [] l = tt
        heights_within b (t ∷ ts) l =
            let rest = tallest (map (checked_node {F = F} es) ts) in
            elim (cases_lt (height t) rest) [
              | inl x ↦ (let e : cond (nat_lt (height t) rest) rest (height t) ≡ rest = ap (λ z. cond z rest (height t)) (lt-ltb (height t) rest x) in
                  (omega (arith, l, e, x), heights_within b ts (omega (arith, l, e))))
              | inr x ↦ (let e : cond (nat_lt (height t) rest) rest (height t) ≡ height t = ap (λ z. cond z rest (height t)) (le-ltb (height t) rest x) in
                  (omega (arith, l, e), heights_within b ts (omega (arith, l, e, x))))
            ]

        tallest_below : (b : ℕ) (ts : List Tree) → 0 < b → AllByRecursion (λ t. height t < b) ts → tallest (map (checked_node {F = F} es) ts) < b
        tallest_below b [] l w = l
        tallest_below b (t ∷ ts) l w =
            let rest = tallest (map (checked_node {F = F} es) ts) in
            elim (cases_lt (height t) rest) [
              | inl x ↦ omega (arith, ap (λ z. cond z rest (height t)) (lt-ltb (height t) rest x), tallest_below b ts l w.1)
              | inr x ↦ omega (arith, ap (λ z. cond z rest (height t)) (le-ltb (height t) rest x), w.0)
            ]

      pub children_are_lower : {F : Type 0} (ns cs : List (CheckedNode F)) (ts : List Tree) → AreChecked rule m es ns ts
          → cs ≡ map (checked_node es) (all_children_met es ts) → length cs ≢ 0 → tallest cs < tallest ns
      children_are_lower {F = F} ns cs ts w e some =
          let b = tallest ns in
          let low : AllByRecursion (λ t. height t < b) (all_children_met es ts) = children_lower b ts w.1 (heights_within F b ts (omega (arith, ap tallest w.0))) in
          let many : length (all_children_met es ts) ≢ 0 = λ z. some (ap length e ∙ length-map (all_children_met es ts) (checked_node {F = F} es) ∙ z) in
          omega (arith, ap tallest e, tallest_below F b (all_children_met es ts) (some_lower b (all_children_met es ts) many low) low)
