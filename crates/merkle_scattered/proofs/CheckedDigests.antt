-- The digests of the nodes that a check of scattered leaves computes, step by step.
use Rattle.std.proofs.Common.{◌≡◌, ◌↔◌, ℕ, zero, suc, true, false, cond, ◌+◌, ◌<◌, List, [], ◌∷◌, ◌++◌, map, drop, get_or, length, Option, None, Some, IfSome}
use Rattle.std.proofs.Common.{refl, ap, ap₂, sym, ◌∙◌, subst, arith, append_assoc, add-one}
use Rattle.std.specs.List.{AllByRecursion}
use Rattle.std.proofs.lemmas.List.{map-append, length-append}
use Rattle.merkle_base.specs.Hashing.{Hashing}
use Rattle.merkle_base.specs.Tree.{Tree, leaf, join, position}
use Rattle.merkle_root_theory.specs.Expression.{Expression, Node, supplied, computed, value, Holds}
use Rattle.merkle_root_theory.specs.Plan.{tree_meets}
use Rattle.merkle_claim_theory.specs.MultiClaim.{also, or_empty}
use Rattle.merkle_scattered.specs.declared.checked_node.CheckedNode.{CheckedNode}
use Rattle.merkle_scattered.specs.Confirmed.{is_located, leaf_located, node_checked, nodes_checked, checked_node, children_met, all_children_met, parent_met, all_parents_met, EachHolds}
use Rattle.merkle_scattered.proofs.ScatteredElements.{given_unmet}

-- ---- lists of which pieces are taken
pub take_piece : {A : Type 0} (xs zs piece rest whole : List A) → zs ≡ xs ++ piece → xs ++ (piece ++ rest) ≡ whole → zs ++ rest ≡ whole
take_piece xs zs piece rest whole e f = ap (λ ys. ys ++ rest) e ∙ append_assoc xs piece rest ∙ f

pub one_left : {A : Type 0} (xs : List A) (n : ℕ) (a : A) (rest : List A) → drop n xs ≡ a ∷ rest → (d : A) → (get_or xs n d ≡ a) × (drop (n + 1) xs ≡ rest) × (n < length xs)
one_left [] zero a rest e d = absurd (cc)
one_left [] (suc n) a rest e d = absurd (cc)
one_left (x ∷ xs) zero a rest e d = (cc, cc, omega arith)
one_left (x ∷ xs) (suc n) a rest e d = let w = one_left xs n a rest e d in (w.0, ap (λ k. drop k (x ∷ xs)) (add-one (suc n)) ∙ ap (λ k. drop k xs) (sym (add-one n)) ∙ w.1, omega (arith, w.2))

pub two_left : {A : Type 0} (xs : List A) (n : ℕ) (a b : A) (rest : List A) → drop n xs ≡ a ∷ b ∷ rest → (d : A) → (get_or xs n d ≡ a)
    × (get_or xs (n + 1) d ≡ b) × (drop (n + 2) xs ≡ rest) × (n + 1 < length xs)
two_left xs n a b rest e d =
    let v = one_left xs n a (b ∷ rest) e d in
    let w = one_left xs (n + 1) b rest v.1 d in
    let more : n + 1 + 1 ≡ n + 2 = omega arith in
    (v.0, w.0, ap (λ k. drop k xs) (sym more) ∙ w.1, w.2)

pub piece_left : {A : Type 0} (xs : List A) (n : ℕ) (piece rest : List A) → drop n xs ≡ piece ++ rest → drop (n + length piece) xs ≡ rest
piece_left xs n [] rest e = ap (λ k. drop k xs) (omega arith) ∙ e
piece_left xs n (a ∷ piece) rest e =
    let w = one_left xs n a (piece ++ rest) e a in
    ap (λ k. drop k xs) (omega arith) ∙ piece_left xs (n + 1) piece rest w.1

-- ---- children
module _ {F D : Type 0} (es : List (ℕ × D)) where
  pub children_more : (xs ys zs whole : List (CheckedNode F)) (a b : CheckedNode F) (t l r : Tree) (rest us : List Tree) → rest ≡ t ∷ us
      → children_met es t ≡ l ∷ r ∷ [] → a ≡ checked_node es l → b ≡ checked_node es r
      → ys ≡ xs ++ a ∷ [] → zs ≡ ys ++ b ∷ [] → xs ++ map (checked_node es) (all_children_met es rest) ≡ whole → zs ++ map (checked_node es) (all_children_met es us) ≡ whole
  children_more xs ys zs whole a b t l r rest us e met a_is b_is first second all =
      take_piece xs zs (a ∷ b ∷ []) (map (checked_node es) (all_children_met es us)) whole
      (second ∙ ap (λ z. z ++ b ∷ []) first ∙ append_assoc xs (a ∷ []) (b ∷ []))
      (ap₂ (λ x y. xs ++ (x ∷ y ∷ map (checked_node es) (all_children_met es us))) a_is b_is
      ∙ sym (ap (λ z. xs ++ map (checked_node es) z) (ap (all_children_met es) e ∙ ap (λ z. z ++ all_children_met es us) met)) ∙ all)

  pub no_more_children : (xs whole : List (CheckedNode F)) (t : Tree) (rest us : List Tree) → rest ≡ t ∷ us → children_met es t ≡ [] → xs ++ map (checked_node es) (all_children_met es rest) ≡ whole
      → xs ++ map (checked_node es) (all_children_met es us) ≡ whole
  no_more_children xs whole t rest us e none all =
      sym (ap (λ z. xs ++ map (checked_node es) z) (ap (all_children_met es) e ∙ ap (λ z. z ++ all_children_met es us) none)) ∙ all

all_split : {A : Type 0} (R : A → Type 0) (xs ys : List A) → AllByRecursion R (xs ++ ys) → AllByRecursion R xs × AllByRecursion R ys
all_split R [] ys w = (tt, w)
all_split R (x ∷ xs) ys w = let u = all_split R xs ys w.1 in ((w.0, u.0), u.1)

module _ {D : Type 0} (es : List (ℕ × D)) (t : Tree) (rest us : List Tree) (e : rest ≡ t ∷ us) where
  pub two_children : (l r : Tree) → children_met es t ≡ l ∷ r ∷ [] → all_children_met es rest ≡ l ∷ r ∷ all_children_met es us
  two_children l r met = ap (all_children_met es) e ∙ ap (λ z. z ++ all_children_met es us) met

  pub no_child : children_met es t ≡ [] → all_children_met es rest ≡ all_children_met es us
  no_child none = ap (all_children_met es) e ∙ ap (λ z. z ++ all_children_met es us) none

  module _ (h : Hashing D) (a : ℕ → Option D) where
    pub parents_count : length (all_parents_met h a es rest) ≡ length (parent_met h a es t) + length (all_parents_met h a es us)
    parents_count = ap (λ ts. length (all_parents_met h a es ts)) e ∙ length-append (parent_met h a es t) (all_parents_met h a es us)

    pub parents_more : (piece : List (ℕ × D × D)) → parent_met h a es t ≡ piece → all_parents_met h a es rest ≡ piece ++ all_parents_met h a es us
    parents_more piece is = ap (all_parents_met h a es) e ∙ ap (λ z. z ++ all_parents_met h a es us) is

module _ {D : Type 0} (h : Hashing D) where
  value-also : (o : Option D) (e : Expression D) → value h (also o e) ≡ value h e
  value-also None e = refl
  value-also (Some d) e = refl

  holds_also : (o : Option D) (e : Expression D) → Holds h (also o e) ↔ (IfSome o (λ d. d ≡ value h e) × Holds h e)
  holds_also None e = (λ w. (tt, w), λ w. w.1)
  holds_also (Some d) e = (λ w. w, λ w. w)

module _ {D : Type 0} (h : Hashing D) (a : ℕ → Option D) (es : List (ℕ × D)) where
  checked_leaf : (p i : ℕ) → is_located es i ≡ true → node_checked h a es (leaf p i) ≡ also (a p) (supplied (leaf_located h es i))
  checked_leaf p i e = ap (λ z. cond z (also (a p) (supplied (leaf_located h es i))) (supplied (or_empty h (a p)))) e

  checked_join : (p : ℕ) (l r : Tree) → tree_meets (is_located es) (join p l r) ≡ true
      → node_checked h a es (join p l r) ≡ also (a p) (computed (Node p) (node_checked h a es l) (node_checked h a es r))
  checked_join p l r e = ap (λ z. cond z (also (a p) (computed (Node p) (node_checked h a es l) (node_checked h a es r))) (supplied (or_empty h (a p)))) e

  children_of_met : (p : ℕ) (l r : Tree) → tree_meets (is_located es) (join p l r) ≡ true → children_met es (join p l r) ≡ l ∷ r ∷ []
  children_of_met p l r e = ap (λ z. cond z (l ∷ r ∷ []) []) e

  pub parent_of_met : (p : ℕ) (l r : Tree) → tree_meets (is_located es) (join p l r) ≡ true
      → parent_met h a es (join p l r) ≡ (p, value h (node_checked h a es l), value h (node_checked h a es r)) ∷ []
  parent_of_met p l r e = ap (λ z. cond z ((p, value h (node_checked h a es l), value h (node_checked h a es r)) ∷ []) []) e

  pub value_of_leaf : (p i : ℕ) → is_located es i ≡ true → value h (node_checked h a es (leaf p i)) ≡ leaf_located h es i
  value_of_leaf p i e = ap (value h) (checked_leaf p i e) ∙ value-also h (a p) (supplied (leaf_located h es i))

  pub value_of_parent : (p : ℕ) (l r : Tree) → tree_meets (is_located es) (join p l r) ≡ true
      → value h (node_checked h a es (join p l r)) ≡ h.node p (value h (node_checked h a es l)) (value h (node_checked h a es r))
  value_of_parent p l r e = ap (value h) (checked_join p l r e) ∙ value-also h (a p) (computed (Node p) (node_checked h a es l) (node_checked h a es r))

  -- what is supplied for a node above elements is confirmed where it is for its children and its own digest is the computed one
  pub met_holds : (t : Tree) → tree_meets (is_located es) t ≡ true
      → Holds h (node_checked h a es t) ↔ (IfSome (a (position t)) (λ d. d ≡ value h (node_checked h a es t)) × EachHolds h a es (children_met es t))
  met_holds (leaf p i) e =
      let own = holds_also h (a p) (supplied (leaf_located h es i)) in
      subst (λ z. Holds h z ↔ (IfSome (a p) (λ d. d ≡ value h z) × Unit {0})) (sym (checked_leaf p i e))
      (subst (λ v. Holds h (also (a p) (supplied (leaf_located h es i))) ↔ (IfSome (a p) (λ d. d ≡ v) × Unit {0})) (sym (value-also h (a p) (supplied (leaf_located h es i)))) own)
  met_holds (join p l r) e =
      let c = computed (Node p) (node_checked h a es l) (node_checked h a es r) in
      let own = holds_also h (a p) c in
      let both : Holds h (also (a p) c) ↔ (IfSome (a p) (λ d. d ≡ value h c) × EachHolds h a es (l ∷ r ∷ [])) =
      (λ w. let u = own.0 w in (u.0, (u.1.0, (u.1.1, tt))), λ w. own.1 (w.0, (w.1.0, w.1.1.0))) in
      subst (λ ts. Holds h (node_checked h a es (join p l r)) ↔ (IfSome (a p) (λ d. d ≡ value h (node_checked h a es (join p l r))) × EachHolds h a es ts)) (sym (children_of_met p l r e))
      (subst (λ z. Holds h z ↔ (IfSome (a p) (λ d. d ≡ value h z) × EachHolds h a es (l ∷ r ∷ []))) (sym (checked_join p l r e))
      (subst (λ v. Holds h (also (a p) c) ↔ (IfSome (a p) (λ d. d ≡ v) × EachHolds h a es (l ∷ r ∷ []))) (sym (value-also h (a p) c)) both))

  -- what is left of some nodes, with the digests of parents and those so far
  pub record IsLeft (ts rest : List Tree) (left old digests : List D) : Type 0 where
    pub computed_are : left ≡ map (λ n. h.node n.0 n.1 n.2) (all_parents_met h a es rest)
    pub digests_are : digests ++ nodes_checked h a es rest ≡ old ++ nodes_checked h a es ts
    pub hold : EachHolds h a es ts → EachHolds h a es rest
    pub below : EachHolds h a es (all_children_met es ts) → EachHolds h a es (all_children_met es rest) × (EachHolds h a es rest → EachHolds h a es ts)

  pub left_all : (ts : List Tree) (left old : List D) → left ≡ map (λ n. h.node n.0 n.1 n.2) (all_parents_met h a es ts) → IsLeft ts ts left old old
  left_all ts left old e = record { computed_are = e; digests_are = refl; hold = λ w. w; below = λ w. (w, λ u. u) }

  -- the digests of the parents that are left, after those of the next node
  pub left_parents : (ts us : List Tree) (t : Tree) (left old digests : List D) → IsLeft ts (t ∷ us) left old digests
      → left ≡ map (λ n. h.node n.0 n.1 n.2) (parent_met h a es t) ++ map (λ n. h.node n.0 n.1 n.2) (all_parents_met h a es us)
  left_parents ts us t left old digests w = w.computed_are ∙ map-append (λ n. h.node n.0 n.1 n.2) (parent_met h a es t) (all_parents_met h a es us)

  -- of the next node the digest is known
  left_next : (ts us : List Tree) (t : Tree) (left more old digests new : List D) → IsLeft ts (t ∷ us) left old digests
      → more ≡ map (λ n. h.node n.0 n.1 n.2) (all_parents_met h a es us)
      → new ≡ digests ++ value h (node_checked h a es t) ∷ []
      → (EachHolds h a es (children_met es t) → Holds h (node_checked h a es t))
      → IsLeft ts us more old new
  left_next ts us t left more old digests new w e f g = record {
    computed_are = e;
    digests_are = take_piece digests new (value h (node_checked h a es t) ∷ []) (nodes_checked h a es us) (old ++ nodes_checked h a es ts) f w.digests_are;
    hold = λ x. (w.hold x).1;
    below = λ x.
        let y = w.below x in
        let z = all_split (λ t. Holds h (node_checked h a es t)) (children_met es t) (all_children_met es us) y.0 in
        (z.1, λ u. y.1 (g z.0, u));
  }

  pub no_parent_unmet : (t : Tree) → tree_meets (is_located es) t ≡ false → parent_met h a es t ≡ []
  no_parent_unmet (leaf p i) e = refl
  no_parent_unmet (join p l r) e = ap (λ z. cond z ((p, value h (node_checked h a es l), value h (node_checked h a es r)) ∷ []) []) e

  -- the next node has no elements below it
  pub left_unmet : (ts us : List Tree) (t : Tree) (left old digests new : List D) → IsLeft ts (t ∷ us) left old digests → tree_meets (is_located es) t ≡ false
      → (d : D) → d ≡ or_empty h (a (position t)) → new ≡ digests ++ d ∷ [] → IsLeft ts us left old new
  left_unmet ts us t left old digests new w unmet d d_is pushed =
      let given : node_checked h a es t ≡ supplied (or_empty h (a (position t))) = given_unmet h a (is_located es) (leaf_located h es) t unmet in
      left_next ts us t left left old digests new w
      (left_parents ts us t left old digests w ∙ ap (λ ps. map (λ n. h.node n.0 n.1 n.2) ps ++ map (λ n. h.node n.0 n.1 n.2) (all_parents_met h a es us)) (no_parent_unmet t unmet))
      (pushed ∙ ap (λ x. digests ++ x ∷ []) (d_is ∙ sym (ap (value h) given)))
      (λ _. subst (Holds h) (sym given) tt)

  -- it has some, and the digest that is supplied for it, if any, is the computed one
  pub left_met : (ts us : List Tree) (t : Tree) (left more old digests new : List D) → IsLeft ts (t ∷ us) left old digests → tree_meets (is_located es) t ≡ true
      → more ≡ map (λ n. h.node n.0 n.1 n.2) (all_parents_met h a es us)
      → (d : D) → d ≡ value h (node_checked h a es t) → IfSome (a (position t)) (λ x. x ≡ d) → new ≡ digests ++ d ∷ [] → IsLeft ts us more old new
  left_met ts us t left more old digests new w met e d d_is agrees pushed =
      left_next ts us t left more old digests new w e (pushed ∙ ap (λ x. digests ++ x ∷ []) d_is)
      (λ z. (met_holds t met).1 (subst (λ v. IfSome (a (position t)) (λ x. x ≡ v)) d_is agrees, z))

  -- where each supplied digest is the computed one, so is that of the next node
  pub left_agrees : (ts us : List Tree) (t : Tree) (left old digests : List D) → IsLeft ts (t ∷ us) left old digests → tree_meets (is_located es) t ≡ true
      → (d : D) → d ≡ value h (node_checked h a es t) → EachHolds h a es ts → IfSome (a (position t)) (λ x. x ≡ d)
  left_agrees ts us t left old digests w met d d_is all =
      subst (λ v. IfSome (a (position t)) (λ x. x ≡ v)) (sym d_is) ((met_holds t met).0 (w.hold all).0).0

-- one more parent, with the digests of its children that are next
module _ {D : Type 0} (h : Hashing D) (a : ℕ → Option D) (es : List (ℕ × D)) (t l r : Tree) (p : ℕ) (is : t ≡ join p l r) (met : tree_meets (is_located es) (join p l r) ≡ true) where
  abbrev pub parent_piece : List (ℕ × D × D)
  parent_piece = (p, value h (node_checked h a es l), value h (node_checked h a es r)) ∷ []

  pub parent_met_is : parent_met h a es t ≡ parent_piece
  parent_met_is = ap (parent_met h a es) is ∙ parent_of_met h a es p l r met

  pub parent_more : (q : ℕ) (x y : D) → q ≡ p → x ≡ value h (node_checked h a es l) → y ≡ value h (node_checked h a es r) → (rest us : List Tree) → rest ≡ t ∷ us
      → (xs zs whole : List (ℕ × D × D)) → zs ≡ xs ++ (q, x, y) ∷ [] → xs ++ all_parents_met h a es rest ≡ whole → zs ++ all_parents_met h a es us ≡ whole
  parent_more q x y q_is x_is y_is rest us e xs zs whole pushed all =
      take_piece xs zs parent_piece (all_parents_met h a es us) whole
      (pushed ∙ ap (λ (n : ℕ). xs ++ (n, x, y) ∷ []) q_is ∙ ap₂ (λ v w. xs ++ (p, v, w) ∷ []) x_is y_is)
      (sym (ap (λ z. xs ++ z) (parents_more es t rest us e h a parent_piece parent_met_is)) ∙ all)
