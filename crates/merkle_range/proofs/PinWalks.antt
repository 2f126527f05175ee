-- The walks of the pinned check.
use Rattle.std.proofs.Common.{◌≡◌, ◌≢◌, ℕ, suc, ◌+◌, ◌<◌, ◌≤◌, Bool, true, false, cond, ◌||◌, List, [], ◌∷◌, ◌++◌, length, map, take, drop, Option, Some, None}
use Rattle.std.proofs.Common.{IsTrue, ◌↔◌, refl, ap, ap₂, sym, ◌∙◌, subst, arith, inl, inr, length-append, take-append-drop}
use Rattle.std.proofs.lemmas.Bool.{false≢true, or_parts}
use Rattle.std.proofs.lemmas.List.{length-take-le}
use Rattle.merkle_base.proofs.Cases.{by_test}
use Rattle.merkle_base.proofs.Growth.{forest_grown}
use Rattle.merkle_base.proofs.Lists.{cons_head, cons_tail}
use Rattle.merkle_base.proofs.Nodes.{node_built, width_pos}
use Rattle.merkle_base.specs.Hashing.{Hashing}
use Rattle.merkle_base.specs.Tree.{Tree, leaf, join, end_leaf}
use Rattle.merkle_hasher.specs.Subtrees.{IsNodeOf, Denotes, AreNodes, subtree_of}
use Rattle.merkle_hasher.specs.declared.subtree.Subtree.{Subtree}
use Rattle.merkle_root_theory.specs.Claim.{next}
use Rattle.merkle_root_theory.specs.Expression.{Node, PrefixFold, computed, value}
use Rattle.merkle_root_theory.specs.Outside.{fold_all}
use Rattle.merkle_root_theory.specs.Plan.{Plan, peak, folding, left_fold_plan, tree_meets, siblings}
use Rattle.merkle_root_theory.specs.Check.{in_range}
use Rattle.merkle_root_theory.proofs.PeakGroups.{meets_not, meets_yes}
use Rattle.merkle_root_theory.proofs.Walks.{siblings_unmet, siblings_join}
use Rattle.merkle_claim_theory.specs.MultiClaim.{or_empty}
use Rattle.merkle_claim_theory.specs.PinnedClaim.{pinned_or, pin_tree}
use Rattle.merkle_claim_theory.specs.Rebuilt.{AllRebuilt, rebuilt_node, rebuilt_part}
use Rattle.merkle_claim_theory.proofs.RebuiltPins.{rebuilt_append, rebuilt_split}

-- ---- a node rebuilt
module _ (rule : List ℕ → List ℕ) (m p s : ℕ) (tall : ℕ) where
  module _ {D : Type 0} (h : Hashing D) (b : ℕ → Option D) where
    pub pinned_node : (t : Tree) → IsNodeOf rule m p tall s t → (d : D) → b p ≡ Some d → d ≡ rebuilt_node h b t
    pinned_node (leaf q i) w d e = let z : q ≡ p = (forest_grown rule m).placed p (leaf q i) w.at in sym (ap (or_empty h) (ap b z ∙ e))
    pinned_node (join q l r) w d e = let z : q ≡ p = (forest_grown rule m).placed p (join q l r) w.at in
        sym (ap (λ o. value h (pinned_or o (computed (Node q) (pin_tree h b l) (pin_tree h b r)))) (ap b z ∙ e))

    pub unpinned_leaf : (t : Tree) → IsNodeOf rule m p tall s t → tall ≡ 0 → b p ≡ None → (d : D) → d ≡ h.empty → d ≡ rebuilt_node h b t
    unpinned_leaf (leaf q i) w z e d f = let y : q ≡ p = (forest_grown rule m).placed p (leaf q i) w.at in f ∙ sym (ap (or_empty h) (ap b y ∙ e))
    unpinned_leaf (join q l r) w z e d f = absurd (omega (arith, w.height_is, z))

    pub unpinned_inner : (t : Tree) → IsNodeOf rule m p tall s t → tall ≢ 0 → b p ≡ None → (x y d : D)
        → ((q : ℕ) (l r : Tree) → IsNodeOf rule m p tall s (join q l r) → (x ≡ rebuilt_node h b l) × (y ≡ rebuilt_node h b r)) → d ≡ h.node p x y → d ≡ rebuilt_node h b t
    unpinned_inner (leaf q i) w k e x y d f is = absurd (k (omega (arith, w.height_is)))
    unpinned_inner (join q l r) w k e x y d f is =
        let z : q ≡ p = (forest_grown rule m).placed p (join q l r) w.at in
        let u = f q l r w in
        is ∙ ap₂ (h.node p) u.0 u.1 ∙ ap (λ n. h.node n (rebuilt_node h b l) (rebuilt_node h b r)) (sym z)
        ∙ sym (ap (λ o. value h (pinned_or o (computed (Node q) (pin_tree h b l) (pin_tree h b r)))) (ap b z ∙ e))

-- ---- peaks folded
module _ {D : Type 0} (h : Hashing D) (b : ℕ → Option D) where
  pub fold_push : (acc : Plan) (i : ℕ) (ts : List Tree) (u : Tree) → rebuilt_part h b (left_fold_plan acc i (ts ++ u ∷ [])) ≡ h.fold (rebuilt_part h b (left_fold_plan acc i ts)) (rebuilt_node h b u)
  fold_push acc i [] u = refl
  fold_push acc i (t ∷ ts) u = fold_push (folding (PrefixFold i) acc (peak t)) (suc i) ts u

  pub fold_more : (acc : Plan) (i : ℕ) (us vs : List Tree) (u : Tree) (x y z : D) → us ≡ vs ++ u ∷ [] → x ≡ rebuilt_part h b (left_fold_plan acc i vs)
      → y ≡ rebuilt_node h b u → z ≡ h.fold x y → z ≡ rebuilt_part h b (left_fold_plan acc i us)
  fold_more acc i us vs u x y z e f g k = k ∙ ap₂ h.fold f g ∙ sym (fold_push acc i vs u) ∙ ap (λ w. rebuilt_part h b (left_fold_plan acc i w)) (sym e)

  pub fold_decided : (t : Tree) (us ts : List Tree) (ds rest : List D) (d x : D) (bit : Bool) → ts ≡ t ∷ us → ds ≡ d ∷ rest
      → x ≡ rebuilt_part h b (left_fold_plan (peak t) 1 us) → (IsTrue bit ↔ (x ≡ d))
      → IsTrue bit ↔ AllRebuilt h (λ _. true) (rebuilt_part h b) (fold_all ts) ds
  fold_decided t us ts ds rest d x bit e f g k =
      subst (λ z. IsTrue bit ↔ AllRebuilt h (λ _. true) (rebuilt_part h b) (fold_all z) ds) (sym e)
      ((λ y. ((λ _. ap (next h) f ∙ sym (k.0 y) ∙ g), tt)), (λ y. k.1 (g ∙ sym (y.0 refl) ∙ ap (next h) f)))

  pub fold_none : (ts : List Tree) (ds : List D) (bit : Bool) → IsTrue bit → ts ≡ [] → IsTrue bit ↔ AllRebuilt h (λ _. true) (rebuilt_part h b) (fold_all ts) ds
  fold_none ts ds bit y e = subst (λ z. IsTrue bit ↔ AllRebuilt h (λ _. true) (rebuilt_part h b) (fold_all z) ds) (sym e) ((λ _. tt), (λ _. y))

-- ---- subtrees of nodes
pub no_nodes : {F : Type 0} (xs : List (Subtree F)) (ts : List Tree) → xs ≡ map subtree_of ts → xs ≡ [] → ts ≡ []
no_nodes {F} xs [] e f = refl
no_nodes {F} xs (t ∷ ts) e f = absurd (nothing (sym e ∙ f))
  where
    nothing : {F : Type 0} {x : Subtree F} {ys : List (Subtree F)} → x ∷ ys ≡ [] → ⊥
    nothing q = cc

pub first_node : {F : Type 0} (rule : List ℕ → List ℕ) (m : ℕ) (xs ys : List (Subtree F)) (x : Subtree F) (ts : List Tree) → xs ≡ map subtree_of ts → AreNodes rule m ts → xs ≡ x ∷ ys
    → (t : Tree) × (us : List Tree) × (ts ≡ t ∷ us) × Denotes rule m x t × (ys ≡ map subtree_of us) × AreNodes rule m us
first_node {F} rule m xs ys x [] e n f = absurd (nothing (sym f ∙ e))
  where
    nothing : {F : Type 0} {x : Subtree F} {ys : List (Subtree F)} → x ∷ ys ≡ [] → ⊥
    nothing q = cc
first_node {F} rule m xs ys x (t ∷ us) e n f =
    let both = sym f ∙ e in (
      t,
      us,
      refl,
      subst (λ z. Denotes rule m z t) (sym (cons_head x (subtree_of t) ys (map subtree_of us) both))
          (record { at = n.0; height_is = refl; first_is = refl }),
      cons_tail x (subtree_of t) ys (map subtree_of us) both,
      n.1,
    )

-- ---- peaks one by one
module _ {D : Type 0} (h : Hashing D) (f : Tree → D) where
  abbrev Each : List Tree → List D → Type 0
  Each ts ds = AllRebuilt h (λ _. true) f ts ds

  pub each_more : (i : ℕ) (ts : List Tree) (u : Tree) (ds rest others : List D) (d x : D) → take (i + 1) ts ≡ take i ts ++ u ∷ [] → i < length ts
      → rest ≡ drop i ds → rest ≡ d ∷ others → x ≡ f u → x ≡ d → Each (take i ts) ds → Each (take (i + 1) ts) ds
  each_more i ts u ds rest others d x e l r k g same v =
      let n : length (take i ts) ≡ i = length-take-le i ts (omega (arith, l)) in
      let at : next h (drop (length (take i ts)) ds) ≡ f u = ap (λ j. next h (drop j ds)) n ∙ ap (next h) (sym r ∙ k) ∙ sym same ∙ g in
      subst (λ z. Each z ds) (sym e) (rebuilt_append h (λ _. true) f (take i ts) (u ∷ []) ds v ((λ _. at), tt))

  pub each_other : (i : ℕ) (ts : List Tree) (u : Tree) (ds rest others : List D) (d x : D) → take (i + 1) ts ≡ take i ts ++ u ∷ [] → i < length ts
      → rest ≡ drop i ds → rest ≡ d ∷ others → x ≡ f u → Each ts ds → x ≡ d
  each_other i ts u ds rest others d x e l r k g v =
      let n : length (take i ts) ≡ i = length-take-le i ts (omega (arith, l)) in
      let front = (rebuilt_split h (λ _. true) f (take (i + 1) ts) (drop (i + 1) ts) ds (subst (λ z. Each z ds) (sym (take-append-drop (i + 1) ts)) v)).0 in
      let one = (rebuilt_split h (λ _. true) f (take i ts) (u ∷ []) ds (subst (λ z. Each z ds) e front)).1 in
      g ∙ sym (one.0 refl) ∙ ap (λ j. next h (drop j ds)) n ∙ ap (next h) (sym r ∙ k)

-- ---- the siblings before the start
module _ {D : Type 0} (h : Hashing D) (f : Tree → D) (w c : ℕ → Bool) where
  pub unmet_rebuilt : (t : Tree) (ds : List D) → tree_meets w t ≡ false → AllRebuilt h (tree_meets w) f (siblings c t) ds
  unmet_rebuilt (leaf p i) ds e = by_test (λ z. AllRebuilt h (tree_meets w) f (cond z [] (leaf p i ∷ [])) ds) (c i) (λ _. tt) (λ _. ((λ q. absurd (false≢true (sym e ∙ q))), tt))
  unmet_rebuilt (join p l r) ds e =
      let v = or_parts (tree_meets w l) (tree_meets w r) e in
      let x = unmet_rebuilt l ds v.0 in let y = unmet_rebuilt r (drop (length (siblings c l)) ds) v.1 in
      by_test (λ z. AllRebuilt h (tree_meets w) f (cond z (siblings c l ++ siblings c r) (join p l r ∷ [])) ds) (tree_meets c l || tree_meets c r)
      (λ _. rebuilt_append h (tree_meets w) f (siblings c l) (siblings c r) ds x y) (λ _. ((λ q. absurd (false≢true (sym e ∙ q))), tt))

-- a node with a leaf before the start and one after it has children
pub crossed_node : (rule : List ℕ → List ℕ) (m p s tall a : ℕ) (t : Tree) → IsNodeOf rule m p tall s t → s < a → a < end_leaf t → tall ≢ 0
crossed_node rule m p s tall a (leaf q i) w x y e = omega (arith, w.first_is, x, y)
crossed_node rule m p s tall a (join q l r) w x y e = omega (arith, w.height_is, e)

-- a node is the one that stands at its place
pub past_start : (rule : List ℕ → List ℕ) (m p s tall a : ℕ) (t u : Tree) → IsNodeOf rule m p tall s t → a < end_leaf t → IsNodeOf rule m p tall s u → a < end_leaf u
past_start rule m p s tall a t u v l w = subst (λ z. a < end_leaf z) (same (sym v.at ∙ w.at)) l
  where
    same : {t u : Tree} → Some t ≡ Some u → t ≡ u
    same e = cc

-- what holds of a node that crosses the start holds if it holds of a merged one
pub by_children : (rule : List ℕ → List ℕ) (m p s tall a : ℕ) (P : Tree → Type 0) (t : Tree) → IsNodeOf rule m p tall s t → s < a → a < end_leaf t
    → ((q : ℕ) (l r : Tree) → IsNodeOf rule m p tall s (join q l r) → a < end_leaf (join q l r) → P (join q l r)) → P t
by_children rule m p s tall a P (leaf q i) w x y f = absurd (omega (arith, w.first_is, x, y))
by_children rule m p s tall a P (join q l r) w x y f = f q l r w y

-- its right child ends after the start too
pub right_past : (rule : List ℕ → List ℕ) (m p s tall a q : ℕ) (l r : Tree) → IsNodeOf rule m p tall s (join q l r) → a < end_leaf (join q l r) → a < end_leaf r
right_past rule m p s tall a q l r w y = let n = node_built rule m p (join q l r) w.at in omega (arith, n.3, y)

module _ (rule : List ℕ → List ℕ) (m p s tall a e : ℕ) (less : a < e) where
  module _ {D : Type 0} (h : Hashing D) (f : Tree → D) where
    abbrev Before : Tree → List D → Type 0
    Before t ds = AllRebuilt h (tree_meets (in_range 0 a)) f (siblings (in_range a e) t) ds

    pub before_none : (t : Tree) → IsNodeOf rule m p tall s t → a ≤ s → (ds : List D) → Before t ds
    before_none t w l ds = unmet_rebuilt h f (in_range 0 a) (in_range a e) t ds (meets_not 0 a _ t (node_built rule m p t w.at) (inr (omega (arith, w.first_is, l))))

    -- the siblings of a node that crosses the start, where its left child does too, and where it doesn't
    pub crossed_left : (q : ℕ) (l r : Tree) → IsNodeOf rule m p tall s (join q l r) → s < a → a < end_leaf l
        → siblings (in_range a e) (join q l r) ≡ siblings (in_range a e) l ++ siblings (in_range a e) r
    crossed_left q l r w x y = let n = node_built rule m p (join q l r) w.at in
        siblings_join (in_range a e) q l r (meets_yes a e _ (join q l r) n (omega (arith, w.first_is, x, less)) (omega (arith, n.3, y, width_pos r)) less)

    pub before_left : (q : ℕ) (l r : Tree) → IsNodeOf rule m p tall s (join q l r) → s < a → a < end_leaf l → (ds : List D) (bit : Bool)
        → (length (siblings (in_range a e) l) ≤ length ds → IsTrue bit ↔ Before l ds) → length (siblings (in_range a e) (join q l r)) ≤ length ds → IsTrue bit ↔ Before (join q l r) ds
    before_left q l r w x y ds bit k long =
        let n = node_built rule m p (join q l r) w.at in
        let c = in_range a e in
        let cut = crossed_left q l r w x y in
        let z = k (omega (arith, long, ap length cut, length-append (siblings c l) (siblings c r))) in
        let later = unmet_rebuilt h f (in_range 0 a) c r (drop (length (siblings c l)) ds) (meets_not 0 a _ r n.5 (inr (omega (arith, n.3, y)))) in
        subst (λ us. IsTrue bit ↔ AllRebuilt h (tree_meets (in_range 0 a)) f us ds) (sym cut) (
          (λ v. rebuilt_append h (tree_meets (in_range 0 a)) f (siblings c l) (siblings c r) ds (z.0 v) later),
          (λ v. z.1 (rebuilt_split h (tree_meets (in_range 0 a)) f (siblings c l) (siblings c r) ds v).0),
        )

    pub crossed_right : (q : ℕ) (l r : Tree) → IsNodeOf rule m p tall s (join q l r) → s < a → end_leaf l ≤ a → a < end_leaf (join q l r)
        → siblings (in_range a e) (join q l r) ≡ l ∷ siblings (in_range a e) r
    crossed_right q l r w x y z = let n = node_built rule m p (join q l r) w.at in
        siblings_join (in_range a e) q l r (meets_yes a e _ (join q l r) n (omega (arith, w.first_is, x, less)) z less)
        ∙ ap (λ us. us ++ siblings (in_range a e) r) (siblings_unmet (in_range a e) l (meets_not a e _ l n.4 (inl y)))

    first_met : (q : ℕ) (l r : Tree) → IsNodeOf rule m p tall s (join q l r) → s < a → tree_meets (in_range 0 a) l ≡ true
    first_met q l r w x = let n = node_built rule m p (join q l r) w.at in meets_yes 0 a _ l n.4 (omega (arith, w.first_is, x)) (omega (arith, width_pos l)) (omega (arith, x))

    pub before_right : (q : ℕ) (l r : Tree) → IsNodeOf rule m p tall s (join q l r) → s < a → end_leaf l ≤ a → a < end_leaf (join q l r)
        → (ds rest : List D) (d x : D) (bit : Bool) → ds ≡ d ∷ rest → x ≡ f l → x ≡ d
        → (length (siblings (in_range a e) r) ≤ length rest → IsTrue bit ↔ Before r rest) → length (siblings (in_range a e) (join q l r)) ≤ length ds → IsTrue bit ↔ Before (join q l r) ds
    before_right q l r w x y z ds rest d v bit g i j k long =
        let cut = crossed_right q l r w x y z in
        let u = k (omega (arith, long, ap length cut, ap length g)) in
        let back : drop 1 ds ≡ rest = ap (drop 1) g in
        let at : next h ds ≡ f l = ap (next h) g ∙ sym j ∙ i in
        subst (λ us. IsTrue bit ↔ AllRebuilt h (tree_meets (in_range 0 a)) f us ds) (sym cut)
        ((λ o. ((λ _. at), subst (Before r) (sym back) (u.0 o))), (λ o. u.1 (subst (Before r) back o.1)))

    pub before_other : (q : ℕ) (l r : Tree) → IsNodeOf rule m p tall s (join q l r) → s < a → end_leaf l ≤ a → a < end_leaf (join q l r)
        → (ds rest : List D) (d x : D) → ds ≡ d ∷ rest → x ≡ f l → Before (join q l r) ds → x ≡ d
    before_other q l r w x y z ds rest d v g i b =
        let o = subst (λ us. AllRebuilt h (tree_meets (in_range 0 a)) f us ds) (crossed_right q l r w x y z) b in
        i ∙ sym (o.0 (first_met q l r w x)) ∙ ap (next h) g

    pub before_short : (q : ℕ) (l r : Tree) → IsNodeOf rule m p tall s (join q l r) → s < a → end_leaf l ≤ a → a < end_leaf (join q l r)
        → (ds : List D) → length ds ≡ 0 → length (siblings (in_range a e) (join q l r)) ≤ length ds → ⊥
    before_short q l r w x y z ds n long = omega (arith, n, long, ap length (crossed_right q l r w x y z))
