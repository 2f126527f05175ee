-- What a check of a range claims of nodes, as a walk over them computes it.
use Rattle.std.proofs.Common.{◌≡◌, ◌≢◌, ℕ, ◌<◌, ◌≤◌, Bool, true, false, cond, List, [], ◌∷◌, ◌++◌, length, map, drop, get_or, slice_get, zero, suc, unwrap_or, Option, None, Some}
use Rattle.std.proofs.Common.{refl, ap, ap₂, sym, ◌∙◌, arith, inr, append-nil, append_assoc, length-append, drop-drop}
use Rattle.std.proofs.Math.Seq.{drop-nil}
use Rattle.merkle_base.specs.Hashing.{Hashing}
use Rattle.merkle_base.specs.Forest.{forest}
use Rattle.merkle_base.specs.Tree.{Tree, leaf, join}
use Rattle.merkle_base.proofs.Growth.{forest_grown}
use Rattle.merkle_base.proofs.Nodes.{node_built, width_pos}
use Rattle.merkle_hasher.specs.Subtrees.{IsNodeOf, subtree_of}
use Rattle.merkle_hasher.specs.declared.subtree.Subtree.{Subtree}
use Rattle.merkle_root_theory.specs.Check.{in_range}
use Rattle.merkle_root_theory.specs.Claim.{next}
use Rattle.merkle_root_theory.specs.Collision.{Collision}
use Rattle.merkle_root_theory.specs.Expression.{Node, Expression, supplied, computed, cross_checked, value}
use Rattle.merkle_root_theory.specs.Plan.{siblings, tree_meets}
use Rattle.merkle_root_theory.proofs.PeakGroups.{meets_not, meets_yes}
use Rattle.merkle_root_theory.proofs.Walks.{siblings_unmet, siblings_join}
use Rattle.merkle_claim_theory.specs.FirstCollision.{or_else}
use Rattle.merkle_claim_theory.specs.MultiClaim.{or_empty}
use Rattle.merkle_claim_theory.specs.PinnedClaim.{pinned_or, pin_tree}
use Rattle.merkle_walk_theory.specs.Compared.{found_over, found_in, found_among}
use Rattle.merkle_walks.specs.Ranged.{outside_claim, claim_tree, claim_trees}

-- ---- what is supplied, and what is computed
module _ {D : Type 0} (h : Hashing D) (f : Tree → Option (D × D)) where
  pub supplied_value : (e : Expression D) (d : D) → e ≡ supplied d → d ≡ value h e
  supplied_value e d is = sym (ap (value h) is)

  pub supplied_none : (t : Tree) (e : Expression D) (d : D) → e ≡ supplied d → None ≡ found_in h f t e
  supplied_none t e d is = sym (ap (found_in h f t) is)

  -- of a node with children, where the two sides have the digests d and e
  module _ (rule : List ℕ → List ℕ) (m p s tall : ℕ) (E : Tree → Expression D) (d e : D) where
    pub parent_value : (t : Tree) → IsNodeOf rule m p tall s t → tall ≢ 0
        → ((q : ℕ) (l r : Tree) → IsNodeOf rule m p tall s (join q l r)
        → (x : Expression D) × (y : Expression D) × (E (join q l r) ≡ computed (Node q) x y) × (d ≡ value h x) × (e ≡ value h y))
        → h.node p d e ≡ value h (E t)
    parent_value (leaf q i) w k is = absurd (k (omega (arith, w.height_is)))
    parent_value (join q l r) w k is =
        let at : q ≡ p = (forest_grown rule m).placed p (join q l r) w.at in
        let c = is q l r w in
        ap₂ (h.node p) c.3 c.4 ∙ ap (λ n. h.node n (value h c.0) (value h c.1)) (sym at) ∙ sym (ap (value h) c.2)

    pub parent_found : (o : Option (D × D)) (u v : Option (Collision D)) (t : Tree) → IsNodeOf rule m p tall s t → tall ≢ 0
        → ((q : ℕ) (l r : Tree) → IsNodeOf rule m p tall s (join q l r)
        → (x : Expression D) × (y : Expression D) × (E (join q l r) ≡ computed (Node q) x y) × (d ≡ value h x) × (e ≡ value h y)
        × (o ≡ f (join q l r)) × (u ≡ found_in h f l x) × (v ≡ found_in h f r y))
        → found_over h p (d, e) o u v ≡ found_in h f t (E t)
    parent_found o u v (leaf q i) w k is = absurd (k (omega (arith, w.height_is)))
    parent_found o u v (join q l r) w k is =
        let at : q ≡ p = (forest_grown rule m).placed p (join q l r) w.at in
        let c = is q l r w in
        ap₂ (λ a b. found_over h p (a, b) o u v) c.3 c.4 ∙ ap (λ z. found_over h z (value h c.0, value h c.1) o u v) (sym at)
        ∙ ap (λ z. found_over h q (value h c.0, value h c.1) z u v) c.5 ∙ ap₂ (found_over h q (value h c.0, value h c.1) (f (join q l r))) c.6 c.7
        ∙ sym (ap (found_in h f (join q l r)) c.2)

-- ---- pins
module _ {D : Type 0} (h : Hashing D) (b : ℕ → Option D) (rule : List ℕ → List ℕ) (m p s tall : ℕ) where
  pub pinned : (t : Tree) → IsNodeOf rule m p tall s t → (d : D) → b p ≡ Some d → pin_tree h b t ≡ supplied d
  pinned (leaf q i) w d e = let z : q ≡ p = (forest_grown rule m).placed p (leaf q i) w.at in ap (λ o. supplied (or_empty h o)) (ap b z ∙ e)
  pinned (join q l r) w d e = let z : q ≡ p = (forest_grown rule m).placed p (join q l r) w.at in
      ap (λ o. pinned_or o (computed (Node q) (pin_tree h b l) (pin_tree h b r))) (ap b z ∙ e)

  pub unpinned_leaf : (t : Tree) → IsNodeOf rule m p tall s t → tall ≡ 0 → b p ≡ None → pin_tree h b t ≡ supplied h.empty
  unpinned_leaf (leaf q i) w z e = let y : q ≡ p = (forest_grown rule m).placed p (leaf q i) w.at in ap (λ o. supplied (or_empty h o)) (ap b y ∙ e)
  unpinned_leaf (join q l r) w z e = absurd (omega (arith, w.height_is, z))

  pub unpinned : (q : ℕ) (l r : Tree) → IsNodeOf rule m p tall s (join q l r) → b p ≡ None → pin_tree h b (join q l r) ≡ computed (Node q) (pin_tree h b l) (pin_tree h b r)
  unpinned q l r w e = let z : q ≡ p = (forest_grown rule m).placed p (join q l r) w.at in
      ap (λ o. pinned_or o (computed (Node q) (pin_tree h b l) (pin_tree h b r))) (ap b z ∙ e)

-- ---- outside the range
module _ {D : Type 0} (h : Hashing D) (w : ℕ → Bool) (t : Tree) (d : D) where
  pub without_pins : (o : Option (ℕ → Option D)) → o ≡ None → outside_claim h o w t d ≡ supplied d
  without_pins o e = ap (λ z. outside_claim h z w t d) e

  pub not_before : (o : Option (ℕ → Option D)) → tree_meets w t ≡ false → outside_claim h o w t d ≡ supplied d
  not_before None e = refl
  not_before (Some b) e = ap (λ z. cond z (cross_checked d (pin_tree h b t)) (supplied d)) e

  pub before_value : (o : Option (ℕ → Option D)) (b : ℕ → Option D) → o ≡ Some b → tree_meets w t ≡ true → value h (pin_tree h b t) ≡ value h (outside_claim h o w t d)
  before_value o b is e =
      sym (ap (λ z. value h (outside_claim h z w t d)) is ∙ ap (λ z. value h (cond z (cross_checked d (pin_tree h b t)) (supplied d))) e)

  pub before_found : (f : Tree → Option (D × D)) (o : Option (ℕ → Option D)) (b : ℕ → Option D) → o ≡ Some b → tree_meets w t ≡ true
      → found_in h f t (pin_tree h b t) ≡ found_in h f t (outside_claim h o w t d)
  before_found f o b is e =
      sym (ap (λ z. found_in h f t (outside_claim h z w t d)) is ∙ ap (λ z. found_in h f t (cond z (cross_checked d (pin_tree h b t)) (supplied d))) e)

-- ---- the nodes above a range
module _ {D : Type 0} (h : Hashing D) (o : Option (ℕ → Option D)) (w c : ℕ → Bool) (X : ℕ → D) where
  pub claim_unmet : (t : Tree) (ds : List D) → tree_meets c t ≡ false → claim_tree h o w c X t ds ≡ outside_claim h o w t (next h ds)
  claim_unmet (leaf p i) ds e = ap (λ z. cond z (supplied (X i)) (outside_claim h o w (leaf p i) (next h ds))) e
  claim_unmet (join p l r) ds e = ap (λ z. cond z
      (computed (Node p) (claim_tree h o w c X l ds) (claim_tree h o w c X r (drop (length (siblings c l)) ds)))
      (outside_claim h o w (join p l r) (next h ds))) e

  pub claim_leaf : (rule : List ℕ → List ℕ) (m p s tall : ℕ) (t : Tree) (ds : List D) → IsNodeOf rule m p tall s t → tall ≡ 0 → tree_meets c t ≡ true
      → claim_tree h o w c X t ds ≡ supplied (X s)
  claim_leaf rule m p s tall (leaf q i) ds v z e =
      ap (λ y. cond y (supplied (X i)) (outside_claim h o w (leaf q i) (next h ds))) e ∙ ap (λ j. supplied (X j)) v.first_is
  claim_leaf rule m p s tall (join q l r) ds v z e = absurd (omega (arith, v.height_is, z))

  pub claim_parent : (q : ℕ) (l r : Tree) (ds : List D) → tree_meets c (join q l r) ≡ true
      → claim_tree h o w c X (join q l r) ds ≡ computed (Node q) (claim_tree h o w c X l ds) (claim_tree h o w c X r (drop (length (siblings c l)) ds))
  claim_parent q l r ds e = ap (λ z. cond z
      (computed (Node q) (claim_tree h o w c X l ds) (claim_tree h o w c X r (drop (length (siblings c l)) ds)))
      (outside_claim h o w (join q l r) (next h ds))) e

-- ---- several nodes
module _ {D : Type 0} (h : Hashing D) (f : Tree → Option (D × D)) (E : Tree → Expression D) where
  pub none_among : {F : Type 0} (subs : List (Subtree F)) (ts : List Tree) → length subs ≡ 0 → subs ≡ map subtree_of ts → None ≡ found_among h f (map (λ t. (t, E t)) ts)
  none_among subs [] l e = refl
  none_among subs (t ∷ ts) l e = absurd (omega (arith, l, ap length e))

  pub more_among : (ts : List Tree) (t : Tree) (us : List Tree) → ts ≡ t ∷ us → (o o' : Option (Collision D)) → o ≡ found_in h f t (E t)
      → o' ≡ found_among h f (map (λ u. (u, E u)) us) → or_else o o' ≡ found_among h f (map (λ u. (u, E u)) ts)
  more_among ts t us same o o' e e' = ap₂ or_else e e' ∙ ap (λ z. found_among h f (map (λ u. (u, E u)) z)) (sym same)

-- ---- where a node lies
module _ (rule : List ℕ → List ℕ) (m p s tall : ℕ) (t : Tree) (v : IsNodeOf rule m p tall s t) (start : ℕ) where
  pub none_before : start ≤ s → tree_meets (in_range 0 start) t ≡ false
  none_before l = meets_not 0 start (forest rule m).nodes t (node_built rule m p t v.at) (inr (omega (arith, v.first_is, l)))

  pub some_before : s < start → tree_meets (in_range 0 start) t ≡ true
  some_before l = meets_yes 0 start (forest rule m).nodes t (node_built rule m p t v.at) (omega (arith, v.first_is, l)) (omega (arith, width_pos t)) (omega (arith, l))

-- what is read of a list, or else something
pub read_or : {D : Type 0} (xs : List D) (j : ℕ) (d : D) → unwrap_or (slice_get xs j) d ≡ get_or xs j d
read_or [] j d = refl
read_or (x ∷ xs) zero d = refl
read_or (x ∷ xs) (suc j) d = read_or xs j d

-- the digests that are left after a node's siblings
module _ {D : Type 0} (c : ℕ → Bool) where
  pub left_unmet : (t : Tree) (ds others : List D) (d : D) → tree_meets c t ≡ false → ds ≡ d ∷ others → others ≡ drop (length (siblings c t)) ds
  left_unmet t ds others d e is = sym (ap₂ drop (ap length (siblings_unmet c t e)) is)

  pub left_none : (t : Tree) (ds : List D) → ds ≡ [] → ds ≡ drop (length (siblings c t)) ds
  left_none t ds is = is ∙ sym (ap (drop (length (siblings c t))) is ∙ drop-nil (length (siblings c t)))

  pub left_leaf : (rule : List ℕ → List ℕ) (m p s tall : ℕ) (t : Tree) (ds : List D) → IsNodeOf rule m p tall s t → tall ≡ 0 → tree_meets c t ≡ true
      → ds ≡ drop (length (siblings c t)) ds
  left_leaf rule m p s tall (leaf q i) ds v z e = ap (λ y. drop (length (cond y [] (leaf q i ∷ []))) ds) (sym e)
  left_leaf rule m p s tall (join q l r) ds v z e = absurd (omega (arith, v.height_is, z))

  pub left_parent : (rule : List ℕ → List ℕ) (m p s tall : ℕ) (t : Tree) (ds new : List D) → IsNodeOf rule m p tall s t → tall ≢ 0 → tree_meets c t ≡ true
      → ((q : ℕ) (l r : Tree) → IsNodeOf rule m p tall s (join q l r) → new ≡ drop (length (siblings c r)) (drop (length (siblings c l)) ds))
      → new ≡ drop (length (siblings c t)) ds
  left_parent rule m p s tall (leaf q i) ds new v k e is = absurd (k (omega (arith, v.height_is)))
  left_parent rule m p s tall (join q l r) ds new v k e is =
      is q l r v ∙ drop-drop (length (siblings c r)) (length (siblings c l)) ds
      ∙ ap (λ n. drop n ds) (sym (ap length (siblings_join c q l r e) ∙ length-append (siblings c l) (siblings c r)))

  pub left_then : (l r : Tree) (ds mid new : List D) → mid ≡ drop (length (siblings c l)) ds → new ≡ drop (length (siblings c r)) mid
      → new ≡ drop (length (siblings c r)) (drop (length (siblings c l)) ds)
  left_then l r ds mid new e f = f ∙ ap (drop (length (siblings c r))) e

-- a node with leaves in the range and with children: what is claimed of it, after its children
module _ {D : Type 0} (h : Hashing D) (f : Tree → Option (D × D)) (o : Option (ℕ → Option D)) (w c : ℕ → Bool) (X : ℕ → D)
    (rule : List ℕ → List ℕ) (m p s tall : ℕ) (ds mid : List D) (d e : D) where
  abbrev claimed : Tree → List D → Expression D
  claimed t ds = claim_tree h o w c X t ds

  pub parent_met : (t : Tree) → IsNodeOf rule m p tall s t → tall ≢ 0 → tree_meets c t ≡ true
      → ((q : ℕ) (l r : Tree) → IsNodeOf rule m p tall s (join q l r)
      → (mid ≡ drop (length (siblings c l)) ds) × (d ≡ value h (claimed l ds)) × (e ≡ value h (claimed r mid)))
      → h.node p d e ≡ value h (claimed t ds)
  parent_met (leaf q i) v k met is = absurd (k (omega (arith, v.height_is)))
  parent_met (join q l r) v k met is =
      let z = is q l r v in
      ap₂ (h.node p) z.1 (z.2 ∙ ap (λ xs. value h (claimed r xs)) z.0)
      ∙ ap (λ n. h.node n (value h (claimed l ds)) (value h (claimed r (drop (length (siblings c l)) ds)))) (sym ((forest_grown rule m).placed p (join q l r) v.at))
      ∙ sym (ap (value h) (claim_parent h o w c X q l r ds met))

  pub found_met : (x : Option (D × D)) (y z : Option (Collision D)) (t : Tree) → IsNodeOf rule m p tall s t → tall ≢ 0 → tree_meets c t ≡ true
      → ((q : ℕ) (l r : Tree) → IsNodeOf rule m p tall s (join q l r)
      → (mid ≡ drop (length (siblings c l)) ds) × (d ≡ value h (claimed l ds)) × (e ≡ value h (claimed r mid))
      × (x ≡ f (join q l r)) × (y ≡ found_in h f l (claimed l ds)) × (z ≡ found_in h f r (claimed r mid)))
      → found_over h p (d, e) x y z ≡ found_in h f t (claimed t ds)
  found_met x y z (leaf q i) v k met is = absurd (k (omega (arith, v.height_is)))
  found_met x y z (join q l r) v k met is =
      let u = is q l r v in
      let rest = drop (length (siblings c l)) ds in
      ap₂ (λ a b. found_over h p (a, b) x y z) u.1 (u.2 ∙ ap (λ xs. value h (claimed r xs)) u.0)
      ∙ ap (λ n. found_over h n (value h (claimed l ds), value h (claimed r rest)) x y z) (sym ((forest_grown rule m).placed p (join q l r) v.at))
      ∙ ap (λ a. found_over h q (value h (claimed l ds), value h (claimed r rest)) a y z) u.3
      ∙ ap₂ (found_over h q (value h (claimed l ds), value h (claimed r rest)) (f (join q l r))) u.4 (u.5 ∙ ap (λ xs. found_in h f r (claimed r xs)) u.0)
      ∙ sym (ap (found_in h f (join q l r)) (claim_parent h o w c X q l r ds met))

-- several nodes, one after another
module _ {D : Type 0} (h : Hashing D) (f : Tree → Option (D × D)) (o : Option (ℕ → Option D)) (w c : ℕ → Bool) (X : ℕ → D) where
  abbrev all_claimed : List Tree → List D → List (Tree × Expression D)
  all_claimed ts ds = claim_trees h o w c X ts ds

  abbrev all_values : List Tree → List D → List D
  all_values ts ds = map (λ x. value h x.1) (all_claimed ts ds)

  pub none_claimed : {F : Type 0} (subs : List (Subtree F)) (ts : List Tree) (ds : List D) → length subs ≡ 0 → subs ≡ map subtree_of ts → None ≡ found_among h f (all_claimed ts ds)
  none_claimed subs [] ds l e = refl
  none_claimed subs (t ∷ ts) ds l e = absurd (omega (arith, l, ap length e))

  pub none_valued : {F : Type 0} (subs : List (Subtree F)) (ts : List Tree) (ds old : List D) → length subs ≡ 0 → subs ≡ map subtree_of ts → old ≡ old ++ all_values ts ds
  none_valued subs [] ds old l e = sym (append-nil old)
  none_valued subs (t ∷ ts) ds old l e = absurd (omega (arith, l, ap length e))

  pub more_claimed : (ts : List Tree) (t : Tree) (us : List Tree) → ts ≡ t ∷ us → (ds mid : List D) (y z : Option (Collision D)) → mid ≡ drop (length (siblings c t)) ds
      → y ≡ found_in h f t (claim_tree h o w c X t ds) → z ≡ found_among h f (all_claimed us mid) → or_else y z ≡ found_among h f (all_claimed ts ds)
  more_claimed ts t us same ds mid y z left e e' =
      ap₂ or_else e (e' ∙ ap (λ xs. found_among h f (all_claimed us xs)) left) ∙ ap (λ vs. found_among h f (all_claimed vs ds)) (sym same)

  pub more_valued : (ts : List Tree) (t : Tree) (us : List Tree) → ts ≡ t ∷ us → (ds mid old pushed new : List D) (d : D) → mid ≡ drop (length (siblings c t)) ds
      → d ≡ value h (claim_tree h o w c X t ds) → pushed ≡ old ++ d ∷ [] → new ≡ pushed ++ all_values us mid → new ≡ old ++ all_values ts ds
  more_valued ts t us same ds mid old pushed new d left is step more =
      more ∙ ap₂ (λ xs ys. xs ++ all_values us ys) (step ∙ ap (λ x. old ++ x ∷ []) is) left
      ∙ append_assoc old (value h (claim_tree h o w c X t ds) ∷ []) (all_values us (drop (length (siblings c t)) ds))
      ∙ ap (λ vs. old ++ all_values vs ds) (sym same)
