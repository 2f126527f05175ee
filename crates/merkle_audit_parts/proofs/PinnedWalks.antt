-- The search down a tree, of which one side says nothing below the pins.
use Rattle.std.proofs.Common.{◌≡◌, ◌≢◌, ℕ, ◌==◌, Bool, true, false, not, cond, ◌&&◌, nat_lt, ◌<◌, ◌≤◌, List, [], ◌∷◌, ◌++◌, length, map, Option, Some, None}
use Rattle.std.proofs.Common.{option_map, MatchOption, refl, ap, ap₂, sym, ◌∙◌, subst, arith, append-nil, le-leb, lt-ltb, le-ltb}
use Rattle.std.proofs.lemmas.Bool.{lt-leb}
use Rattle.std.proofs.lemmas.Bool.Decides.{Decides-eqb}
use Rattle.merkle_base.specs.Hashing.{Hashing}
use Rattle.merkle_base.specs.Tree.{Tree, leaf, join, position, first_leaf, end_leaf}
use Rattle.merkle_base.proofs.Growth.{forest_grown}
use Rattle.merkle_hasher.specs.Subtrees.{IsNodeOf, subtree_of}
use Rattle.merkle_hasher.specs.declared.subtree.Subtree.{Subtree}
use Rattle.merkle_root_theory.specs.Expression.{Place, Node, Pair, Input}
use Rattle.merkle_root_theory.specs.Collision.{Collision}
use Rattle.merkle_claim_theory.specs.FirstCollision.{or_else}
use Rattle.merkle_claim_theory.specs.Order.{node_places}
use Rattle.merkle_audit_theory.proofs.ListSearches.{looked_parts}
use Rattle.merkle_audit_theory.specs.Differences.{is_difference}
use Rattle.merkle_claim_theory.specs.Rebuilt.{rebuilt_node}
use Rattle.merkle_pins_theory.specs.PinnedNodes.{pinned_value, unless_pinned, pinned_children, SeesDown}
use Rattle.merkle_audit_theory.specs.Searches.{found_of, looked_up}
use Rattle.merkle_audit_theory.specs.Seen.{node_at, NothingAt, Sees}
use Rattle.merkle_walks.proofs.Walks.{nothing_left}

module _ {D : Type 0} (h : Hashing D) (rule : List ℕ → List ℕ) (m p s tall : ℕ) (e e' : Tree → Option (D × D)) (f g : Place → Option (Input D)) where
  abbrev search : Tree → Option (Collision D)
  search t = looked_up (is_difference h) (node_places t) f g

  -- what is seen at a node
  down : (q : ℕ) (l r : Tree) (o : Option (D × D)) → e (join q l r) ≡ o → SeesDown e f (join q l r)
      → MatchOption o (NothingAt f (node_places (join q l r))) (λ x. (f (Node q) ≡ Some (node_at (join q l r) x)) × SeesDown e f l × SeesDown e f r)
  down q l r o z sees = subst (λ y. MatchOption y (NothingAt f (node_places (join q l r))) (λ x. (f (Node q) ≡ Some (node_at (join q l r) x)) × SeesDown e f l × SeesDown e f r)) z sees

  pub claimed_silent : (t : Tree) → IsNodeOf rule m p tall s t → SeesDown e f t → ((q : ℕ) (a b : Tree) → IsNodeOf rule m p tall s (join q a b) → e (join q a b) ≡ None) → None ≡ search t
  claimed_silent (leaf q i) w sees n = refl
  claimed_silent (join q a b) w sees n = sym (nothing_left (is_difference h) f g (node_places (join q a b)) (down q a b None (n q a b w) sees))

  -- both hash a pair: what the test says of them, and what is found below
  pub at_pinned : (t : Tree) → IsNodeOf rule m p tall s t → tall ≢ 0 → SeesDown e f t → Sees e' g t → (x y : D × D) (b : Bool) → (h.same x.0 y.0 && h.same x.1 y.1) ≡ b
      → ((q : ℕ) (l r : Tree) → IsNodeOf rule m p tall s (join q l r) → (e (join q l r) ≡ Some x) × (e' (join q l r) ≡ Some y))
      → (under : Option (Collision D))
      → (b ≡ true → (q : ℕ) (l r : Tree) → IsNodeOf rule m p tall s (join q l r) → SeesDown e f l → Sees e' g l → SeesDown e f r → Sees e' g r → under ≡ or_else (search l) (search r))
      → cond b under (Some (record { place = Node p; claimed = Pair x.0 x.1; listed = Pair y.0 y.1 })) ≡ search t
  at_pinned (leaf q i) w tall_is sees sees' x y b test k under below = absurd (tall_is (omega (arith, w.height_is)))
  at_pinned (join q l r) w tall_is sees sees' x y b test k under below =
      let z : q ≡ p = (forest_grown rule m).placed p (join q l r) w.at in
      let both = k q l r w in
      let here = down q l r (Some x) both.0 sees in
      let gy : g (Node q) ≡ Some (node_at (join q l r) y) = sees'.0 ∙ ap (option_map (node_at (join q l r))) both.1 in
      let one : (q == q) ≡ true = (Decides-eqb q q).1 refl in
      let v = looked_up (is_difference h) (node_places l ++ node_places r) f g in
      decided b under v (λ e. below e q l r w here.1 sees'.2 here.2 sees'.3 ∙ sym (looked_parts (is_difference h) f g (node_places l) (node_places r)))
      ∙ sym (ap₂ (λ u o. or_else (found_of (is_difference h) u o) v) here.0 gy
      ∙ ap (λ c. or_else (cond (c && not (h.same x.0 y.0 && h.same x.1 y.1)) (Some (record { place = Node q; claimed = Pair x.0 x.1; listed = Pair y.0 y.1 })) None) v) one
      ∙ ap (λ c. or_else (cond (not c) (Some (record { place = Node q; claimed = Pair x.0 x.1; listed = Pair y.0 y.1 })) None) v) test
      ∙ ap (λ i. or_else (cond (not b) (Some (record { place = Node i; claimed = Pair x.0 x.1; listed = Pair y.0 y.1 })) None) v) z)
    where
      decided : (c : Bool) (u v : Option (Collision D)) → (c ≡ true → u ≡ v) → cond c u (Some (record { place = Node p; claimed = Pair x.0 x.1; listed = Pair y.0 y.1 }))
          ≡ or_else (cond (not c) (Some (record { place = Node p; claimed = Pair x.0 x.1; listed = Pair y.0 y.1 })) None) v
      decided true u v w = w refl
      decided false u v w = refl

-- ---- what is hashed at a node, by the place of its leaves
module _ {D : Type 0} (h : Hashing D) (b : ℕ → Option D) (start stop : ℕ) (g : ℕ → D) (p : ℕ) (l r : Tree) where
  abbrev others : Option (D × D)
  others = cond (nat_lt (first_leaf l) stop) (Some (pinned_value h b start g l, pinned_value h b start g r)) None

  before_is : (o : Option D) → end_leaf (join p l r) ≤ start → b p ≡ o → pinned_children h b start stop g (join p l r) ≡ unless_pinned o (rebuilt_node h b l, rebuilt_node h b r)
  before_is o x e =
      ap (λ z. cond z (unless_pinned (b p) (rebuilt_node h b l, rebuilt_node h b r)) others) (le-leb (end_leaf (join p l r)) start x)
      ∙ ap (λ y. unless_pinned y (rebuilt_node h b l, rebuilt_node h b r)) e

  pub children_pinned : (d : D) → end_leaf (join p l r) ≤ start → b p ≡ Some d → None ≡ pinned_children h b start stop g (join p l r)
  children_pinned d x e = sym (before_is (Some d) x e)

  pub children_rebuilt : (x y : D) → end_leaf (join p l r) ≤ start → b p ≡ None → x ≡ rebuilt_node h b l → y ≡ rebuilt_node h b r → Some (x, y) ≡ pinned_children h b start stop g (join p l r)
  children_rebuilt x y z e u v = ap₂ (λ c d. Some (c, d)) u v ∙ sym (before_is None z e)

  not_before : start < end_leaf (join p l r) → pinned_children h b start stop g (join p l r) ≡ cond (nat_lt (first_leaf l) stop) (Some (pinned_value h b start g l, pinned_value h b start g r)) None
  not_before x = ap (λ z. cond z (unless_pinned (b p) (rebuilt_node h b l, rebuilt_node h b r)) others) (lt-leb (end_leaf (join p l r)) start x)

  pub children_after : start < end_leaf (join p l r) → stop ≤ first_leaf l → None ≡ pinned_children h b start stop g (join p l r)
  children_after x y = sym (not_before x ∙ ap (λ z. cond z (Some (pinned_value h b start g l, pinned_value h b start g r)) None) (le-ltb (first_leaf l) stop y))

  pub children_over : (x y : D) → start < end_leaf (join p l r) → first_leaf l < stop → x ≡ pinned_value h b start g l
      → y ≡ pinned_value h b start g r → Some (x, y) ≡ pinned_children h b start stop g (join p l r)
  children_over x y z w u v = ap₂ (λ c d. Some (c, d)) u v ∙ sym (not_before z ∙ ap (λ y. cond y (Some (pinned_value h b start g l, pinned_value h b start g r)) None) (lt-ltb (first_leaf l) stop w))

-- the digest of a node, by the place of its leaves
module _ {D : Type 0} (h : Hashing D) (b : ℕ → Option D) (start : ℕ) (g : ℕ → D) (t : Tree) where
  pub value_before : (x : D) → end_leaf t ≤ start → x ≡ rebuilt_node h b t → x ≡ pinned_value h b start g t
  value_before x e u = u ∙ sym (ap (λ z. cond z (rebuilt_node h b t) (g (position t))) (le-leb (end_leaf t) start e))

  pub value_other : (x : D) → start < end_leaf t → x ≡ g (position t) → x ≡ pinned_value h b start g t
  value_other x e u = u ∙ sym (ap (λ z. cond z (rebuilt_node h b t) (g (position t))) (lt-leb (end_leaf t) start e))

pub none_pushed : {F D : Type 0} (ps : List (Subtree F)) (ts : List Tree) (f : Tree → D) (ds : List D) → length ps ≡ 0 → ps ≡ map subtree_of ts → ds ≡ ds ++ map f ts
none_pushed ps [] f ds l e = sym (append-nil ds)
none_pushed ps (t ∷ ts) f ds l e = absurd (omega (arith, l, ap length e))
