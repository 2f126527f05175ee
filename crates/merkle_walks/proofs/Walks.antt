-- Searches along places, in parts, and down a tree.
use Rattle.std.proofs.Common.{◌≡◌, ◌≢◌, ℕ, length, map, flat_map, subst, ◌==◌, Bool, true, false, not, cond, ◌&&◌, List, [], ◌∷◌, ◌++◌, Option, Some, None, option_map, refl, ap, ap₂, sym, ◌∙◌, arith}
use Rattle.std.proofs.lemmas.Bool.Decides.{Decides-eqb}
use Rattle.merkle_base.specs.Hashing.{Hashing, IsOver}
use Rattle.merkle_base.specs.Tree.{Tree, leaf, join, position}
use Rattle.merkle_base.proofs.Growth.{forest_grown}
use Rattle.merkle_base.proofs.Lists.{cons_head, cons_tail}
use Rattle.merkle_hasher.specs.Subtrees.{IsNodeOf, Denotes, AreNodes, subtree_of}
use Rattle.merkle_hasher.specs.declared.subtree.Subtree.{Subtree}
use Rattle.merkle_root_theory.specs.Expression.{Place, Node, Pair, Input}
use Rattle.merkle_root_theory.specs.Collision.{Collision}
use Rattle.merkle_claim_theory.specs.FirstCollision.{or_else}
use Rattle.merkle_claim_theory.specs.Order.{node_places}
use Rattle.merkle_audit_theory.proofs.ListSearches.{looked_parts}
use Rattle.merkle_audit_theory.specs.Differences.{is_difference}
use Rattle.merkle_audit_theory.specs.Searches.{found_of, looked_up}
use Rattle.merkle_audit_theory.specs.Seen.{node_at, NothingAt, Sees}

module _ {D : Type 0} (t : Input D → Input D → Bool) (f g : Place → Option (Input D)) where
  pub nothing_left : (ps : List Place) → NothingAt f ps → looked_up t ps f g ≡ None
  nothing_left [] n = refl
  nothing_left (p ∷ ps) n = ap₂ (λ x o. or_else (found_of t x (g p)) o) n.0 (nothing_left ps n.1)

  found_none : (x : Option (Input D)) → found_of t x None ≡ None
  found_none None = refl
  found_none (Some x) = refl

  pub nothing_right : (ps : List Place) → NothingAt g ps → looked_up t ps f g ≡ None
  nothing_right [] n = refl
  nothing_right (p ∷ ps) n = ap₂ or_else (ap (λ y. found_of t (f p) y) n.0 ∙ found_none (f p)) (nothing_right ps n.1)

-- ---- at one node
module _ {D : Type 0} (h : Hashing D) (rule : List ℕ → List ℕ) (m p s tall : ℕ) (e e' : Tree → Option (D × D)) (f g : Place → Option (Input D)) where
  abbrev search : Tree → Option (Collision D)
  search t = looked_up (is_difference h) (node_places t) f g

  -- a leaf has no places
  pub at_leaf : (t : Tree) → IsNodeOf rule m p tall s t → tall ≡ 0 → None ≡ search t
  at_leaf (leaf q i) w z = refl
  at_leaf (join q a b) w z = absurd (omega (arith, w.height_is, z))

  -- what one side hashes nothing at
  pub one_silent : (t : Tree) → IsNodeOf rule m p tall s t → Sees e f t → ((q : ℕ) (a b : Tree) → IsNodeOf rule m p tall s (join q a b) → e (join q a b) ≡ None) → None ≡ search t
  one_silent (leaf q i) w sees n = refl
  one_silent (join q a b) w sees n = sym (nothing_left (is_difference h) f g (node_places (join q a b)) (sees.1 (n q a b w)))

  pub other_silent : (t : Tree) → IsNodeOf rule m p tall s t → Sees e' g t → ((q : ℕ) (a b : Tree) → IsNodeOf rule m p tall s (join q a b) → e' (join q a b) ≡ None) → None ≡ search t
  other_silent (leaf q i) w sees n = refl
  other_silent (join q a b) w sees n = sym (nothing_right (is_difference h) f g (node_places (join q a b)) (sees.1 (n q a b w)))

  same_position : (q : ℕ) → (q == q) ≡ true
  same_position q = (Decides-eqb q q).1 refl

  -- both hash a pair: what the test says of them, and what is found below
  pub at_both : (t : Tree) → IsNodeOf rule m p tall s t → tall ≢ 0 → Sees e f t → Sees e' g t → (x y : D × D) (b : Bool) → (h.same x.0 y.0 && h.same x.1 y.1) ≡ b
      → ((q : ℕ) (l r : Tree) → IsNodeOf rule m p tall s (join q l r) → (e (join q l r) ≡ Some x) × (e' (join q l r) ≡ Some y))
      → (under : Option (Collision D))
      → (b ≡ true → (q : ℕ) (l r : Tree) → IsNodeOf rule m p tall s (join q l r) → Sees e f l → Sees e' g l → Sees e f r → Sees e' g r → under ≡ or_else (search l) (search r))
      → cond b under (Some (record { place = Node p; claimed = Pair x.0 x.1; listed = Pair y.0 y.1 })) ≡ search t
  at_both (leaf q i) w tall_is sees sees' x y b test k under below = absurd (tall_is (omega (arith, w.height_is)))
  at_both (join q l r) w tall_is sees sees' x y b test k under below =
      let z : q ≡ p = (forest_grown rule m).placed p (join q l r) w.at in
      let both = k q l r w in
      let fx : f (Node q) ≡ Some (node_at (join q l r) x) = sees.0 ∙ ap (option_map (node_at (join q l r))) both.0 in
      let gy : g (Node q) ≡ Some (node_at (join q l r) y) = sees'.0 ∙ ap (option_map (node_at (join q l r))) both.1 in
      let v = looked_up (is_difference h) (node_places l ++ node_places r) f g in
      decided b under v (λ e. below e q l r w sees.2 sees'.2 sees.3 sees'.3 ∙ sym (looked_parts (is_difference h) f g (node_places l) (node_places r)))
      ∙ sym (ap₂ (λ u o. or_else (found_of (is_difference h) u o) v) fx gy
      ∙ ap (λ c. or_else (cond (c && not (h.same x.0 y.0 && h.same x.1 y.1)) (Some (record { place = Node q; claimed = Pair x.0 x.1; listed = Pair y.0 y.1 })) None) v) (same_position q)
      ∙ ap (λ c. or_else (cond (not c) (Some (record { place = Node q; claimed = Pair x.0 x.1; listed = Pair y.0 y.1 })) None) v) test
      ∙ ap (λ i. or_else (cond (not b) (Some (record { place = Node i; claimed = Pair x.0 x.1; listed = Pair y.0 y.1 })) None) v) z)
    where
      decided : (c : Bool) (u v : Option (Collision D)) → (c ≡ true → u ≡ v) → cond c u (Some (record { place = Node p; claimed = Pair x.0 x.1; listed = Pair y.0 y.1 }))
          ≡ or_else (cond (not c) (Some (record { place = Node p; claimed = Pair x.0 x.1; listed = Pair y.0 y.1 })) None) v
      decided true u v w = w refl
      decided false u v w = refl

abbrev pub search_below : {D : Type 0} → Hashing D → (Place → Option (Input D)) → (Place → Option (Input D)) → Tree → Option (Collision D)
search_below h f g t = looked_up (is_difference h) (node_places t) f g

-- two pairs of digests, tested by the equality of the hasher's digests
module _ {D : Type 0} {h : Hashing D} {spelled : D → List ℕ} {equal : D → D → Bool} {none : D} (over : IsOver h spelled equal none) (a b c d : D) (v : Bool) where
  pub tested : v ≡ (equal a c && equal b d) → (h.same a c && h.same b d) ≡ v
  tested e = ap (λ (f : D → D → Bool). f a c && f b d) over.same ∙ sym e

-- ---- along peaks
module _ {D : Type 0} (h : Hashing D) (f g : Place → Option (Input D)) where
  abbrev pub all : List Tree → Option (Collision D)
  all ts = looked_up (is_difference h) (flat_map node_places ts) f g

  pub no_peaks : {F : Type 0} (ps : List (Subtree F)) (ts : List Tree) → length ps ≡ 0 → ps ≡ map subtree_of ts → None ≡ all ts
  no_peaks ps [] l e = refl
  no_peaks ps (t ∷ ts) l e = absurd (omega (arith, l, ap length e))

  pub searched_first : (ts : List Tree) (t : Tree) (us : List Tree) → ts ≡ t ∷ us → (o o' : Option (Collision D)) → o ≡ search_below h f g t → o' ≡ all us → or_else o o' ≡ all ts
  searched_first ts t us same o o' e e' =
      ap₂ or_else e e' ∙ sym (looked_parts (is_difference h) f g (node_places t) (flat_map node_places us)) ∙ ap all (sym same)

pub first_peak : {F : Type 0} (rule : List ℕ → List ℕ) (m : ℕ) (ps : List (Subtree F)) (p : Subtree F) (qs : List (Subtree F)) (ts : List Tree)
    → ps ≡ p ∷ qs → ps ≡ map subtree_of ts → AreNodes rule m ts
    → (t : Tree) × (us : List Tree) × (ts ≡ t ∷ us) × Denotes rule m p t × (qs ≡ map subtree_of us) × AreNodes rule m us
first_peak rule m ps p qs [] first same nodes = absurd (omega (arith, ap length first, ap length same))
first_peak rule m ps p qs (t ∷ us) first same nodes =
    let e = sym first ∙ same in
    (t, us, refl, subst (λ s. Denotes rule m s t) (sym (cons_head _ _ _ _ e)) (record { at = nodes.0; height_is = refl; first_is = refl }), cons_tail _ _ _ _ e, nodes.1)

-- a subtree stands at the position of its node
pub stands : {F : Type 0} (rule : List ℕ → List ℕ) (m : ℕ) (v : Subtree F) (t : Tree) → Denotes rule m v t → v.position ≡ position t
stands rule m v t w = sym ((forest_grown rule m).placed v.position t w.at)
