-- The first wrong one of the parents is the first damaged node.
use Rattle.std.proofs.Common.{◌≡◌, ◌≢◌, ℕ, zero, suc, ◌+◌, ◌-◌, ◌<◌, List, [], ◌∷◌, ◌++◌, drop, Bool, true, false, cond, not, Decides, Option, Some, None}
use Rattle.std.proofs.Common.{slice_get, arith, refl, sym, ap, ap₂, ◌∙◌, subst, flat_map}
use Rattle.std.proofs.lemmas.Bool.{false≢true}
use Rattle.merkle_base.specs.Tree.{Tree, leaf, join, position}
use Rattle.merkle_base.specs.Forest.{forest, size}
use Rattle.merkle_base.specs.Hashing.{Hashing, EqDecides}
use Rattle.merkle_base.proofs.Cases.{by_test}
use Rattle.merkle_base.proofs.Growth.{forest_grown}
use Rattle.merkle_batch_theory.specs.Contents.{Contents, HoldsKept}
use Rattle.merkle_batch_theory.proofs.ListFacts.{get_drop}
use Rattle.merkle_restore_theory.specs.Damage.{IsDamaged, IsFirstDamaged, IsWhole}
use Rattle.merkle_restore_theory.proofs.HeldBelow.{damage_from_boundary}
use Rattle.merkle_restore.specs.HeldParents.{with_both, parent_of, parents_from, is_other, first_wrong}

-- ---- a test of two digests
other_is : {D : Type 0} (h : Hashing D) → EqDecides h → (o : Option D) (d : D) → is_other h.same o d ≡ true → (x : D) × (o ≡ Some x) × (x ≢ d)
other_is h laws None d e = absurd (false≢true e)
other_is h laws (Some x) d e = (x, refl, λ same. false≢true (sym (ap not ((laws x d).1 same)) ∙ e))

other_from : {P : Type 0} (b : Bool) → Decides b P → (P → ⊥) → not b ≡ true
other_from true d other = absurd (other (d.0 refl))
other_from false d other = refl

module _ {D : Type 0} (h : Hashing D) (node : ℕ → Option D) where
  abbrev wrong_with : ℕ → Option D → Option D → Bool
  wrong_with p (Some a) (Some b) = is_other h.same (node p) (h.node p a b)
  wrong_with p o u = false

  -- whether a node is damaged
  abbrev wrong_at : Tree → Bool
  wrong_at (leaf p k) = false
  wrong_at (join p l r) = wrong_with p (node (position l)) (node (position r))

  both_with : (p : ℕ) (o u : Option D) (rest : List (ℕ × D × D)) → first_wrong h node (with_both p o u ++ rest) ≡ cond (wrong_with p o u) (Some p) (first_wrong h node rest)
  both_with p (Some a) (Some b) rest = refl
  both_with p (Some a) None rest = refl
  both_with p None u rest = refl

  one_more : (t : Tree) (rest : List (ℕ × D × D)) → first_wrong h node (parent_of node t ++ rest) ≡ cond (wrong_at t) (Some (position t)) (first_wrong h node rest)
  one_more (leaf p k) rest = refl
  one_more (join p l r) rest = both_with p (node (position l)) (node (position r)) rest

  both_are : (p : ℕ) (o u : Option D) → wrong_with p o u ≡ true → (a b : D) × (o ≡ Some a) × (u ≡ Some b) × (is_other h.same (node p) (h.node p a b) ≡ true)
  both_are p (Some a) (Some b) e = (a, b, refl, refl, e)
  both_are p (Some a) None e = absurd (false≢true e)
  both_are p None u e = absurd (false≢true e)

  module _ (laws : EqDecides h) (rule : List ℕ → List ℕ) (n : ℕ) where
    damaged_there : (p : ℕ) (t : Tree) → slice_get (forest rule n).nodes p ≡ Some t → wrong_at t ≡ true → IsDamaged h rule n node p
    damaged_there p (leaf q k) e w = absurd (false≢true w)
    damaged_there p (join q l r) e w =
        let here : q ≡ p = (forest_grown rule n).placed p (join q l r) e in
        let both = both_are q (node (position l)) (node (position r)) w in
        let x = other_is h laws (node q) (h.node q both.0 both.1) both.4 in (
          l,
          r,
          x.0,
          both.0,
          both.1,
          subst (λ z. slice_get (forest rule n).nodes p ≡ Some (join z l r)) here e,
          ap node (sym here)
              ∙ x.1,
          both.2,
          both.3,
          λ same. x.2 (same ∙ ap (λ z. h.node z both.0 both.1) (sym here)),
        )

    wrong_where : (p : ℕ) → IsDamaged h rule n node p → (t : Tree) × (slice_get (forest rule n).nodes p ≡ Some t) × (wrong_at t ≡ true)
    wrong_where p w = (
      join p w.0 w.1,
      w.5,
      ap₂ (wrong_with p) w.7 w.8 ∙ ap (λ o. is_other h.same o (h.node p w.3 w.4)) w.6 ∙ other_from (h.same w.2 (h.node p w.3 w.4)) (laws w.2 (h.node p w.3 w.4)) w.9,
    )

  -- ---- along a list
  none_wrong : (ts : List Tree) → first_wrong h node (flat_map (parent_of node) ts) ≡ None → (i : ℕ) (t : Tree) → slice_get ts i ≡ Some t → wrong_at t ≡ false
  none_wrong [] e i t d = absurd (cc)
  none_wrong (u ∷ ts) e i t d =
      by_test (λ b. wrong_at u ≡ b → cond b (Some (position u)) (first_wrong h node (flat_map (parent_of node) ts)) ≡ None → wrong_at t ≡ false) (wrong_at u)
      (λ _ _ f. absurd (let z : Some (position u) ≡ None = f in cc))
      (λ _ w f. by_place i w (none_wrong ts f) d)
      refl
      (sym (one_more u (flat_map (parent_of node) ts)) ∙ e)
    where
      by_place : (i : ℕ) → wrong_at u ≡ false → ((j : ℕ) (v : Tree) → slice_get ts j ≡ Some v → wrong_at v ≡ false) → slice_get (u ∷ ts) i ≡ Some t → wrong_at t ≡ false
      by_place zero w others d = let z : u ≡ t = cc in subst (λ x. wrong_at x ≡ false) z w
      by_place (suc i) w others d = others i t d

  -- a wrong node at place i of a list, with none before it
  record IsFirstAt (ts : List Tree) (p i : ℕ) (t : Tree) : Type 0 where
    there : slice_get ts i ≡ Some t
    wrong : wrong_at t ≡ true
    place : position t ≡ p
    first : (j : ℕ) (u : Tree) → j < i → slice_get ts j ≡ Some u → wrong_at u ≡ false

  some_wrong : (ts : List Tree) (p : ℕ) → first_wrong h node (flat_map (parent_of node) ts) ≡ Some p → (i : ℕ) × (t : Tree) × IsFirstAt ts p i t
  some_wrong [] p e = absurd (let z : None ≡ Some p = e in cc)
  some_wrong (u ∷ ts) p e =
      by_test (λ b. wrong_at u ≡ b → cond b (Some (position u)) (first_wrong h node (flat_map (parent_of node) ts)) ≡ Some p → (i : ℕ) × (t : Tree) × IsFirstAt (u ∷ ts) p i t) (wrong_at u)
      (λ _ w f. (0, u, record { there = refl; wrong = w; place = (let z : Some (position u) ≡ Some p = f in cc); first = λ j v l. absurd (omega (arith, l)) }))
      (λ _ w f. let k = some_wrong ts p f in (suc k.0, k.1, record { there = k.2.there; wrong = k.2.wrong; place = k.2.place; first = before k.0 k.1 w k.2 }))
      refl
      (sym (one_more u (flat_map (parent_of node) ts)) ∙ e)
    where
      before : (i : ℕ) (t : Tree) → wrong_at u ≡ false → IsFirstAt ts p i t → (j : ℕ) (v : Tree) → j < suc i → slice_get (u ∷ ts) j ≡ Some v → wrong_at v ≡ false
      before i t w k zero v l d = let z : u ≡ v = cc in subst (λ x. wrong_at x ≡ false) z w
      before i t w k (suc j) v l d = k.first j v (omega (arith, l)) d

-- ---- of a structure that holds what is kept
module _ {D : Type 0} (h : Hashing D) (laws : EqDecides h) (rule : List ℕ → List ℕ) (c : Contents D) (n : ℕ) (held : HoldsKept rule c) (sized : size rule n ≡ c.size) where
  -- the place of a damaged node from the boundary's position on
  damaged_at : (p : ℕ) → IsDamaged h rule n c.node p → (t : Tree) × (slice_get (drop (size rule c.boundary) (forest rule n).nodes) (p - size rule c.boundary) ≡ Some t) × (wrong_at h c.node t ≡ true)
  damaged_at p w =
      let t = wrong_where h c.node laws rule n p w in
      let from = damage_from_boundary rule c n held sized h p w in
      let place : size rule c.boundary + (p - size rule c.boundary) ≡ p = omega (arith, from) in
      (t.0, get_drop (size rule c.boundary) (p - size rule c.boundary) (forest rule n).nodes ∙ ap (slice_get (forest rule n).nodes) place ∙ t.1, t.2)

  pub whole_of_none : first_wrong h c.node (parents_from rule n c.node (size rule c.boundary)) ≡ None → IsWhole h rule n c.node
  whole_of_none e p w =
      let t = damaged_at p w in
      absurd (false≢true (sym (none_wrong h c.node (drop (size rule c.boundary) (forest rule n).nodes) e (p - size rule c.boundary) t.0 t.1) ∙ t.2))

  pub first_of_some : (p : ℕ) → first_wrong h c.node (parents_from rule n c.node (size rule c.boundary)) ≡ Some p → IsFirstDamaged h rule n c.node p
  first_of_some p e =
      let start = size rule c.boundary in
      let k = some_wrong h c.node (drop start (forest rule n).nodes) p e in
      let there = sym (get_drop start k.0 (forest rule n).nodes) ∙ k.2.there in
      let place : start + k.0 ≡ p = sym ((forest_grown rule n).placed (start + k.0) k.1 there) ∙ k.2.place in (
        damaged_there h c.node laws rule n p k.1 (subst (λ q. slice_get (forest rule n).nodes q ≡ Some k.1) place there) k.2.wrong,
        λ q l w.
            let t = damaged_at q w in
            let from = damage_from_boundary rule c n held sized h q w in
            absurd (false≢true (sym (k.2.first (q - start) t.0 (omega (arith, l, place, from)) t.1) ∙ t.2)),
      )
