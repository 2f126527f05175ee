-- Where the digests taken as they are held are a list's, so are all that are held.
use Rattle.std.proofs.Common.{◌≡◌, ℕ, ◌≤◌, ◌⊎◌, true, false, cond, List, Some, refl, sym, ap, ap₂, inl, inr, ◌∙◌, subst}
use Rattle.std.specs.Prelude.{is_some, ◌&&◌}
use Rattle.std.proofs.lemmas.Bool.{and_parts, false≢true}
use Rattle.merkle_base.specs.Tree.{Tree, leaf, join, position, IsUnder, IsBuilt}
use Rattle.merkle_base.specs.Forest.{forest, size}
use Rattle.merkle_base.specs.Hashing.{Hashing, EqDecides}
use Rattle.merkle_base.proofs.Cases.{by_test}
use Rattle.merkle_root_theory.specs.Expression.{Node, supplied, computed, Alike, cut_left, both, Agree}
use Rattle.merkle_root_theory.specs.Plan.{Plan, peak, folding, plan_expression, node_expression, tree_digest}
use Rattle.merkle_claim_theory.specs.MultiClaim.{or_empty}
use Rattle.merkle_claim_theory.proofs.ListedDigests.{EachPeak}
use Rattle.merkle_batch_theory.specs.Contents.{Contents, HoldsKept}
use Rattle.merkle_restore_theory.specs.Damage.{IsWhole}
use Rattle.merkle_restore_theory.specs.HeldRoot.{held_tree, held_plan}
use Rattle.merkle_restore_theory.proofs.HeldBelow.{under_self, from_boundary, children_there}
use Rattle.merkle_restore_theory.proofs.HeldValues.{some_of, made_of_children}

-- what is held of a tree is as the list has it
abbrev pub IsTold : {D : Type 0} → Hashing D → Contents D → (ℕ → D) → Tree → Type 0
IsTold {D} h c X t = (u : Tree) → IsUnder u t → (d : D) → c.node (position u) ≡ Some d → d ≡ tree_digest h X u

module _ {D : Type 0} (h : Hashing D) (laws : EqDecides h) (rule : List ℕ → List ℕ) (c : Contents D) (n : ℕ) (held : HoldsKept rule c) (within : c.boundary ≤ n) (sized : size rule n ≡ c.size)
    (whole : IsWhole h rule n c.node) (X : ℕ → D) where
  -- with a held node under it, a merged node has both children held
  both_there : (p : ℕ) (l r u : Tree) → IsBuilt (forest rule n).nodes (join p l r) → IsUnder u l ⊎ IsUnder u r → is_some (c.node (position u)) ≡ true
      → is_some (c.node (position l)) && is_some (c.node (position r)) ≡ true
  both_there p l r u built below e =
      let w = children_there rule c n held sized within p (join p l r) built.0 (from_boundary rule c n held sized p l r u built.0 below e) in
      ap₂ (λ x y. x && y) w.0 w.1

  joined : (p : ℕ) (l r : Tree) → IsBuilt (forest rule n).nodes (join p l r) → is_some (c.node (position l)) && is_some (c.node (position r)) ≡ true
      → IsTold h c X l → IsTold h c X r → IsTold h c X (join p l r)
  joined p l r built there x y u under d e = elim under [
    | inl same ↦ subst (λ v. c.node (position v) ≡ Some d → d ≡ tree_digest h X v) (sym same) (λ f.
        let w = and_parts (is_some (c.node (position l))) (is_some (c.node (position r))) there in
        let a = some_of (c.node (position l)) w.0 in
        let b = some_of (c.node (position r)) w.1 in
        made_of_children h c.node laws rule n whole p l r d a.0 b.0 built.0 f a.1 b.1 ∙ ap₂ (h.node p) (x l (under_self l) a.0 a.1) (y r (under_self r) b.0 b.1)) e
    | inr below ↦ elim below [ inl v ↦ x u v d e | inr v ↦ y u v d e ]
  ]

  taken : (p : ℕ) (l r : Tree) → IsBuilt (forest rule n).nodes (join p l r) → is_some (c.node (position l)) && is_some (c.node (position r)) ≡ false
      → or_empty h (c.node p) ≡ tree_digest h X (join p l r) → IsTold h c X (join p l r)
  taken p l r built apart g u under d e = elim under [
    | inl same ↦ subst (λ v. c.node (position v) ≡ Some d → d ≡ tree_digest h X v) (sym same) (λ f. sym (ap (or_empty h) f) ∙ g) e
    | inr below ↦ absurd (false≢true (sym apart ∙ both_there p l r u built below (ap is_some e)))
  ]

  tree_told : (t : Tree) → IsBuilt (forest rule n).nodes t → (a : Alike (held_tree h c.node t) (node_expression X t)) × (Agree h a → IsTold h c X t)
  tree_told (leaf p k) built = (
    cut_left (or_empty h (c.node p)) (supplied (X k)),
    λ g u same d e. subst (λ v. c.node (position v) ≡ Some d → d ≡ tree_digest h X v) (sym same) (λ f. sym (ap (or_empty h) f) ∙ g) e,
  )
  tree_told (join p l r) built =
      let u = tree_told l built.4 in
      let v = tree_told r built.5 in
      by_test (λ y. is_some (c.node (position l)) && is_some (c.node (position r)) ≡ y
      → (a : Alike (cond y (computed (Node p) (held_tree h c.node l) (held_tree h c.node r)) (supplied (or_empty h (c.node p))))
      (computed (Node p) (node_expression X l) (node_expression X r))) × (Agree h a → IsTold h c X (join p l r)))
      (is_some (c.node (position l)) && is_some (c.node (position r)))
      (λ _ there. (both (Node p) u.0 v.0, λ g. joined p l r built there (u.1 g.0) (v.1 g.1)))
      (λ _ apart. (cut_left (or_empty h (c.node p)) (computed (Node p) (node_expression X l) (node_expression X r)), λ g. taken p l r built apart g))
      refl

  -- the expression of what is held is like the list's; where they agree, what is held of each peak is the list's
  pub plan_told : (p : Plan) → EachPeak (IsBuilt (forest rule n).nodes) p → (a : Alike (held_plan h c.node p) (plan_expression X p)) × (Agree h a → EachPeak (IsTold h c X) p)
  plan_told (peak t) built = tree_told t built
  plan_told (folding place l r) built =
      let u = plan_told l built.0 in
      let v = plan_told r built.1 in
      (both place u.0 v.0, λ g. (u.1 g.0, v.1 g.1))
