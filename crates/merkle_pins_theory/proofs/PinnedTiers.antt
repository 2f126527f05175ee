-- A check of a range with pins hashes nodes alone under the peaks, each at a place of its tree.
use Rattle.std.proofs.Common.{◌≡◌, ℕ, Bool, not, cond, ◌||◌, List, [], ◌∷◌, ◌++◌, refl, ap, ap₂, ◌∙◌, subst, length, flat_map, drop, Option, Some, None}
use Rattle.merkle_base.specs.Hashing.{Hashing}
use Rattle.merkle_base.specs.Tree.{Tree, leaf, join}
use Rattle.merkle_base.proofs.Cases.{by_test}
use Rattle.merkle_root_theory.specs.Expression.{Place, Node, Input, Expression, supplied, computed, cross_checked, visited}
use Rattle.merkle_root_theory.specs.Claim.{next}
use Rattle.merkle_root_theory.specs.Collision.{Member}
use Rattle.merkle_root_theory.specs.Plan.{node_expression, tree_meets, siblings}
use Rattle.merkle_claim_theory.specs.Order.{node_places}
use Rattle.merkle_claim_theory.specs.PinnedClaim.{pinned_or, pin_tree, outside_tree, pinned_tree}
use Rattle.merkle_audit_theory.specs.Cuts.{IsCutOf, IsSublist, places_in}
use Rattle.merkle_pins_theory.specs.PinnedFolds.{pinned_over_inputs}
use Rattle.merkle_audit_theory.specs.Tiers.{AreOfTier}
use Rattle.merkle_audit_theory.proofs.ClaimCuts.{pin_tree_cut, pinned_tree_cut, seen_both, cut_seen}
use Rattle.merkle_pins_theory.proofs.ExpressionFolds.{AreNodes, folds_of, nodes_of}
use Rattle.merkle_audit_theory.proofs.SublistFacts.{sub_member}
use Rattle.merkle_audit_theory.proofs.TieredInputs.{tiers_joined, node_of}

module _ {D : Type 0} (h : Hashing D) where
  pub only_nodes : (xs : List (Input D)) → AreOfTier 2 xs → AreNodes h xs
  only_nodes [] a = (refl, refl)
  only_nodes (x ∷ xs) a =
      let q = node_of x.place a.0 in
      let w = only_nodes xs a.1 in (
        ap (λ b. cond (not b) (x ∷ folds_of h xs) (folds_of h xs)) q ∙ w.0,
        ap (λ b. cond b (x ∷ nodes_of h xs) (nodes_of h xs)) q ∙ ap (λ z. x ∷ z) w.1,
      )

  -- the places of a tree's nodes
  seen_tree : (X : ℕ → D) (t : Tree) → places_in (visited h (node_expression X t)) ≡ node_places t
  seen_tree X (leaf p i) = refl
  seen_tree X (join p l r) = ap (λ z. Node p ∷ z) (seen_both h (node_expression X l) (node_expression X r) ∙ ap₂ ◌++◌ (seen_tree X l) (seen_tree X r))

  inside_tree : (X : ℕ → D) (t : Tree) (e : Expression D) → IsCutOf e (node_expression X t) → (p : Place) → Member (places_in (visited h e)) p → Member (node_places t) p
  inside_tree X t e cut p m = sub_member (subst (IsSublist (places_in (visited h e))) (seen_tree X t) (cut_seen h e (node_expression X t) cut)) p m

  module _ (b : ℕ → Option D) where
    or_tier : (o : Option D) (e : Expression D) → AreOfTier 2 (visited h e) → AreOfTier 2 (visited h (pinned_or o e))
    or_tier None e a = a
    or_tier (Some d) e a = tt

    pub pin_tier : (t : Tree) → AreOfTier 2 (visited h (pin_tree h b t))
    pin_tier (leaf p i) = tt
    pin_tier (join p l r) = or_tier (b p) (computed (Node p) (pin_tree h b l) (pin_tree h b r))
        (refl, tiers_joined 2 (visited h (pin_tree h b l)) (visited h (pin_tree h b r)) (pin_tier l) (pin_tier r))

    pub pins_tier : (ts : List Tree) → AreOfTier 2 (flat_map (λ t. visited h (pin_tree h b t)) ts)
    pins_tier [] = tt
    pins_tier (t ∷ ts) = tiers_joined 2 (visited h (pin_tree h b t)) (flat_map (λ t. visited h (pin_tree h b t)) ts) (pin_tier t) (pins_tier ts)

    pub inside_pin : (t : Tree) (p : Place) → Member (places_in (visited h (pin_tree h b t))) p → Member (node_places t) p
    inside_pin t p m = let X = λ (i : ℕ). h.empty in inside_tree X t (pin_tree h b t) (pin_tree_cut h X b t) p m

    module _ (w c : ℕ → Bool) (X : ℕ → D) where
      outside_tier : (t : Tree) (d : D) → AreOfTier 2 (visited h (outside_tree h b w t d))
      outside_tier t d = by_test (λ y. AreOfTier 2 (visited h (cond y (cross_checked d (pin_tree h b t)) (supplied d)))) (tree_meets w t) (λ _. pin_tier t) (λ _. tt)

      pub pinned_tier : (t : Tree) (ds : List D) → AreOfTier 2 (visited h (pinned_tree h b w c X t ds))
      pinned_tier (leaf p i) ds = by_test (λ y. AreOfTier 2 (visited h (cond y (supplied (X i)) (outside_tree h b w (leaf p i) (next h ds))))) (c i)
          (λ _. tt) (λ _. outside_tier (leaf p i) (next h ds))
      pinned_tier (join p l r) ds =
          let es = drop (length (siblings c l)) ds in
          let u = pinned_tier l ds in
          let v = pinned_tier r es in
          by_test (λ y. AreOfTier 2 (visited h
          (cond y (computed (Node p) (pinned_tree h b w c X l ds) (pinned_tree h b w c X r es)) (outside_tree h b w (join p l r) (next h ds)))))
          (tree_meets c l || tree_meets c r)
          (λ _. (refl, tiers_joined 2 (visited h (pinned_tree h b w c X l ds)) (visited h (pinned_tree h b w c X r es)) u v)) (λ _. outside_tier (join p l r) (next h ds))

      pub pinned_over_tier : (ts : List Tree) (ds : List D) → AreOfTier 2 (pinned_over_inputs h b w c X ts ds)
      pinned_over_tier [] ds = tt
      pinned_over_tier (t ∷ ts) ds =
          tiers_joined 2 (visited h (pinned_tree h b w c X t ds)) (pinned_over_inputs h b w c X ts (drop (length (siblings c t)) ds))
          (pinned_tier t ds) (pinned_over_tier ts (drop (length (siblings c t)) ds))

      pub inside_pinned : (t : Tree) (ds : List D) (p : Place) → Member (places_in (visited h (pinned_tree h b w c X t ds))) p → Member (node_places t) p
      inside_pinned t ds p m = inside_tree X t (pinned_tree h b w c X t ds) (pinned_tree_cut h X b w c X t ds) p m
