-- An honest pinned input has no collision.
use Rattle.std.proofs.Common.{◌≡◌, ℕ, Bool, true, cond, ◌||◌, ◌≤◌, ◌<◌, List, [], ◌∷◌, ◌++◌, ap, ap₂, sym, ◌∙◌, subst, arith, length, map, drop, Option, Some, None, MatchOption, drop_at, append-nil}
use Rattle.std.proofs.lemmas.List.{length-map}
use Rattle.merkle_base.specs.Tree.{Tree, leaf, join}
use Rattle.merkle_root_theory.specs.Expression.{Node, Expression, supplied, computed, cross_checked, value}
use Rattle.merkle_base.specs.Hashing.{Hashing}
use Rattle.merkle_root_theory.specs.Plan.{Plan, peak, folding, plan_expression, node_expression, tree_meets, meets, siblings, outside_parts, path_siblings, tree_digest, plan_digest, honest_digests}
use Rattle.merkle_root_theory.specs.Claim.{next}
use Rattle.merkle_claim_theory.specs.PinnedClaim.{pinned_or, pin_tree, pin_plan, outside_tree, outside_plan, pinned_tree, pinned_claim, PinsTree, PinsPlan, PinsAll, PinsTrees}
use Rattle.merkle_root_theory.specs.Outside.{HasLayout}
use Rattle.merkle_root_theory.specs.Check.{in_range, chosen, leaf_given}
use Rattle.merkle_base.specs.Places.{peaks_of}
use Rattle.merkle_root_theory.specs.Range.{end_of, range_parts, range_siblings, leaf_of}
use Rattle.merkle_base.specs.Table.{digest_for}
use Rattle.merkle_claim_theory.specs.Pinned.{pin_positions, pinned_on}
use Rattle.merkle_claim_theory.specs.Verdict.{HonestPinnedHasNoCollision}
use Rattle.merkle_claim_theory.proofs.HonestClaims.{IncludedIn, given_within, hashed_within}
use Rattle.merkle_base.proofs.Cases.{by_test}
use Rattle.merkle_root_theory.proofs.Claims.{split_left, split_right}
use Rattle.merkle_claim_theory.proofs.HonestTold.{trees_left, plans_left}
use Rattle.merkle_root_theory.proofs.PeakGroups.{range_layout}
use Rattle.merkle_root_theory.proofs.RangeChecks.{honest_leaves}
use Rattle.merkle_root_theory.proofs.RangeDigests.{range_digests_are}
use Rattle.merkle_claim_theory.proofs.ListedDigests.{plan_for}
use Rattle.merkle_claim_theory.proofs.PinnedChecks.{pins_rebuild, honest_pins_are}
use Rattle.merkle_audit_theory.proofs.MultiNoCollision.{clear_of}

module _ {D : Type 0} (h : Hashing D) (b : ℕ → Option D) (X : ℕ → D) where
  told_within : (x : D) (e f : Expression D) → IncludedIn h e f → IncludedIn h (cross_checked x e) f
  unfolding IncludedIn
  told_within x e f w = w

  pinned_within : (o : Option D) (e f : Expression D) (P : Type 0) → (P → IncludedIn h e f) → MatchOption o P (λ x. x ≡ value h f) → IncludedIn h (pinned_or o e) f
  pinned_within None e f P g s = g s
  pinned_within (Some x) e f P g s = given_within h x f s

  pin_tree_in : (t : Tree) → PinsTree h b X t → IncludedIn h (pin_tree h b t) (node_expression X t)
  pin_tree_in (leaf p i) s = given_within h _ _ s
  pin_tree_in (join p l r) s = pinned_within (b p) _ (node_expression X (join p l r)) (PinsTree h b X l × PinsTree h b X r)
      (λ z. hashed_within h (Node p) _ _ _ _ (pin_tree_in l z.0) (pin_tree_in r z.1)) s

  pin_plan_in : (p : Plan) → PinsPlan h b X p → IncludedIn h (pin_plan h b p) (plan_expression X p)
  pin_plan_in (peak t) s = pin_tree_in t s
  pin_plan_in (folding place l r) s = hashed_within h place _ _ _ _ (pin_plan_in l s.0) (pin_plan_in r s.1)

  outside_tree_in : (w : ℕ → Bool) (t : Tree) (x : D) → x ≡ tree_digest h X t → (tree_meets w t ≡ true → PinsTree h b X t) → IncludedIn h (outside_tree h b w t x) (node_expression X t)
  outside_tree_in w t x e s = by_test (λ y. IncludedIn h (cond y (cross_checked x (pin_tree h b t)) (supplied x)) (node_expression X t)) (tree_meets w t)
      (λ q. told_within x _ _ (pin_tree_in t (s q))) (λ _. given_within h _ _ e)

  outside_plan_in : (w : ℕ → Bool) (p : Plan) (x : D) → x ≡ plan_digest h X p → (meets w p ≡ true → PinsPlan h b X p) → IncludedIn h (outside_plan h b w p x) (plan_expression X p)
  outside_plan_in w p x e s = by_test (λ y. IncludedIn h (cond y (cross_checked x (pin_plan h b p)) (supplied x)) (plan_expression X p)) (meets w p)
      (λ q. told_within x _ _ (pin_plan_in p (s q))) (λ _. given_within h _ _ e)

  module _ (w c : ℕ → Bool) (Y : ℕ → D) (agrees : (i : ℕ) → c i ≡ true → Y i ≡ X i) where
    tree_in : (t : Tree) (ds rest : List D) → ds ≡ map (tree_digest h X) (siblings c t) ++ rest → PinsTrees h b w X (siblings c t) → IncludedIn h (pinned_tree h b w c Y t ds) (node_expression X t)
    tree_in (leaf p j) ds rest = by_test
        (λ y. ds ≡ map (tree_digest h X) (cond y [] (leaf p j ∷ [])) ++ rest → PinsTrees h b w X (cond y [] (leaf p j ∷ []))
        → IncludedIn h (cond y (supplied (Y j)) (outside_tree h b w (leaf p j) (next h ds))) (supplied (X j))) (c j)
        (λ q e s. given_within h _ _ (agrees j q)) (λ o e s. outside_tree_in w (leaf p j) (next h ds) (ap (next h) e) s.0)
    tree_in (join p l r) ds rest = let u = tree_in l ds (map (tree_digest h X) (siblings c r) ++ rest) in let v = tree_in r (drop (length (siblings c l)) ds) rest in
        by_test (λ y. ds ≡ map (tree_digest h X) (cond y (siblings c l ++ siblings c r) (join p l r ∷ [])) ++ rest → PinsTrees h b w X (cond y (siblings c l ++ siblings c r) (join p l r ∷ []))
        → IncludedIn h (cond y (computed (Node p) (pinned_tree h b w c Y l ds) (pinned_tree h b w c Y r (drop (length (siblings c l)) ds)))
        (outside_tree h b w (join p l r) (next h ds))) (computed (Node p) (node_expression X l) (node_expression X r))) (tree_meets c l || tree_meets c r)
        (λ _ e s. let z = trees_left h b X w (siblings c l) (siblings c r) s in
        hashed_within h (Node p) _ _ _ _ (u (split_left _ (siblings c l) (siblings c r) ds rest e) z.0) (v (split_right _ (siblings c l) (siblings c r) ds rest e) z.1))
        (λ _ e s. outside_tree_in w (join p l r) (next h ds) (ap (next h) e) s.0)

    pub pins_in : (p : Plan) (os is ro ri : List D) → os ≡ map (plan_digest h X) (outside_parts c p) ++ ro
        → is ≡ map (tree_digest h X) (path_siblings c p) ++ ri → PinsAll h b w X (outside_parts c p) → PinsTrees h b w X (path_siblings c p)
        → IncludedIn h (pinned_claim h b w c Y p os is) (plan_expression X p)
    pins_in (peak t) os is ro ri =
        by_test (λ y. os ≡ map (plan_digest h X) (cond y [] (peak t ∷ [])) ++ ro → is ≡ map (tree_digest h X) (cond y (siblings c t) []) ++ ri
        → PinsAll h b w X (cond y [] (peak t ∷ [])) → PinsTrees h b w X (cond y (siblings c t) [])
        → IncludedIn h (cond y (pinned_tree h b w c Y t is) (outside_plan h b w (peak t) (next h os))) (node_expression X t)) (tree_meets c t)
        (λ _ e f s z. tree_in t is ri f z) (λ _ e f s z. outside_plan_in w (peak t) (next h os) (ap (next h) e) s.0)
    pins_in (folding place l r) os is ro ri =
        let u = pins_in l os is (map (plan_digest h X) (outside_parts c r) ++ ro) (map (tree_digest h X) (path_siblings c r) ++ ri) in
        let v = pins_in r (drop (length (outside_parts c l)) os) (drop (length (path_siblings c l)) is) ro ri in
        by_test (λ y. os ≡ map (plan_digest h X) (cond y (outside_parts c l ++ outside_parts c r) (folding place l r ∷ [])) ++ ro
        → is ≡ map (tree_digest h X) (cond y (path_siblings c l ++ path_siblings c r) []) ++ ri
        → PinsAll h b w X (cond y (outside_parts c l ++ outside_parts c r) (folding place l r ∷ [])) → PinsTrees h b w X (cond y (path_siblings c l ++ path_siblings c r) [])
        → IncludedIn h (cond y (computed place (pinned_claim h b w c Y l os is)
        (pinned_claim h b w c Y r (drop (length (outside_parts c l)) os) (drop (length (path_siblings c l)) is)))
        (outside_plan h b w (folding place l r) (next h os))) (computed place (plan_expression X l) (plan_expression X r))) (meets c l || meets c r)
        (λ _ e f s z. let x = plans_left h b X w (outside_parts c l) (outside_parts c r) s in let y = trees_left h b X w (path_siblings c l) (path_siblings c r) z in hashed_within h place _ _ _ _
        (u (split_left _ (outside_parts c l) (outside_parts c r) os ro e) (split_left _ (path_siblings c l) (path_siblings c r) is ri f) x.0 y.0)
        (v (split_right _ (outside_parts c l) (outside_parts c r) os ro e) (split_right _ (path_siblings c l) (path_siblings c r) is ri f) x.1 y.1))
        (λ _ e f s z. outside_plan_in w (folding place l r) (next h os) (ap (next h) e) s.0)

pub honest_pinned_has_no_collision : {D : Type 0} → HonestPinnedHasNoCollision D
honest_pinned_has_no_collision s laws xs k r pins w q =
    let Z = leaf_of s.hashing xs in
    let bb = digest_for (pin_positions s r.start) pins in
    let within : end_of r ≤ r.leaves = omega (arith, w.within, w.leaves) in
    let more : r.start < end_of r = omega (arith, w.nonempty) in
    let p = plan_for s r.leaves r.inactive (omega (arith, within, more)) in
    let lay = subst (HasLayout (chosen r) (range_parts s.bagging r.inactive r.start (end_of r) (peaks_of s.rule r.leaves))
    (range_siblings r.start (end_of r) (peaks_of s.rule r.leaves))) p.1 (range_layout s r.leaves r.inactive r.start (end_of r) more within) in
    let ds : r.digests ≡ honest_digests s.hashing Z (chosen r) p.0 = w.digests ∙ range_digests_are s xs k r.start (end_of r)
    ∙ ap₂ (λ x y. map (plan_digest s.hashing Z) (range_parts s.bagging x r.start (end_of r) (peaks_of s.rule y))
    ++ map (tree_digest s.hashing Z) (range_siblings r.start (end_of r) (peaks_of s.rule y))) (sym w.inactive) (sym w.leaves)
    ∙ sym (ap₂ (λ x y. map (plan_digest s.hashing Z) x ++ map (tree_digest s.hashing Z) y) lay.0 lay.1) in
    let z = pins_rebuild s r.leaves r.start (end_of r) (omega (arith, within)) more Z s.bagging r.inactive pins within (q ∙ honest_pins_are s xs r.start (omega (arith, w.within))) in
    clear_of s laws Z (pinned_on s r pins) r.leaves (length xs) r.inactive k w.leaves w.inactive p.0 p.1
    (pins_in s.hashing bb Z (in_range 0 r.start) (chosen r) (leaf_given s.hashing r) (honest_leaves s xs k r w) p.0 r.digests
    (drop (length (outside_parts (chosen r) p.0)) r.digests) (map (tree_digest s.hashing Z) (path_siblings (chosen r) p.0)) [] ds
    (ap (drop (length (outside_parts (chosen r) p.0))) ds
    ∙ drop_at (map (plan_digest s.hashing Z) (outside_parts (chosen r) p.0)) _ (length (outside_parts (chosen r) p.0))
    (length-map (outside_parts (chosen r) p.0) (plan_digest s.hashing Z)) ∙ sym (append-nil _))
    (subst (PinsAll s.hashing bb (in_range 0 r.start) Z) (sym lay.0) z.0) (subst (PinsTrees s.hashing bb (in_range 0 r.start) Z) (sym lay.1) z.1))
