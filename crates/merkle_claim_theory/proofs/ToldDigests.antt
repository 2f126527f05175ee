-- The claims of the multi-check and of the pinned check.
use Rattle.std.proofs.Common.{◌≡◌, ℕ, Bool, true, false, cond, ◌||◌, ◌+◌, ◌≤◌, List, [], ◌∷◌, ◌++◌, ◌⊎◌, inl, inr, ap, sym, ◌∙◌, subst, ⊎_elim, arith, length}
use Rattle.std.proofs.Common.{map, drop, Option, Some, None, IfSome, MatchOption, length-append, drop_of_length-le, append-nil}
use Rattle.std.proofs.lemmas.List.{length-drop}
use Rattle.std.proofs.lemmas.Bool.{false≢true, or_parts}
use Rattle.merkle_root_theory.specs.Expression.{Node, Expression, supplied, computed, cross_checked, value, Alike, cut_left, both, cross_checked_left, Agree}
use Rattle.merkle_base.specs.Hashing.{Hashing}
use Rattle.merkle_base.specs.Tree.{Tree, leaf, join}
use Rattle.merkle_root_theory.specs.Plan.{Plan, peak, folding, plan_expression, node_expression, tree_meets, meets, siblings, outside_parts, path_siblings, plan_digest, tree_digest}
use Rattle.merkle_root_theory.specs.Claim.{next, InTree, InPlan}
use Rattle.merkle_claim_theory.specs.MultiClaim.{also, or_empty, multi_tree, multi_claim, TellsTree, Tells, SameTree, SameLeaves, MultiClaimSound}
use Rattle.merkle_claim_theory.specs.PinnedClaim.{pinned_or, pin_tree, pin_plan, outside_tree, outside_plan, pinned_tree, pinned_claim, PinsTree, PinsPlan, PinsAll, PinsTrees, PinnedClaimSound}
use Rattle.merkle_root_theory.proofs.Collisions.{main}
use Rattle.merkle_base.proofs.Cases.{by_test}
use Rattle.merkle_root_theory.proofs.Claims.{unmet_tree, unmet, Begins, begins_none, begins_one, begins_both}

module _ {D : Type 0} (h : Hashing D) where
  -- what the proof tells beside an expression
  also_alike : (o : Option D) (e f : Expression D) (a : Alike e f) → (b : Alike (also o e) f) × (Agree h b → Agree h a × IfSome o (λ d. d ≡ value h f))
  also_alike None e f a = (a, λ g. (g, tt))
  also_alike (Some d) e f a = (cross_checked_left d a, λ g. (g.1, g.0))

  -- what is told for a part that is given
  given_told : (o : Option D) (d : D) → or_empty h o ≡ d → IfSome o (λ x. x ≡ d)
  given_told None d e = tt
  given_told (Some x) d e = e

  module _ (a : ℕ → Option D) (c : ℕ → Bool) (X Y : ℕ → D) where
    unmet_same : (t : Tree) → tree_meets c t ≡ false → SameTree c X Y t
    unmet_same (leaf p i) e = λ q. absurd (false≢true (sym e ∙ q))
    unmet_same (join p l r) e = (let w = or_parts (tree_meets c l) (tree_meets c r) e in (unmet_same l w.0, unmet_same r w.1))

    multi_tree_told : (t : Tree) → (k : Alike (multi_tree h a c Y t) (node_expression X t)) × (Agree h k → TellsTree h a c X t × SameTree c X Y t)
    multi_tree_told (leaf p i) = let u = also_alike (a p) (supplied (Y i)) (supplied (X i)) (cut_left _ _) in
        by_test (λ b. (k : Alike (cond b (also (a p) (supplied (Y i))) (supplied (or_empty h (a p)))) (supplied (X i))) × (Agree h k → IfSome (a p) (λ d. d ≡ X i) × (c i ≡ true → Y i ≡ X i))) (c i)
        (λ _. (u.0, λ g. ((u.1 g).1, λ _. (u.1 g).0)))
        (λ o. (cut_left _ _, λ g. (given_told (a p) (X i) g, λ q. absurd (false≢true (sym o ∙ q)))))
    multi_tree_told (join p l r) = let v = multi_tree_told l in let w = multi_tree_told r in
        let u = also_alike (a p) (computed (Node p) (multi_tree h a c Y l) (multi_tree h a c Y r)) (computed (Node p) (node_expression X l) (node_expression X r)) (both (Node p) v.0 w.0) in
        by_test (λ b. (k : Alike (cond b (also (a p) (computed (Node p) (multi_tree h a c Y l) (multi_tree h a c Y r))) (supplied (or_empty h (a p))))
        (computed (Node p) (node_expression X l) (node_expression X r)))
        × (Agree h k → (IfSome (a p) (λ d. d ≡ tree_digest h X (join p l r)) × cond b (TellsTree h a c X l × TellsTree h a c X r) (Unit {0}))
        × (SameTree c X Y l × SameTree c X Y r))) (tree_meets c l || tree_meets c r)
        (λ _. (u.0, λ g. let z = u.1 g in let x = v.1 z.0.0 in let y = w.1 z.0.1 in ((z.1, (x.0, y.0)), (x.1, y.1))))
        (λ o. (cut_left _ _, λ g. ((given_told (a p) (tree_digest h X (join p l r)) g, tt), (let w = or_parts (tree_meets c l) (tree_meets c r) o in (unmet_same l w.0, unmet_same r w.1)))))

    multi_told : (p : Plan) → (k : Alike (multi_claim h a c Y p) (plan_expression X p)) × (Agree h k → Tells h a c X p × SameLeaves c X Y p)
    multi_told (peak t) = multi_tree_told t
    multi_told (folding place l r) = let v = multi_told l in let w = multi_told r in
        (both place v.0 w.0, λ g. let x = v.1 g.0 in let y = w.1 g.1 in ((x.0, y.0), (x.1, y.1)))

pub no_other_multi : {D : Type 0} → MultiClaimSound D
no_other_multi h laws a c X Y p holds same = let u = multi_told h a c X Y p in ⊎_elim (λ g. inl (u.1 g)) inr (main h laws _ _ u.0 holds same)

module _ {D : Type 0} (h : Hashing D) (b : ℕ → Option D) (X : ℕ → D) where
  pinned_alike : (o : Option D) (p : ℕ) (l r l' r' : Expression D) (P : Type 0) (a : Alike l l') (a' : Alike r r') → (Agree h a × Agree h a' → P)
      → (k : Alike (pinned_or o (computed (Node p) l r)) (computed (Node p) l' r')) × (Agree h k → MatchOption o P (λ d. d ≡ value h (computed (Node p) l' r')))
  pinned_alike None p l r l' r' P a a' f = (both (Node p) a a', f)
  pinned_alike (Some d) p l r l' r' P a a' f = (cut_left d _, λ g. g)

  pin_tree_told : (t : Tree) → (k : Alike (pin_tree h b t) (node_expression X t)) × (Agree h k → PinsTree h b X t)
  pin_tree_told (leaf p i) = (cut_left _ _, λ g. g)
  pin_tree_told (join p l r) = let v = pin_tree_told l in let w = pin_tree_told r in
      pinned_alike (b p) p _ _ _ _ (PinsTree h b X l × PinsTree h b X r) v.0 w.0 (λ g. (v.1 g.0, w.1 g.1))

  pin_plan_told : (p : Plan) → (k : Alike (pin_plan h b p) (plan_expression X p)) × (Agree h k → PinsPlan h b X p)
  pin_plan_told (peak t) = pin_tree_told t
  pin_plan_told (folding place l r) = let v = pin_plan_told l in let w = pin_plan_told r in (both place v.0 w.0, λ g. (v.1 g.0, w.1 g.1))

  outside_tree_told : (w : ℕ → Bool) (t : Tree) (d : D) → (k : Alike (outside_tree h b w t d) (node_expression X t))
      × (Agree h k → (d ≡ tree_digest h X t) × (tree_meets w t ≡ true → PinsTree h b X t))
  outside_tree_told w t d = let u = pin_tree_told t in
      by_test (λ y. (k : Alike (cond y (cross_checked d (pin_tree h b t)) (supplied d)) (node_expression X t))
      × (Agree h k → (d ≡ tree_digest h X t) × (tree_meets w t ≡ true → PinsTree h b X t))) (tree_meets w t)
      (λ _. (cross_checked_left d u.0, λ g. (g.0, λ _. u.1 g.1)))
      (λ o. (cut_left _ _, λ g. (g, λ q. absurd (false≢true (sym o ∙ q)))))

  outside_plan_told : (w : ℕ → Bool) (p : Plan) (d : D) → (k : Alike (outside_plan h b w p d) (plan_expression X p)) × (Agree h k → (d ≡ plan_digest h X p) × (meets w p ≡ true → PinsPlan h b X p))
  outside_plan_told w p d = let u = pin_plan_told p in
      by_test (λ y. (k : Alike (cond y (cross_checked d (pin_plan h b p)) (supplied d)) (plan_expression X p))
      × (Agree h k → (d ≡ plan_digest h X p) × (meets w p ≡ true → PinsPlan h b X p))) (meets w p)
      (λ _. (cross_checked_left d u.0, λ g. (g.0, λ _. u.1 g.1)))
      (λ o. (cut_left _ _, λ g. (g, λ q. absurd (false≢true (sym o ∙ q)))))

  pub pins_trees_append : (w : ℕ → Bool) (xs ys : List Tree) → PinsTrees h b w X xs → PinsTrees h b w X ys → PinsTrees h b w X (xs ++ ys)
  pins_trees_append w [] ys u v = v
  pins_trees_append w (x ∷ xs) ys u v = (u.0, pins_trees_append w xs ys u.1 v)

  pub pins_all_append : (w : ℕ → Bool) (xs ys : List Plan) → PinsAll h b w X xs → PinsAll h b w X ys → PinsAll h b w X (xs ++ ys)
  pins_all_append w [] ys u v = v
  pins_all_append w (x ∷ xs) ys u v = (u.0, pins_all_append w xs ys u.1 v)

  module _ (w c : ℕ → Bool) (Y : ℕ → D) where
    pinned_tree_told : (t : Tree) (ds : List D) → (k : Alike (pinned_tree h b w c Y t ds) (node_expression X t))
        × (Agree h k → length (siblings c t) ≤ length ds → Begins (tree_digest h X) (siblings c t) ds × ((i : ℕ) → InTree t i → c i ≡ true → Y i ≡ X i) × PinsTrees h b w X (siblings c t))
    pinned_tree_told (leaf p j) ds = let z = outside_tree_told w (leaf p j) (next h ds) in
        by_test (λ y. (k : Alike (cond y (supplied (Y j)) (outside_tree h b w (leaf p j) (next h ds))) (supplied (X j)))
        × (Agree h k → length (cond y [] (leaf p j ∷ [])) ≤ length ds → Begins (tree_digest h X) (cond y [] (leaf p j ∷ [])) ds
        × ((i : ℕ) → j ≡ i → c i ≡ true → Y i ≡ X i) × PinsTrees h b w X (cond y [] (leaf p j ∷ [])))) (c j)
        (λ _. (cut_left _ _, λ g n. (begins_none _ ds, (λ i e _. subst (λ i. Y i ≡ X i) e g), tt)))
        (λ o. (z.0, λ g n. let v = z.1 g in (begins_one _ (leaf p j) h.empty ds n v.0, (λ i e q. absurd (false≢true (sym o ∙ ap c e ∙ q))), (v.1, tt))))
    pinned_tree_told (join p l r) ds = let u = pinned_tree_told l ds in let v = pinned_tree_told r (drop (length (siblings c l)) ds) in let z = outside_tree_told w (join p l r) (next h ds) in
        by_test (λ y. (k : Alike (cond y (computed (Node p) (pinned_tree h b w c Y l ds) (pinned_tree h b w c Y r (drop (length (siblings c l)) ds)))
        (outside_tree h b w (join p l r) (next h ds))) (computed (Node p) (node_expression X l) (node_expression X r)))
        × (Agree h k → length (cond y (siblings c l ++ siblings c r) (join p l r ∷ [])) ≤ length ds → Begins (tree_digest h X) (cond y (siblings c l ++ siblings c r) (join p l r ∷ [])) ds
        × ((i : ℕ) → InTree l i ⊎ InTree r i → c i ≡ true → Y i ≡ X i) × PinsTrees h b w X (cond y (siblings c l ++ siblings c r) (join p l r ∷ [])))) (tree_meets c l || tree_meets c r)
        (λ _. (
          both (Node p) u.0 v.0,
          λ g n.
              let n' : length (siblings c l) + length (siblings c r) ≤ length ds = rw length-append at n in
              let ul = u.1 g.0 (omega arith) in
              let vr = v.1 g.1 (rw length-drop (omega arith)) in
              (begins_both _ (siblings c l) (siblings c r) ds ul.0 vr.0, (λ i. elim [ inl m ↦ ul.1 i m | inr m ↦ vr.1 i m ]), pins_trees_append w (siblings c l) (siblings c r) ul.2 vr.2),
        ))
        (λ o. (z.0, λ g n. let v = z.1 g in (begins_one _ (join p l r) h.empty ds n v.0, (λ i m q. absurd (unmet_tree c (join p l r) o i m q)), (v.1, tt))))

    pinned_told : (p : Plan) (os is : List D) → (k : Alike (pinned_claim h b w c Y p os is) (plan_expression X p))
        × (Agree h k → length (outside_parts c p) ≤ length os → length (path_siblings c p) ≤ length is
        → Begins (plan_digest h X) (outside_parts c p) os × Begins (tree_digest h X) (path_siblings c p) is
        × ((i : ℕ) → InPlan p i → c i ≡ true → Y i ≡ X i) × PinsAll h b w X (outside_parts c p) × PinsTrees h b w X (path_siblings c p))
    pinned_told (peak t) os is = let u = pinned_tree_told t is in let z = outside_plan_told w (peak t) (next h os) in
        by_test (λ y. (k : Alike (cond y (pinned_tree h b w c Y t is) (outside_plan h b w (peak t) (next h os))) (node_expression X t))
        × (Agree h k → length (cond y [] (peak t ∷ [])) ≤ length os → length (cond y (siblings c t) []) ≤ length is
        → Begins (plan_digest h X) (cond y [] (peak t ∷ [])) os × Begins (tree_digest h X) (cond y (siblings c t) []) is
        × ((i : ℕ) → InTree t i → c i ≡ true → Y i ≡ X i) × PinsAll h b w X (cond y [] (peak t ∷ []))
        × PinsTrees h b w X (cond y (siblings c t) []))) (tree_meets c t)
        (λ _. (u.0, λ g n m. let x = u.1 g m in (begins_none _ os, x.0, x.1, tt, x.2)))
        (λ o. (z.0, λ g n m. let v = z.1 g in (begins_one _ (peak t) h.empty os n v.0, begins_none _ is, (λ i m q. absurd (unmet_tree c t o i m q)), (v.1, tt), tt)))
    pinned_told (folding place l r) os is = let u = pinned_told l os is in let v =
        pinned_told r (drop (length (outside_parts c l)) os) (drop (length (path_siblings c l)) is) in let z = outside_plan_told w (folding place l r) (next h os) in
        by_test (λ y. (k : Alike (cond y
        (computed place (pinned_claim h b w c Y l os is)
        (pinned_claim h b w c Y r (drop (length (outside_parts c l)) os) (drop (length (path_siblings c l)) is)))
        (outside_plan h b w (folding place l r) (next h os))) (computed place (plan_expression X l) (plan_expression X r)))
        × (Agree h k → length (cond y (outside_parts c l ++ outside_parts c r) (folding place l r ∷ [])) ≤ length os → length (cond y (path_siblings c l ++ path_siblings c r) []) ≤ length is
        → Begins (plan_digest h X) (cond y (outside_parts c l ++ outside_parts c r) (folding place l r ∷ [])) os
        × Begins (tree_digest h X) (cond y (path_siblings c l ++ path_siblings c r) []) is × ((i : ℕ) → InPlan l i ⊎ InPlan r i → c i ≡ true → Y i ≡ X i)
        × PinsAll h b w X (cond y (outside_parts c l ++ outside_parts c r) (folding place l r ∷ [])) × PinsTrees h b w X (cond y (path_siblings c l ++ path_siblings c r) []))) (meets c l || meets c r)
        (λ _. (
          both place u.0 v.0,
          λ g n m.
              let n' : length (outside_parts c l) + length (outside_parts c r) ≤ length os = rw length-append at n in
              let m' : length (path_siblings c l) + length (path_siblings c r) ≤ length is = rw length-append at m in
              let ul = u.1 g.0 (omega arith) (omega arith) in
              let vr = v.1 g.1 (rw length-drop (omega arith)) (rw length-drop (omega arith)) in (
                begins_both _ (outside_parts c l) (outside_parts c r) os ul.0 vr.0,
                begins_both _ (path_siblings c l) (path_siblings c r) is ul.1 vr.1,
                (λ i. elim [ inl m ↦ ul.2 i m | inr m ↦ vr.2 i m ]),
                pins_all_append w (outside_parts c l) (outside_parts c r) ul.3 vr.3,
                pins_trees_append w (path_siblings c l) (path_siblings c r) ul.4 vr.4,
              ),
        ))
        (λ o. (z.0, λ g n m. let v = z.1 g in (begins_one _ (folding place l r) h.empty os n v.0, begins_none _ is, (λ i m q. absurd (unmet c (folding place l r) o i m q)), (v.1, tt), tt)))

pub no_other_pins : {D : Type 0} → PinnedClaimSound D
unfolding Begins
no_other_pins h laws b w c X Y p ds long holds same =
    let is = drop (length (outside_parts c p)) ds in
    let u = pinned_told h b X w c Y p ds is in
    let n : length (path_siblings c p) ≤ length is = rw length-drop (omega arith) in
    let most : length is ≤ length (path_siblings c p) = rw length-drop (omega arith) in
    let none_left : drop (length (path_siblings c p)) is ≡ [] = drop_of_length-le is most in
    ⊎_elim (λ g. let x = u.1 g (omega arith) n in
    inl (
      x.0 ∙ ap (λ t. map (plan_digest h X) (outside_parts c p) ++ t)
          (x.1 ∙ ap (λ t. map (tree_digest h X) (path_siblings c p) ++ t) none_left ∙ append-nil _),
      x.2,
      x.3,
      x.4,
    ))
    inr (main h laws _ _ u.0 holds same)
