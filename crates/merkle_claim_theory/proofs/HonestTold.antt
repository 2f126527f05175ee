-- Honest multi inputs and honest pinned inputs are accepted.
use Rattle.std.proofs.Common.{◌≡◌, ℕ, Bool, true, cond, ◌||◌, List, [], ◌∷◌, ◌++◌, refl, ap, ap₂, sym, ◌∙◌, length, map, drop, Option, Some, None, IfSome, MatchOption, drop_at, append-nil}
use Rattle.std.proofs.lemmas.List.{length-map}
use Rattle.merkle_root_theory.specs.Expression.{Place, Node, hashed_at, Expression, supplied, computed, cross_checked, value, Holds}
use Rattle.merkle_base.specs.Hashing.{Hashing}
use Rattle.merkle_base.specs.Tree.{Tree, leaf, join}
use Rattle.merkle_root_theory.specs.Plan.{Plan, peak, folding, tree_meets, meets, siblings, outside_parts, path_siblings, tree_digest, plan_digest, honest_digests}
use Rattle.merkle_root_theory.specs.Claim.{next}
use Rattle.merkle_claim_theory.specs.MultiClaim.{also, or_empty, multi_tree, multi_claim}
use Rattle.merkle_claim_theory.specs.PinnedClaim.{pinned_or, pin_tree, pin_plan, outside_tree, outside_plan, pinned_tree, pinned_claim, PinsTree, PinsPlan, PinsAll, PinsTrees}
use Rattle.merkle_claim_theory.specs.Complete.{HonestTree, HonestPlan, HonestMultiAccepted, HonestPinsAccepted}
use Rattle.merkle_base.proofs.Cases.{by_test}
use Rattle.merkle_root_theory.proofs.Claims.{split_left, split_right}

-- what is told holds, and the value is d
Gives : {D : Type 0} → Hashing D → Expression D → D → Type 0
Gives h e d = Holds h e × (value h e ≡ d)

module _ {D : Type 0} (h : Hashing D) where
  given_gives : (x d : D) → x ≡ d → Gives h (supplied x) d
  unfolding Gives
  given_gives x d e = (tt, e)

  also_gives : (o : Option D) (e : Expression D) (d : D) → IfSome o (λ x. x ≡ d) → Gives h e d → Gives h (also o e) d
  unfolding Gives
  also_gives None e d s g = g
  also_gives (Some x) e d s g = ((s ∙ sym g.1, g.0), g.1)

  hashed_gives : (place : Place) (l r : Expression D) (a b : D) → Gives h l a → Gives h r b → Gives h (computed place l r) (hashed_at h place a b)
  unfolding Gives
  hashed_gives place l r a b u v = ((u.0, v.0), ap₂ (hashed_at h place) u.1 v.1)

  module _ (a : ℕ → Option D) (c : ℕ → Bool) (X Y : ℕ → D) (agrees : (i : ℕ) → c i ≡ true → Y i ≡ X i) where
    multi_tree_gives : (t : Tree) → HonestTree h a c X t → Gives h (multi_tree h a c Y t) (tree_digest h X t)
    multi_tree_gives (leaf p i) =
        by_test (λ b. cond b (IfSome (a p) (λ d. d ≡ X i)) (or_empty h (a p) ≡ X i)
        → Gives h (cond b (also (a p) (supplied (Y i))) (supplied (or_empty h (a p)))) (X i)) (c i)
        (λ q s. also_gives (a p) _ _ s (given_gives _ _ (agrees i q))) (λ _ s. given_gives _ _ s)
    multi_tree_gives (join p l r) = let u = multi_tree_gives l in let v = multi_tree_gives r in
        by_test (λ b. cond b (IfSome (a p) (λ d. d ≡ tree_digest h X (join p l r)) × HonestTree h a c X l × HonestTree h a c X r) (or_empty h (a p) ≡ tree_digest h X (join p l r))
        → Gives h (cond b (also (a p) (computed (Node p) (multi_tree h a c Y l) (multi_tree h a c Y r))) (supplied (or_empty h (a p))))
        (tree_digest h X (join p l r))) (tree_meets c l || tree_meets c r)
        (λ _ s. also_gives (a p) _ _ s.0 (hashed_gives (Node p) _ _ _ _ (u s.1) (v s.2))) (λ _ s. given_gives _ _ s)

    multi_gives : (p : Plan) → HonestPlan h a c X p → Gives h (multi_claim h a c Y p) (plan_digest h X p)
    multi_gives (peak t) s = multi_tree_gives t s
    multi_gives (folding place l r) s = hashed_gives place _ _ _ _ (multi_gives l s.0) (multi_gives r s.1)

  module _ (b : ℕ → Option D) (X : ℕ → D) where
    pinned_gives : (o : Option D) (e : Expression D) (d : D) (P : Type 0) → (P → Gives h e d) → MatchOption o P (λ x. x ≡ d) → Gives h (pinned_or o e) d
    pinned_gives None e d P f s = f s
    pinned_gives (Some x) e d P f s = given_gives x d s

    pin_tree_gives : (t : Tree) → PinsTree h b X t → Gives h (pin_tree h b t) (tree_digest h X t)
    pin_tree_gives (leaf p i) s = given_gives _ _ s
    pin_tree_gives (join p l r) s =
        pinned_gives (b p) _ (tree_digest h X (join p l r)) (PinsTree h b X l × PinsTree h b X r)
        (λ z. hashed_gives (Node p) _ _ _ _ (pin_tree_gives l z.0) (pin_tree_gives r z.1)) s

    pin_plan_gives : (p : Plan) → PinsPlan h b X p → Gives h (pin_plan h b p) (plan_digest h X p)
    pin_plan_gives (peak t) s = pin_tree_gives t s
    pin_plan_gives (folding place l r) s = hashed_gives place _ _ _ _ (pin_plan_gives l s.0) (pin_plan_gives r s.1)

    told_gives : (x d : D) (e : Expression D) → x ≡ d → Gives h e d → Gives h (cross_checked x e) d
    unfolding Gives
    told_gives x d e q g = ((q ∙ sym g.1, g.0), g.1)

    outside_tree_gives : (w : ℕ → Bool) (t : Tree) (x : D) → x ≡ tree_digest h X t → (tree_meets w t ≡ true → PinsTree h b X t) → Gives h (outside_tree h b w t x) (tree_digest h X t)
    outside_tree_gives w t x e s = by_test (λ y. Gives h (cond y (cross_checked x (pin_tree h b t)) (supplied x)) (tree_digest h X t)) (tree_meets w t)
        (λ q. told_gives x _ _ e (pin_tree_gives t (s q))) (λ _. given_gives _ _ e)

    outside_plan_gives : (w : ℕ → Bool) (p : Plan) (x : D) → x ≡ plan_digest h X p → (meets w p ≡ true → PinsPlan h b X p) → Gives h (outside_plan h b w p x) (plan_digest h X p)
    outside_plan_gives w p x e s = by_test (λ y. Gives h (cond y (cross_checked x (pin_plan h b p)) (supplied x)) (plan_digest h X p)) (meets w p)
        (λ q. told_gives x _ _ e (pin_plan_gives p (s q))) (λ _. given_gives _ _ e)

    pub trees_left : (w : ℕ → Bool) (xs ys : List Tree) → PinsTrees h b w X (xs ++ ys) → PinsTrees h b w X xs × PinsTrees h b w X ys
    trees_left w [] ys s = (tt, s)
    trees_left w (x ∷ xs) ys s = let z = trees_left w xs ys s.1 in ((s.0, z.0), z.1)

    pub plans_left : (w : ℕ → Bool) (xs ys : List Plan) → PinsAll h b w X (xs ++ ys) → PinsAll h b w X xs × PinsAll h b w X ys
    plans_left w [] ys s = (tt, s)
    plans_left w (x ∷ xs) ys s = let z = plans_left w xs ys s.1 in ((s.0, z.0), z.1)

    module _ (w c : ℕ → Bool) (Y : ℕ → D) (agrees : (i : ℕ) → c i ≡ true → Y i ≡ X i) where
      tree_gives : (t : Tree) (ds rest : List D) → ds ≡ map (tree_digest h X) (siblings c t) ++ rest → PinsTrees h b w X (siblings c t) → Gives h (pinned_tree h b w c Y t ds) (tree_digest h X t)
      tree_gives (leaf p j) ds rest =
          by_test (λ y. ds ≡ map (tree_digest h X) (cond y [] (leaf p j ∷ [])) ++ rest → PinsTrees h b w X (cond y [] (leaf p j ∷ []))
          → Gives h (cond y (supplied (Y j)) (outside_tree h b w (leaf p j) (next h ds))) (X j)) (c j)
          (λ q e s. given_gives _ _ (agrees j q)) (λ o e s. outside_tree_gives w (leaf p j) (next h ds) (ap (next h) e) s.0)
      tree_gives (join p l r) ds rest = let u = tree_gives l ds (map (tree_digest h X) (siblings c r) ++ rest) in let v = tree_gives r (drop (length (siblings c l)) ds) rest in
          by_test (λ y. ds ≡ map (tree_digest h X) (cond y (siblings c l ++ siblings c r) (join p l r ∷ [])) ++ rest → PinsTrees h b w X (cond y (siblings c l ++ siblings c r) (join p l r ∷ []))
          → Gives h (cond y (computed (Node p) (pinned_tree h b w c Y l ds) (pinned_tree h b w c Y r (drop (length (siblings c l)) ds)))
          (outside_tree h b w (join p l r) (next h ds))) (tree_digest h X (join p l r))) (tree_meets c l || tree_meets c r)
          (λ _ e s. let z = trees_left w (siblings c l) (siblings c r) s in
          hashed_gives (Node p) _ _ _ _ (u (split_left _ (siblings c l) (siblings c r) ds rest e) z.0) (v (split_right _ (siblings c l) (siblings c r) ds rest e) z.1))
          (λ _ e s. outside_tree_gives w (join p l r) (next h ds) (ap (next h) e) s.0)

      plan_gives : (p : Plan) (os is ro ri : List D) → os ≡ map (plan_digest h X) (outside_parts c p) ++ ro
          → is ≡ map (tree_digest h X) (path_siblings c p) ++ ri → PinsAll h b w X (outside_parts c p) → PinsTrees h b w X (path_siblings c p)
          → Gives h (pinned_claim h b w c Y p os is) (plan_digest h X p)
      plan_gives (peak t) os is ro ri =
          by_test (λ y. os ≡ map (plan_digest h X) (cond y [] (peak t ∷ [])) ++ ro → is ≡ map (tree_digest h X) (cond y (siblings c t) []) ++ ri
          → PinsAll h b w X (cond y [] (peak t ∷ [])) → PinsTrees h b w X (cond y (siblings c t) [])
          → Gives h (cond y (pinned_tree h b w c Y t is) (outside_plan h b w (peak t) (next h os))) (tree_digest h X t)) (tree_meets c t)
          (λ _ e f s z. tree_gives t is ri f z) (λ _ e f s z. outside_plan_gives w (peak t) (next h os) (ap (next h) e) s.0)
      plan_gives (folding place l r) os is ro ri =
          let u = plan_gives l os is (map (plan_digest h X) (outside_parts c r) ++ ro) (map (tree_digest h X) (path_siblings c r) ++ ri) in
          let v = plan_gives r (drop (length (outside_parts c l)) os) (drop (length (path_siblings c l)) is) ro ri in
          by_test (λ y. os ≡ map (plan_digest h X) (cond y (outside_parts c l ++ outside_parts c r) (folding place l r ∷ [])) ++ ro
          → is ≡ map (tree_digest h X) (cond y (path_siblings c l ++ path_siblings c r) []) ++ ri
          → PinsAll h b w X (cond y (outside_parts c l ++ outside_parts c r) (folding place l r ∷ [])) → PinsTrees h b w X (cond y (path_siblings c l ++ path_siblings c r) [])
          → Gives h (cond y (computed place (pinned_claim h b w c Y l os is)
          (pinned_claim h b w c Y r (drop (length (outside_parts c l)) os) (drop (length (path_siblings c l)) is)))
          (outside_plan h b w (folding place l r) (next h os))) (plan_digest h X (folding place l r))) (meets c l || meets c r)
          (λ _ e f s z. let x = plans_left w (outside_parts c l) (outside_parts c r) s in let y = trees_left w (path_siblings c l) (path_siblings c r) z in hashed_gives place _ _ _ _
          (u (split_left _ (outside_parts c l) (outside_parts c r) os ro e) (split_left _ (path_siblings c l) (path_siblings c r) is ri f) x.0 y.0)
          (v (split_right _ (outside_parts c l) (outside_parts c r) os ro e) (split_right _ (path_siblings c l) (path_siblings c r) is ri f) x.1 y.1))
          (λ _ e f s z. outside_plan_gives w (folding place l r) (next h os) (ap (next h) e) s.0)

pub honest_multi_accepted : {D : Type 0} → HonestMultiAccepted D
unfolding Gives
honest_multi_accepted h a c X Y p agrees s = multi_gives h a c X Y agrees p s

pub honest_pins_accepted : {D : Type 0} → HonestPinsAccepted D
unfolding Gives
honest_pins_accepted h b w c X Y p agrees s z =
    let ds = honest_digests h X c p in
    plan_gives h b X w c Y agrees p ds (drop (length (outside_parts c p)) ds) (map (tree_digest h X) (path_siblings c p)) [] refl
    (drop_at (map (plan_digest h X) (outside_parts c p)) _ (length (outside_parts c p)) (length-map (outside_parts c p) (plan_digest h X)) ∙ sym (append-nil _)) s z
