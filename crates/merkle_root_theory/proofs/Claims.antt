-- The claim of a range check is like the list's expression; with an honest proof it has the list's value.
use Rattle.std.proofs.Common.{◌≡◌, ℕ, Bool, true, false, cond, ◌||◌, ◌+◌, ◌≤◌, List, [], ◌∷◌, ◌++◌, ◌⊎◌, inl, inr, refl, ap, ap₂, sym, ◌∙◌, subst, ⊎_elim}
use Rattle.std.proofs.Common.{arith, length, map, drop, get_or, length-append, drop_at, drop-drop, append_assoc, append-nil, drop_of_length-le}
use Rattle.std.proofs.lemmas.List.{length-map, map-append, length-drop}
use Rattle.std.proofs.lemmas.Bool.{false≢true, or_parts}
use Rattle.merkle_root_theory.specs.Expression.{Node, hashed_at, supplied, computed, value, Holds, Alike, cut_left, cut_right, both, Agree}
use Rattle.merkle_base.specs.Hashing.{Hashing}
use Rattle.merkle_base.specs.Tree.{Tree, leaf, join}
use Rattle.merkle_base.proofs.Cases.{by_test}
use Rattle.merkle_root_theory.specs.Plan.{Plan, peak, folding, plan_expression, node_expression, tree_meets, meets, siblings, outside_parts, path_siblings, plan_digest, tree_digest, honest_digests}
use Rattle.merkle_root_theory.specs.Claim.{next, tree_claim, claim, HonestAccepted, InTree, InPlan, ClaimSound, PairAgrees}
use Rattle.merkle_root_theory.proofs.Collisions.{main}

-- where a tree or a plan isn't met no location of it is chosen
pub unmet_tree : (c : ℕ → Bool) (t : Tree) → tree_meets c t ≡ false → (i : ℕ) → InTree t i → c i ≡ true → ⊥
unmet_tree c (leaf p j) e i m q = false≢true (sym e ∙ ap c m ∙ q)
unmet_tree c (join p l r) e i (inl m) q = unmet_tree c l (or_parts (tree_meets c l) (tree_meets c r) e).0 i m q
unmet_tree c (join p l r) e i (inr m) q = unmet_tree c r (or_parts (tree_meets c l) (tree_meets c r) e).1 i m q

pub unmet : (c : ℕ → Bool) (p : Plan) → meets c p ≡ false → (i : ℕ) → InPlan p i → c i ≡ true → ⊥
unmet c (peak t) e i m q = unmet_tree c t e i m q
unmet c (folding place l r) e i (inl m) q = unmet c l (or_parts (meets c l) (meets c r) e).0 i m q
unmet c (folding place l r) e i (inr m) q = unmet c r (or_parts (meets c l) (meets c r) e).1 i m q

-- a list begins with what its parts' digests are
unfoldable pub Begins : {A D : Type 0} → (A → D) → List A → List D → Type 0
Begins f us ds = ds ≡ map f us ++ drop (length us) ds

pub begins_none : {A D : Type 0} (f : A → D) (ds : List D) → Begins f [] ds
unfolding Begins
begins_none f ds = refl

pub begins_one : {A D : Type 0} (f : A → D) (a : A) (e : D) (ds : List D) → 1 ≤ length ds → get_or ds 0 e ≡ f a → Begins f (a ∷ []) ds
unfolding Begins
begins_one f a e [] n q = absurd (omega arith)
begins_one f a e (d ∷ ds) n q = ap (λ x. x ∷ ds) q

pub begins_both : {A D : Type 0} (f : A → D) (us vs : List A) (ds : List D) → Begins f us ds → Begins f vs (drop (length us) ds) → Begins f (us ++ vs) ds
unfolding Begins
begins_both f us vs ds p q =
    p ∙ ap (λ t. map f us ++ t) q ∙ sym (append_assoc (map f us) (map f vs) _)
    ∙ ap₂ ◌++◌ (sym (map-append f us vs)) (drop-drop (length vs) (length us) ds ∙ ap (λ n. drop n ds) (sym (length-append us vs)))

-- the parts of a list of digests
pub split_left : {A D : Type 0} (f : A → D) (us vs : List A) (ds rest : List D) → ds ≡ map f (us ++ vs) ++ rest → ds ≡ map f us ++ (map f vs ++ rest)
split_left f us vs ds rest e = e ∙ ap (λ t. t ++ rest) (map-append f us vs) ∙ append_assoc (map f us) (map f vs) rest

pub split_right : {A D : Type 0} (f : A → D) (us vs : List A) (ds rest : List D) → ds ≡ map f (us ++ vs) ++ rest → drop (length us) ds ≡ map f vs ++ rest
split_right f us vs ds rest e = ap (drop (length us)) (split_left f us vs ds rest e) ∙ drop_at (map f us) (map f vs ++ rest) (length us) (length-map us f)

module _ {D : Type 0} (h : Hashing D) (c : ℕ → Bool) (X Y : ℕ → D) where
  -- a tree's claim is like the tree's expression; where they agree the digests are the tree's
  tree_told : (t : Tree) (ds : List D) → (a : Alike (tree_claim h c Y t ds) (node_expression X t))
      × (Agree h a → length (siblings c t) ≤ length ds → Begins (tree_digest h X) (siblings c t) ds × ((i : ℕ) → InTree t i → c i ≡ true → Y i ≡ X i))
  tree_told (leaf p j) ds = by_test (λ b. (a : Alike (cond b (supplied (Y j)) (supplied (next h ds))) (supplied (X j)))
      × (Agree h a → length (cond b [] (leaf p j ∷ [])) ≤ length ds → Begins (tree_digest h X) (cond b [] (leaf p j ∷ [])) ds × ((i : ℕ) → j ≡ i → c i ≡ true → Y i ≡ X i))) (c j)
      (λ _. (cut_left (Y j) (supplied (X j)), λ g n. (begins_none _ ds, λ i e _. subst (λ i. Y i ≡ X i) e g)))
      (λ o. (cut_left (next h ds) (supplied (X j)), λ g n. (begins_one _ (leaf p j) h.empty ds n g, λ i e q. absurd (false≢true (sym o ∙ ap c e ∙ q)))))
  tree_told (join p l r) ds = let u = tree_told l ds in let v = tree_told r (drop (length (siblings c l)) ds) in
      by_test (λ b. (a : Alike (cond b (computed (Node p) (tree_claim h c Y l ds) (tree_claim h c Y r (drop (length (siblings c l)) ds)))
      (supplied (next h ds))) (computed (Node p) (node_expression X l) (node_expression X r)))
      × (Agree h a → length (cond b (siblings c l ++ siblings c r) (join p l r ∷ [])) ≤ length ds
      → Begins (tree_digest h X) (cond b (siblings c l ++ siblings c r) (join p l r ∷ [])) ds
      × ((i : ℕ) → InTree l i ⊎ InTree r i → c i ≡ true → Y i ≡ X i))) (tree_meets c l || tree_meets c r)
      (λ _. (
        both (Node p) u.0 v.0,
        λ g n.
            let n' : length (siblings c l) + length (siblings c r) ≤ length ds = rw length-append at n in
            let ul = u.1 g.0 (omega arith) in
            let vr = v.1 g.1 (rw length-drop (omega arith)) in
            (begins_both _ (siblings c l) (siblings c r) ds ul.0 vr.0, λ i. elim [ inl m ↦ ul.1 i m | inr m ↦ vr.1 i m ]),
      ))
      (λ o. (cut_left _ _, λ g n. (begins_one _ (join p l r) h.empty ds n g, λ i m q. absurd (unmet_tree c (join p l r) o i m q))))

  -- the same for a plan
  plan_told : (p : Plan) (os is : List D) → (a : Alike (claim h c Y p os is) (plan_expression X p))
      × (Agree h a → length (outside_parts c p) ≤ length os → length (path_siblings c p) ≤ length is → Begins (plan_digest h X) (outside_parts c p) os
      × Begins (tree_digest h X) (path_siblings c p) is × ((i : ℕ) → InPlan p i → c i ≡ true → Y i ≡ X i))
  plan_told (peak t) os is = let u = tree_told t is in
      by_test (λ b. (a : Alike (cond b (tree_claim h c Y t is) (supplied (next h os))) (node_expression X t))
      × (Agree h a → length (cond b [] (peak t ∷ [])) ≤ length os → length (cond b (siblings c t) []) ≤ length is
      → Begins (plan_digest h X) (cond b [] (peak t ∷ [])) os × Begins (tree_digest h X) (cond b (siblings c t) []) is
      × ((i : ℕ) → InTree t i → c i ≡ true → Y i ≡ X i))) (tree_meets c t)
      (λ _. (u.0, λ g n m. let w = u.1 g m in (begins_none _ os, w.0, w.1)))
      (λ o. (cut_left _ _, λ g n m. (begins_one _ (peak t) h.empty os n g, begins_none _ is, λ i m q. absurd (unmet_tree c t o i m q))))
  plan_told (folding place l r) os is = let u = plan_told l os is in let v = plan_told r (drop (length (outside_parts c l)) os) (drop (length (path_siblings c l)) is) in
      by_test (λ b. (a : Alike (cond b
      (computed place (claim h c Y l os is) (claim h c Y r (drop (length (outside_parts c l)) os) (drop (length (path_siblings c l)) is)))
      (supplied (next h os))) (computed place (plan_expression X l) (plan_expression X r)))
      × (Agree h a → length (cond b (outside_parts c l ++ outside_parts c r) (folding place l r ∷ [])) ≤ length os → length (cond b (path_siblings c l ++ path_siblings c r) []) ≤ length is
      → Begins (plan_digest h X) (cond b (outside_parts c l ++ outside_parts c r) (folding place l r ∷ [])) os
      × Begins (tree_digest h X) (cond b (path_siblings c l ++ path_siblings c r) []) is
      × ((i : ℕ) → InPlan l i ⊎ InPlan r i → c i ≡ true → Y i ≡ X i))) (meets c l || meets c r)
      (λ _. (
        both place u.0 v.0,
        λ g n m.
            let n' : length (outside_parts c l) + length (outside_parts c r) ≤ length os = rw length-append at n in
            let m' : length (path_siblings c l) + length (path_siblings c r) ≤ length is = rw length-append at m in
            let ul = u.1 g.0 (omega arith) (omega arith) in
            let vr = v.1 g.1 (rw length-drop (omega arith)) (rw length-drop (omega arith)) in
            (begins_both _ (outside_parts c l) (outside_parts c r) os ul.0 vr.0, begins_both _ (path_siblings c l) (path_siblings c r) is ul.1 vr.1, λ i. elim [ inl m ↦ ul.2 i m | inr m ↦ vr.2 i m ]),
      ))
      (λ o. (cut_left _ _, λ g n m. (begins_one _ (folding place l r) h.empty os n g, begins_none _ is, λ i m q. absurd (unmet c (folding place l r) o i m q))))

  -- with honest digests and the list's leaves a claim has the list's value
  module _ (agrees : (i : ℕ) → c i ≡ true → Y i ≡ X i) where
    pub tree_honest : (t : Tree) (ds rest : List D) → ds ≡ map (tree_digest h X) (siblings c t) ++ rest → value h (tree_claim h c Y t ds) ≡ tree_digest h X t
    tree_honest (leaf p j) ds rest = by_test (λ b. ds ≡ map (tree_digest h X) (cond b [] (leaf p j ∷ [])) ++ rest → value h (cond b (supplied (Y j)) (supplied (next h ds))) ≡ X j) (c j)
        (λ q e. agrees j q) (λ o e. ap (next h) e)
    tree_honest (join p l r) ds rest = let u = tree_honest l ds (map (tree_digest h X) (siblings c r) ++ rest) in let v = tree_honest r (drop (length (siblings c l)) ds) rest in
        by_test (λ b. ds ≡ map (tree_digest h X) (cond b (siblings c l ++ siblings c r) (join p l r ∷ [])) ++ rest
        → value h (cond b (computed (Node p) (tree_claim h c Y l ds) (tree_claim h c Y r (drop (length (siblings c l)) ds))) (supplied (next h ds)))
        ≡ tree_digest h X (join p l r)) (tree_meets c l || tree_meets c r)
        (λ _ e. ap₂ (h.node p) (u (split_left _ (siblings c l) (siblings c r) ds rest e)) (v (split_right _ (siblings c l) (siblings c r) ds rest e)))
        (λ _ e. ap (next h) e)

    pub plan_honest : (p : Plan) (os is ro ri : List D) → os ≡ map (plan_digest h X) (outside_parts c p) ++ ro
        → is ≡ map (tree_digest h X) (path_siblings c p) ++ ri → value h (claim h c Y p os is) ≡ plan_digest h X p
    plan_honest (peak t) os is ro ri = by_test (λ b. os ≡ map (plan_digest h X) (cond b [] (peak t ∷ [])) ++ ro → is ≡ map (tree_digest h X) (cond b (siblings c t) []) ++ ri
        → value h (cond b (tree_claim h c Y t is) (supplied (next h os))) ≡ tree_digest h X t) (tree_meets c t)
        (λ _ e f. tree_honest t is ri f) (λ _ e f. ap (next h) e)
    plan_honest (folding place l r) os is ro ri =
        let u = plan_honest l os is (map (plan_digest h X) (outside_parts c r) ++ ro) (map (tree_digest h X) (path_siblings c r) ++ ri) in
        let v = plan_honest r (drop (length (outside_parts c l)) os) (drop (length (path_siblings c l)) is) ro ri in
        by_test (λ b. os ≡ map (plan_digest h X) (cond b (outside_parts c l ++ outside_parts c r) (folding place l r ∷ [])) ++ ro
        → is ≡ map (tree_digest h X) (cond b (path_siblings c l ++ path_siblings c r) []) ++ ri
        → value h (cond b (computed place (claim h c Y l os is)
        (claim h c Y r (drop (length (outside_parts c l)) os) (drop (length (path_siblings c l)) is))) (supplied (next h os)))
        ≡ plan_digest h X (folding place l r)) (meets c l || meets c r)
        (λ _ e f. ap₂ (hashed_at h place)
        (u (split_left _ (outside_parts c l) (outside_parts c r) os ro e) (split_left _ (path_siblings c l) (path_siblings c r) is ri f))
        (v (split_right _ (outside_parts c l) (outside_parts c r) os ro e) (split_right _ (path_siblings c l) (path_siblings c r) is ri f)))
        (λ _ e f. ap (next h) e)

-- claims with nothing told hold
module _ {D : Type 0} (h : Hashing D) (c : ℕ → Bool) (Y : ℕ → D) where
  tree_holds : (t : Tree) (ds : List D) → Holds h (tree_claim h c Y t ds)
  tree_holds (leaf p j) ds = by_test (λ b. Holds h (cond b (supplied (Y j)) (supplied (next h ds)))) (c j) (λ _. tt) (λ _. tt)
  tree_holds (join p l r) ds = by_test
      (λ b. Holds h (cond b (computed (Node p) (tree_claim h c Y l ds) (tree_claim h c Y r (drop (length (siblings c l)) ds)))
      (supplied (next h ds)))) (tree_meets c l || tree_meets c r)
      (λ _. (tree_holds l ds, tree_holds r (drop (length (siblings c l)) ds))) (λ _. tt)

  plan_holds : (p : Plan) (os is : List D) → Holds h (claim h c Y p os is)
  plan_holds (peak t) os is = by_test (λ b. Holds h (cond b (tree_claim h c Y t is) (supplied (next h os)))) (tree_meets c t) (λ _. tree_holds t is) (λ _. tt)
  plan_holds (folding place l r) os is =
      by_test (λ b. Holds h (cond b
      (computed place (claim h c Y l os is) (claim h c Y r (drop (length (outside_parts c l)) os) (drop (length (path_siblings c l)) is)))
      (supplied (next h os)))) (meets c l || meets c r)
      (λ _. (plan_holds l os is, plan_holds r (drop (length (outside_parts c l)) os) (drop (length (path_siblings c l)) is))) (λ _. tt)

pub honest_accepted : {D : Type 0} → HonestAccepted D
honest_accepted h c X Y p agrees =
    let ds = honest_digests h X c p in
    plan_honest h c X Y agrees p ds (drop (length (outside_parts c p)) ds) (map (tree_digest h X) (path_siblings c p)) [] refl
    (drop_at (map (plan_digest h X) (outside_parts c p)) _ (length (outside_parts c p)) (length-map (outside_parts c p) (plan_digest h X)) ∙ sym (append-nil _))

pub nothing_else : {D : Type 0} → ClaimSound D
unfolding Begins
nothing_else h laws c X Y p ds long same =
    let is = drop (length (outside_parts c p)) ds in
    let u = plan_told h c X Y p ds is in
    let n : length (path_siblings c p) ≤ length is = rw length-drop (omega arith) in
    let most : length is ≤ length (path_siblings c p) = rw length-drop (omega arith) in
    let none_left : drop (length (path_siblings c p)) is ≡ [] = drop_of_length-le is most in
    ⊎_elim (λ g. let w = u.1 g (omega arith) n in
    inl (
      w.0 ∙ ap (λ t. map (plan_digest h X) (outside_parts c p) ++ t)
          (w.1 ∙ ap (λ t. map (tree_digest h X) (path_siblings c p) ++ t) none_left ∙ append-nil _),
      w.2,
    ))
    inr (main h laws _ _ u.0 (plan_holds h c Y p ds is) same)

module _ {D : Type 0} (h : Hashing D) (c d : ℕ → Bool) (X Y : ℕ → D) where
  -- the claims of two checks are alike; where they agree so do the leaves that both choose
  tree_pair : (t : Tree) (xs ys : List D) → (a : Alike (tree_claim h c X t xs) (tree_claim h d Y t ys)) × (Agree h a → (i : ℕ) → InTree t i → c i ≡ true → d i ≡ true → X i ≡ Y i)
  tree_pair (leaf p j) xs ys = by_test
      (λ b. (a : Alike (cond b (supplied (X j)) (supplied (next h xs))) (cond (d j) (supplied (Y j)) (supplied (next h ys))))
      × (Agree h a → (i : ℕ) → j ≡ i → c i ≡ true → d i ≡ true → X i ≡ Y i)) (c j)
      (λ _. by_test (λ b. (a : Alike (supplied (X j)) (cond b (supplied (Y j)) (supplied (next h ys)))) × (Agree h a → (i : ℕ) → j ≡ i → c i ≡ true → d i ≡ true → X i ≡ Y i)) (d j)
      (λ _. (cut_left _ _, λ g i e _ _. subst (λ i. X i ≡ Y i) e g))
      (λ o. (cut_left _ _, λ g i e _ q. absurd (false≢true (sym o ∙ ap d e ∙ q)))))
      (λ o. (cut_left _ _, λ g i e q _. absurd (false≢true (sym o ∙ ap c e ∙ q))))
  tree_pair (join p l r) xs ys = let u = tree_pair l xs ys in let v = tree_pair r (drop (length (siblings c l)) xs) (drop (length (siblings d l)) ys) in
      by_test (λ b. (a : Alike (cond b (computed (Node p) (tree_claim h c X l xs) (tree_claim h c X r (drop (length (siblings c l)) xs)))
      (supplied (next h xs))) (tree_claim h d Y (join p l r) ys))
      × (Agree h a → (i : ℕ) → InTree l i ⊎ InTree r i → c i ≡ true → d i ≡ true → X i ≡ Y i)) (tree_meets c l || tree_meets c r)
      (λ _. by_test (λ b. (a : Alike (computed (Node p) (tree_claim h c X l xs) (tree_claim h c X r (drop (length (siblings c l)) xs)))
      (cond b (computed (Node p) (tree_claim h d Y l ys) (tree_claim h d Y r (drop (length (siblings d l)) ys))) (supplied (next h ys))))
      × (Agree h a → (i : ℕ) → InTree l i ⊎ InTree r i → c i ≡ true → d i ≡ true → X i ≡ Y i)) (tree_meets d l || tree_meets d r)
      (λ _. (both (Node p) u.0 v.0, λ g i. elim [ inl m ↦ u.1 g.0 i m | inr m ↦ v.1 g.1 i m ]))
      (λ o. (cut_right _ _, λ g i m _ q. absurd (unmet_tree d (join p l r) o i m q))))
      (λ o. (cut_left _ _, λ g i m q _. absurd (unmet_tree c (join p l r) o i m q)))

  plan_pair : (p : Plan) (xs xs' ys ys' : List D) → (a : Alike (claim h c X p xs xs') (claim h d Y p ys ys')) × (Agree h a → (i : ℕ) → InPlan p i → c i ≡ true → d i ≡ true → X i ≡ Y i)
  plan_pair (peak t) xs xs' ys ys' = let u = tree_pair t xs' ys' in
      by_test (λ b. (a : Alike (cond b (tree_claim h c X t xs') (supplied (next h xs))) (claim h d Y (peak t) ys ys'))
      × (Agree h a → (i : ℕ) → InTree t i → c i ≡ true → d i ≡ true → X i ≡ Y i)) (tree_meets c t)
      (λ _. by_test (λ b. (a : Alike (tree_claim h c X t xs') (cond b (tree_claim h d Y t ys') (supplied (next h ys))))
      × (Agree h a → (i : ℕ) → InTree t i → c i ≡ true → d i ≡ true → X i ≡ Y i)) (tree_meets d t)
      (λ _. u)
      (λ o. (cut_right _ _, λ g i m _ q. absurd (unmet_tree d t o i m q))))
      (λ o. (cut_left _ _, λ g i m q _. absurd (unmet_tree c t o i m q)))
  plan_pair (folding place l r) xs xs' ys ys' =
      let u = plan_pair l xs xs' ys ys' in
      let v = plan_pair r (drop (length (outside_parts c l)) xs) (drop (length (path_siblings c l)) xs') (drop (length (outside_parts d l)) ys) (drop (length (path_siblings d l)) ys') in
      by_test (λ b. (a : Alike (cond b
      (computed place (claim h c X l xs xs') (claim h c X r (drop (length (outside_parts c l)) xs) (drop (length (path_siblings c l)) xs')))
      (supplied (next h xs))) (claim h d Y (folding place l r) ys ys'))
      × (Agree h a → (i : ℕ) → InPlan l i ⊎ InPlan r i → c i ≡ true → d i ≡ true → X i ≡ Y i)) (meets c l || meets c r)
      (λ _. by_test (λ b. (a : Alike
      (computed place (claim h c X l xs xs') (claim h c X r (drop (length (outside_parts c l)) xs) (drop (length (path_siblings c l)) xs')))
      (cond b (computed place (claim h d Y l ys ys')
      (claim h d Y r (drop (length (outside_parts d l)) ys) (drop (length (path_siblings d l)) ys'))) (supplied (next h ys))))
      × (Agree h a → (i : ℕ) → InPlan l i ⊎ InPlan r i → c i ≡ true → d i ≡ true → X i ≡ Y i)) (meets d l || meets d r)
      (λ _. (both place u.0 v.0, λ g i. elim [ inl m ↦ u.1 g.0 i m | inr m ↦ v.1 g.1 i m ]))
      (λ o. (cut_right _ _, λ g i m _ q. absurd (unmet d (folding place l r) o i m q))))
      (λ o. (cut_left _ _, λ g i m q _. absurd (unmet c (folding place l r) o i m q)))

pub pair_agrees : {D : Type 0} → PairAgrees D
pair_agrees h laws c d X Y p xs ys same =
    let u = plan_pair h c d X Y p xs (drop (length (outside_parts c p)) xs) ys (drop (length (outside_parts d p)) ys) in
    ⊎_elim (λ g. inl (u.1 g)) inr (main h laws _ _ u.0 (plan_holds h c X p xs (drop (length (outside_parts c p)) xs)) same)
