-- An honest multi input has no collision.
use Rattle.std.proofs.Common.{◌≡◌, ℕ, Bool, true, cond, ◌||◌, nat_eq, ◌<◌, ap, ap₂, sym, ◌∙◌, subst, arith, length, Option, Some, None, option_map, IfSome, unwrap_or}
use Rattle.std.specs.List.{AllByRecursion, list_any}
use Rattle.merkle_base.specs.Tree.{Tree, leaf, join}
use Rattle.merkle_root_theory.specs.Expression.{Node, Expression, supplied, computed}
use Rattle.merkle_base.specs.Hashing.{Hashing, EqDecides}
use Rattle.merkle_root_theory.specs.Collision.{Member}
use Rattle.merkle_claim_theory.specs.FirstCollision.{first_collision}
use Rattle.merkle_root_theory.specs.Plan.{Plan, peak, folding, root_plan, plan_expression, node_expression, tree_meets, tree_digest}
use Rattle.merkle_claim_theory.specs.MultiClaim.{also, or_empty, multi_tree, multi_claim}
use Rattle.merkle_claim_theory.specs.Complete.{HonestTree, HonestPlan}
use Rattle.merkle_base.specs.Root.{root_string}
use Rattle.merkle_root_theory.specs.Check.{string_of, inputs_of, all_inputs, list_expression}
use Rattle.merkle_base.specs.Scheme.{Scheme}
use Rattle.merkle_base.specs.Places.{peaks_of}
use Rattle.merkle_root_theory.specs.Range.{leaf_of}
use Rattle.merkle_base.specs.Table.{digest_for}
use Rattle.merkle_claim_theory.specs.Multiproof.{multi_positions, locations_in, leaves_in, multi_on}
use Rattle.merkle_claim_theory.specs.Verdict.{HonestMultiHasNoCollision}
use Rattle.merkle_root_theory.proofs.Collisions.{member_ordered}
use Rattle.merkle_claim_theory.proofs.HonestClaims.{IncludedIn, given_within, hashed_within, member_unordered}
use Rattle.merkle_claim_theory.proofs.RangeNoCollision.{once_in, no_root, found_none, no_collision}
use Rattle.merkle_claim_theory.proofs.FirstCollisions.{finds_first}
use Rattle.merkle_base.proofs.Cases.{by_test}
use Rattle.merkle_claim_theory.proofs.ListedDigests.{plan_for, of_each, listed_some}
use Rattle.merkle_claim_theory.proofs.Multiproofs.{each_honest, needs_peaks, chosen_in, some_leaves, first_location}
use Rattle.merkle_claim_theory.proofs.Verdicts.{distinct_nodes}

module _ {D : Type 0} (h : Hashing D) (a : ℕ → Option D) (c : ℕ → Bool) (X Y : ℕ → D) (agrees : (i : ℕ) → c i ≡ true → Y i ≡ X i) where
  also_within : (o : Option D) (e f : Expression D) → IncludedIn h e f → IncludedIn h (also o e) f
  unfolding IncludedIn
  also_within None e f w = w
  also_within (Some d) e f w = w

  tree_in_list : (t : Tree) → HonestTree h a c X t → IncludedIn h (multi_tree h a c Y t) (node_expression X t)
  tree_in_list (leaf p i) = by_test
      (λ b. cond b (IfSome (a p) (λ d. d ≡ X i)) (or_empty h (a p) ≡ X i)
      → IncludedIn h (cond b (also (a p) (supplied (Y i))) (supplied (or_empty h (a p)))) (supplied (X i))) (c i)
      (λ q s. also_within (a p) _ _ (given_within h _ _ (agrees i q))) (λ _ s. given_within h _ _ s)
  tree_in_list (join p l r) = let u = tree_in_list l in let v = tree_in_list r in
      by_test (λ b. cond b (IfSome (a p) (λ d. d ≡ tree_digest h X (join p l r)) × HonestTree h a c X l × HonestTree h a c X r) (or_empty h (a p) ≡ tree_digest h X (join p l r))
      → IncludedIn h (cond b (also (a p) (computed (Node p) (multi_tree h a c Y l) (multi_tree h a c Y r))) (supplied (or_empty h (a p))))
      (computed (Node p) (node_expression X l) (node_expression X r))) (tree_meets c l || tree_meets c r)
      (λ _ s. also_within (a p) _ _ (hashed_within h (Node p) _ _ _ _ (u s.1) (v s.2))) (λ _ s. given_within h _ _ s)

  pub plan_in_list : (p : Plan) → HonestPlan h a c X p → IncludedIn h (multi_claim h a c Y p) (plan_expression X p)
  plan_in_list (peak t) s = tree_in_list t s
  plan_in_list (folding place l r) s = hashed_within h place _ _ _ _ (plan_in_list l s.0) (plan_in_list r s.1)

-- what hashes only what the list does has no collision with it
module _ {D : Type 0} (s : Scheme D) (laws : EqDecides s.hashing) (X : ℕ → D) (E : Plan → Expression D) (n n' k k' : ℕ) (e : n ≡ n') (f : k ≡ k')
    (p : Plan) (q : root_plan s.bagging k (peaks_of s.rule n) ≡ Some p) where
  pub clear_of : IncludedIn s.hashing (E p) (plan_expression X p)
      → first_collision s.hashing (all_inputs s n k (option_map E (root_plan s.bagging k (peaks_of s.rule n)))) (all_inputs s n' k' (list_expression s X n' k')) ≡ None
  unfolding IncludedIn
  clear_of w =
      let q' : root_plan s.bagging k' (peaks_of s.rule n') ≡ Some p = ap₂ (λ x y. root_plan s.bagging x (peaks_of s.rule y)) (sym f) (sym e) ∙ q in
      let text : string_of s n k (option_map E (root_plan s.bagging k (peaks_of s.rule n))) ≡ string_of s n' k' (list_expression s X n' k') =
      ap (λ o. string_of s n k (option_map E o)) q ∙ ap (λ v. root_string s.hashing s.domain s.bagging n k (Some v)) w.0
      ∙ ap₂ (λ x y. string_of s x y (Some (plan_expression X p))) e f ∙ sym (ap (λ o. string_of s n' k' (option_map (plan_expression X) o)) q') in
      let xs = all_inputs s n k (option_map E (root_plan s.bagging k (peaks_of s.rule n))) in
      let ys = all_inputs s n' k' (list_expression s X n' k') in
      found_none s.hashing xs ys (first_collision s.hashing xs ys) (finds_first s.hashing laws xs ys)
      (no_collision s.hashing _ _ (inputs_of s.hashing (option_map E (root_plan s.bagging k (peaks_of s.rule n)))) (inputs_of s.hashing (list_expression s X n' k')) text
      (λ i m. subst (λ o. Member (inputs_of s.hashing (option_map (plan_expression X) o)) i) (sym q')
      (member_ordered s.hashing (plan_expression X p) i (w.1 i (member_unordered s.hashing (E p) i (subst (λ o. Member (inputs_of s.hashing (option_map E o)) i) q m)))))
      (once_in s.hashing X s.bagging k' (peaks_of s.rule n') (distinct_nodes s n')) (λ b m. no_root s.hashing X s.bagging k' (peaks_of s.rule n') b m))

pub honest_multi_has_no_collision : {D : Type 0} → HonestMultiHasNoCollision D
honest_multi_has_no_collision {D = D} s laws xs k r w =
    let back : length xs ≡ r.leaves = sym w.leaves in
    let pos : 0 < r.leaves = omega (arith, some_leaves_of, back) in
    let p = plan_for s r.leaves r.inactive pos in
    let trees : AllByRecursion (HonestTree s.hashing (digest_for (multi_positions s.rule r.leaves (locations_in r)) r.digests)
    (λ i. list_any (nat_eq i) (locations_in r)) (leaf_of s.hashing xs)) (peaks_of s.rule r.leaves) =
    subst (λ m. AllByRecursion (HonestTree s.hashing (digest_for (multi_positions s.rule m (locations_in r)) r.digests)
    (λ i. list_any (nat_eq i) (locations_in r)) (leaf_of s.hashing xs)) (peaks_of s.rule m)) back
    (subst (λ ds. AllByRecursion (HonestTree s.hashing (digest_for (multi_positions s.rule (length xs) (locations_in r)) ds)
    (λ i. list_any (nat_eq i) (locations_in r)) (leaf_of s.hashing xs)) (peaks_of s.rule (length xs))) (sym w.digests)
    (needs_peaks s xs (locations_in r) one.0 one.1)) in
    let agrees : (i : ℕ) → list_any (nat_eq i) (locations_in r) ≡ true → unwrap_or (digest_for (locations_in r) (leaves_in r) i) s.hashing.empty ≡ leaf_of s.hashing xs i =
    λ i q. ap (λ ds. unwrap_or (digest_for (locations_in r) ds i) s.hashing.empty) w.elements
    ∙ ap (λ o. unwrap_or o s.hashing.empty) (listed_some (locations_in r) (leaf_of s.hashing xs) i (chosen_in s xs (locations_in r) i q)) in
    clear_of s laws (leaf_of s.hashing xs) (multi_on s r) r.leaves (length xs) r.inactive k w.leaves w.inactive p.0 p.1
    (plan_in_list s.hashing _ _ (leaf_of s.hashing xs) _ agrees p.0 (each_honest s.hashing _ _ _ p.0 (of_each _ s.bagging r.inactive (peaks_of s.rule r.leaves) p.0 p.1 trees)))
  where
    one : (i : ℕ) × Member (locations_in r) i
    one = first_location r.elements w.nonempty

    some_leaves_of : 0 < length xs
    some_leaves_of = some_leaves (length xs) r.elements w.nonempty w.below
