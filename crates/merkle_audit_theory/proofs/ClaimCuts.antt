-- Claims are the full expression with some parts supplied, so their places are some of its places, in its order.
use Rattle.std.proofs.Common.{◌≡◌, ℕ, suc, Bool, not, cond, ◌||◌, nat_eq, unwrap_or, ◌-◌, List, [], ◌∷◌, ◌++◌, length, flat_map, filter, drop, get_or, Option}
use Rattle.std.proofs.Common.{Some, None, option_map, refl, ap, ap₂, sym, ◌∙◌, subst, ⊎_elim}
use Rattle.std.specs.List.{list_any}
use Rattle.std.proofs.lemmas.List.{map-append}
use Rattle.std.proofs.lemmas.Bool.{true≢false}
use Rattle.merkle_base.specs.Hashing.{Hashing}
use Rattle.merkle_base.specs.Places.{peaks_of}
use Rattle.merkle_base.specs.Scheme.{Scheme}
use Rattle.merkle_base.specs.Tree.{Tree, leaf, join}
use Rattle.merkle_base.specs.declared.family.Bagging.{Bagging}
use Rattle.merkle_base.specs.declared.family.Bagging.TheVariants.{ForwardFold, BackwardFold}
use Rattle.merkle_base.proofs.Cases.{by_test}
use Rattle.merkle_root_theory.specs.Expression.{Place, Root, Node, Input, Expression, supplied, computed, cross_checked, visited, inputs, is_node}
use Rattle.merkle_root_theory.specs.Check.{in_range, inputs_of, all_inputs, RangeInput, chosen, leaf_given, range_inputs}
use Rattle.merkle_root_theory.specs.Claim.{next, tree_claim, claim, claim_of}
use Rattle.merkle_root_theory.specs.Plan.{Plan, peak, folding, root_plan, plan_expression, node_expression, tree_meets, meets, siblings, outside_parts, path_siblings}
use Rattle.merkle_root_theory.specs.Range.{end_of, leaf_of}
use Rattle.merkle_claim_theory.specs.MultiClaim.{also, or_empty, multi_tree, multi_claim}
use Rattle.merkle_claim_theory.specs.Multiproof.{MultiInput, multi_positions, locations_in, leaves_in, multi_on}
use Rattle.merkle_base.specs.Table.{digest_for}
use Rattle.merkle_claim_theory.specs.Verdict.{multi_inputs, pinned_inputs}
use Rattle.merkle_claim_theory.specs.Order.{fold_places, node_places, Distinct}
use Rattle.merkle_claim_theory.specs.Pinned.{pin_positions, pinned_on}
use Rattle.merkle_claim_theory.specs.PinnedClaim.{pinned_or, pin_tree, pin_plan, outside_tree, outside_plan, pinned_tree, pinned_claim}
use Rattle.merkle_claim_theory.proofs.HonestClaims.{member_split}
use Rattle.merkle_claim_theory.proofs.PlaceOrder.{places_in_order}
use Rattle.merkle_claim_theory.proofs.PlacesOnce.{distinct_append, distinct_folds, folds_no_node, all_nodes_in}
use Rattle.merkle_claim_theory.proofs.RangeNoCollision.{root_no_fold, root_no_node}
use Rattle.merkle_claim_theory.proofs.Verdicts.{distinct_nodes}
use Rattle.merkle_audit_theory.specs.Cuts.{IsCutOf, IsSublist, kept, places_in, peak_places, full_places, ClaimPlaces}
use Rattle.merkle_audit_theory.proofs.SublistFacts.{sub_none, sub_all, sub_append, sub_filter, sub_distinct, map-filter}

module _ {D : Type 0} (h : Hashing D) (X : ℕ → D) where
  -- ---- claims of a range
  tree_cut : (c : ℕ → Bool) (Y : ℕ → D) (t : Tree) (ds : List D) → IsCutOf (tree_claim h c Y t ds) (node_expression X t)
  tree_cut c Y (leaf p i) ds = by_test (λ b. IsCutOf (cond b (supplied (Y i)) (supplied (next h ds))) (supplied (X i))) (c i) (λ _. tt) (λ _. tt)
  tree_cut c Y (join p l r) ds = let u = tree_cut c Y l ds in let v = tree_cut c Y r (drop (length (siblings c l)) ds) in
      by_test (λ b. IsCutOf (cond b (computed (Node p) (tree_claim h c Y l ds) (tree_claim h c Y r (drop (length (siblings c l)) ds)))
      (supplied (next h ds))) (computed (Node p) (node_expression X l) (node_expression X r)))
      (tree_meets c l || tree_meets c r) (λ _. (refl, u, v)) (λ _. tt)

  pub claim_cut : (c : ℕ → Bool) (Y : ℕ → D) (p : Plan) (os is : List D) → IsCutOf (claim h c Y p os is) (plan_expression X p)
  claim_cut c Y (peak t) os is = by_test (λ b. IsCutOf (cond b (tree_claim h c Y t is) (supplied (next h os))) (node_expression X t)) (tree_meets c t) (λ _. tree_cut c Y t is) (λ _. tt)
  claim_cut c Y (folding place l r) os is = let u = claim_cut c Y l os is in let v = claim_cut c Y r (drop (length (outside_parts c l)) os) (drop (length (path_siblings c l)) is) in
      by_test (λ b. IsCutOf (cond b
      (computed place (claim h c Y l os is) (claim h c Y r (drop (length (outside_parts c l)) os) (drop (length (path_siblings c l)) is)))
      (supplied (next h os))) (computed place (plan_expression X l) (plan_expression X r)))
      (meets c l || meets c r) (λ _. (refl, u, v)) (λ _. tt)

  -- ---- of scattered leaves
  also_cut : (o : Option D) (e f : Expression D) → IsCutOf e f → IsCutOf (also o e) f
  also_cut None e f w = w
  also_cut (Some d) e f w = w

  multi_tree_cut : (a : ℕ → Option D) (c : ℕ → Bool) (Y : ℕ → D) (t : Tree) → IsCutOf (multi_tree h a c Y t) (node_expression X t)
  multi_tree_cut a c Y (leaf p i) = by_test (λ b. IsCutOf (cond b (also (a p) (supplied (Y i))) (supplied (or_empty h (a p)))) (supplied (X i))) (c i)
      (λ _. also_cut (a p) (supplied (Y i)) (supplied (X i)) tt) (λ _. tt)
  multi_tree_cut a c Y (join p l r) = let u = multi_tree_cut a c Y l in let v = multi_tree_cut a c Y r in
      by_test (λ b. IsCutOf (cond b (also (a p) (computed (Node p) (multi_tree h a c Y l) (multi_tree h a c Y r))) (supplied (or_empty h (a p))))
      (computed (Node p) (node_expression X l) (node_expression X r)))
      (tree_meets c l || tree_meets c r)
      (λ _. also_cut (a p) (computed (Node p) (multi_tree h a c Y l) (multi_tree h a c Y r)) (computed (Node p) (node_expression X l) (node_expression X r)) (refl, u, v)) (λ _. tt)

  pub multi_cut : (a : ℕ → Option D) (c : ℕ → Bool) (Y : ℕ → D) (p : Plan) → IsCutOf (multi_claim h a c Y p) (plan_expression X p)
  multi_cut a c Y (peak t) = multi_tree_cut a c Y t
  multi_cut a c Y (folding place l r) = (refl, multi_cut a c Y l, multi_cut a c Y r)

  -- ---- with pins
  pinned_cut_or : (o : Option D) (e f : Expression D) → IsCutOf e f → IsCutOf (pinned_or o e) f
  pinned_cut_or None e f w = w
  pinned_cut_or (Some d) e f w = tt

  module _ (b : ℕ → Option D) where
    pub pin_tree_cut : (t : Tree) → IsCutOf (pin_tree h b t) (node_expression X t)
    pin_tree_cut (leaf p i) = tt
    pin_tree_cut (join p l r) = pinned_cut_or (b p) (computed (Node p) (pin_tree h b l) (pin_tree h b r))
        (computed (Node p) (node_expression X l) (node_expression X r)) (refl, pin_tree_cut l, pin_tree_cut r)

    pin_plan_cut : (p : Plan) → IsCutOf (pin_plan h b p) (plan_expression X p)
    pin_plan_cut (peak t) = pin_tree_cut t
    pin_plan_cut (folding place l r) = (refl, pin_plan_cut l, pin_plan_cut r)

    outside_tree_cut : (w : ℕ → Bool) (t : Tree) (d : D) → IsCutOf (outside_tree h b w t d) (node_expression X t)
    outside_tree_cut w t d = by_test (λ y. IsCutOf (cond y (cross_checked d (pin_tree h b t)) (supplied d)) (node_expression X t)) (tree_meets w t) (λ _. pin_tree_cut t) (λ _. tt)

    outside_plan_cut : (w : ℕ → Bool) (p : Plan) (d : D) → IsCutOf (outside_plan h b w p d) (plan_expression X p)
    outside_plan_cut w p d = by_test (λ y. IsCutOf (cond y (cross_checked d (pin_plan h b p)) (supplied d)) (plan_expression X p)) (meets w p) (λ _. pin_plan_cut p) (λ _. tt)

    pub pinned_tree_cut : (w c : ℕ → Bool) (Y : ℕ → D) (t : Tree) (ds : List D) → IsCutOf (pinned_tree h b w c Y t ds) (node_expression X t)
    pinned_tree_cut w c Y (leaf p i) ds =
        by_test (λ y. IsCutOf (cond y (supplied (Y i)) (outside_tree h b w (leaf p i) (next h ds))) (supplied (X i))) (c i) (λ _. tt)
        (λ _. outside_tree_cut w (leaf p i) (next h ds))
    pinned_tree_cut w c Y (join p l r) ds = let u = pinned_tree_cut w c Y l ds in let v = pinned_tree_cut w c Y r (drop (length (siblings c l)) ds) in
        by_test (λ y. IsCutOf (cond y (computed (Node p) (pinned_tree h b w c Y l ds) (pinned_tree h b w c Y r (drop (length (siblings c l)) ds)))
        (outside_tree h b w (join p l r) (next h ds))) (computed (Node p) (node_expression X l) (node_expression X r)))
        (tree_meets c l || tree_meets c r) (λ _. (refl, u, v)) (λ _. outside_tree_cut w (join p l r) (next h ds))

    pub pinned_cut : (w c : ℕ → Bool) (Y : ℕ → D) (p : Plan) (os is : List D) → IsCutOf (pinned_claim h b w c Y p os is) (plan_expression X p)
    pinned_cut w c Y (peak t) os is = by_test (λ y. IsCutOf (cond y (pinned_tree h b w c Y t is) (outside_plan h b w (peak t) (next h os))) (node_expression X t)) (tree_meets c t)
        (λ _. pinned_tree_cut w c Y t is) (λ _. outside_plan_cut w (peak t) (next h os))
    pinned_cut w c Y (folding place l r) os is = let u = pinned_cut w c Y l os is in let v = pinned_cut w c Y r (drop (length (outside_parts c l)) os) (drop (length (path_siblings c l)) is) in
        by_test (λ y. IsCutOf (cond y
        (computed place (pinned_claim h b w c Y l os is)
        (pinned_claim h b w c Y r (drop (length (outside_parts c l)) os) (drop (length (path_siblings c l)) is)))
        (outside_plan h b w (folding place l r) (next h os))) (computed place (plan_expression X l) (plan_expression X r)))
        (meets c l || meets c r) (λ _. (refl, u, v)) (λ _. outside_plan_cut w (folding place l r) (next h os))

-- ---- places
module _ {D : Type 0} (h : Hashing D) where
  abbrev pub seen : Expression D → List Place
  seen e = places_in (visited h e)

  pub seen_both : (l r : Expression D) → places_in (visited h l ++ visited h r) ≡ seen l ++ seen r
  seen_both l r = map-append (λ (i : Input D). i.place) (visited h l) (visited h r)

  pub cut_seen : (e f : Expression D) → IsCutOf e f → IsSublist (seen e) (seen f)
  cut_seen (supplied d) f w = sub_none (seen f)
  cut_seen (cross_checked d e) f w = cut_seen e f w
  cut_seen (computed p l r) (supplied d) w = elim w [ ]
  cut_seen (computed p l r) (cross_checked d f) w = elim w [ ]
  cut_seen (computed p l r) (computed q l' r') w =
      subst (λ z. IsSublist (p ∷ places_in (visited h l ++ visited h r)) (z ∷ places_in (visited h l' ++ visited h r'))) w.0
      (kept p (subst (λ z. IsSublist z (places_in (visited h l' ++ visited h r'))) (sym (seen_both l r))
      (subst (λ z. IsSublist (seen l ++ seen r) z) (sym (seen_both l' r')) (sub_append (cut_seen l l' w.1) (cut_seen r r' w.2)))))

  -- in the order of the inputs
  pub ordered : (e : Expression D) → places_in (inputs h e) ≡ filter (λ p. not (is_node p)) (seen e) ++ filter is_node (seen e)
  ordered e = map-append (λ (i : Input D). i.place) (filter (λ (i : Input D). not (is_node i.place)) (visited h e)) (filter (λ (i : Input D). is_node i.place) (visited h e))
      ∙ ap₂ ◌++◌ (map-filter (λ (i : Input D). i.place) (λ p. not (is_node p)) (visited h e)) (map-filter (λ (i : Input D). i.place) is_node (visited h e))

  pub cut_ordered : (e f : Expression D) → IsCutOf e f → IsSublist (places_in (inputs h e)) (places_in (inputs h f))
  cut_ordered e f w = subst (λ z. IsSublist z (places_in (inputs h f))) (sym (ordered e))
      (subst (λ z. IsSublist (filter (λ p. not (is_node p)) (seen e) ++ filter is_node (seen e)) z) (sym (ordered f))
      (sub_append (sub_filter (λ p. not (is_node p)) (cut_seen e f w)) (sub_filter is_node (cut_seen e f w))))

-- ---- all places of a leaf count and an inactive count
module _ {D : Type 0} (s : Scheme D) where
  once_peaks : (k : ℕ) (ts : List Tree) → Distinct (flat_map node_places ts) → Distinct (Root ∷ peak_places s k ts)
  once_peaks k [] d = ((λ m. m), tt)
  once_peaks k (t ∷ ts) d = (
    (λ m. ⊎_elim (root_no_fold s.bagging k (suc (length ts))) (λ v. root_no_node (t ∷ ts) v) (member_split (fold_places s.bagging k (suc (length ts))) _ Root m)),
    distinct_append (fold_places s.bagging k (suc (length ts))) (flat_map node_places (t ∷ ts)) (distinct_folds s.bagging k (suc (length ts))) d
        (λ p u v. true≢false (sym (all_nodes_in (t ∷ ts) p v) ∙ folds_no_node s.bagging k (suc (length ts)) p u)),
  )

  pub full_once : (n k : ℕ) → Distinct (full_places s n k)
  full_once n k = once_peaks k (peaks_of s.rule n) (distinct_nodes s n)

  pub places_of : (X : ℕ → D) (bagging : Bagging) (n k : ℕ) (ts : List Tree) → bagging ≡ s.bagging
      → places_in (all_inputs s n k (option_map (plan_expression X) (root_plan bagging k ts))) ≡ Root ∷ peak_places s k ts
  places_of X ForwardFold n k [] e = refl
  places_of X BackwardFold n k [] e = refl
  places_of X bagging n k (t ∷ ts) e = ap (λ z. Root ∷ z) (in_order bagging e)
    where
      in_order : (b : Bagging) → b ≡ s.bagging → places_in (inputs_of s.hashing (option_map (plan_expression X) (root_plan b k (t ∷ ts)))) ≡ peak_places s k (t ∷ ts)
      in_order b q = places_in_order s.hashing X b k t ts ∙ ap (λ z. fold_places z k (suc (length ts)) ++ flat_map node_places (t ∷ ts)) q

  cut_all : (E F : Plan → Expression D) (o : Option Plan) (n k n' k' : ℕ) → ((p : Plan) → IsCutOf (E p) (F p))
      → IsSublist (places_in (all_inputs s n k (option_map E o))) (places_in (all_inputs s n' k' (option_map F o)))
  cut_all E F None n k n' k' w = sub_all (Root ∷ [])
  cut_all E F (Some p) n k n' k' w = kept Root (cut_ordered s.hashing (E p) (F p) (w p))

  pub full_sub : (X : ℕ → D) (E : Plan → Expression D) (n k : ℕ) → ((p : Plan) → IsCutOf (E p) (plan_expression X p))
      → IsSublist (places_in (all_inputs s n k (option_map E (root_plan s.bagging k (peaks_of s.rule n))))) (full_places s n k)
  full_sub X E n k w = subst (λ z. IsSublist (places_in (all_inputs s n k (option_map E (root_plan s.bagging k (peaks_of s.rule n))))) z) (places_of X s.bagging n k (peaks_of s.rule n) refl)
      (cut_all E (plan_expression X) (root_plan s.bagging k (peaks_of s.rule n)) n k n k w)

  X0 : ℕ → D
  X0 i = s.hashing.empty

  unfoldable pub range_on : RangeInput D → Plan → Expression D
  range_on r p = claim_of s.hashing (chosen r) (leaf_given s.hashing r) p r.digests

  pub range_cut : (X : ℕ → D) (r : RangeInput D) (p : Plan) → IsCutOf (range_on r p) (plan_expression X p)
  unfolding range_on
  range_cut X r p = claim_cut s.hashing X (chosen r) (leaf_given s.hashing r) p r.digests (drop (length (outside_parts (chosen r) p)) r.digests)

  pub multi_on_cut : (X : ℕ → D) (r : MultiInput D) (p : Plan) → IsCutOf (multi_on s r p) (plan_expression X p)
  multi_on_cut X r p = multi_cut s.hashing X (digest_for (multi_positions s.rule r.leaves (locations_in r)) r.digests) (λ i. list_any (nat_eq i) (locations_in r))
      (λ i. unwrap_or (digest_for (locations_in r) (leaves_in r) i) s.hashing.empty) p

  pub pinned_on_cut : (X : ℕ → D) (r : RangeInput D) (pins : List D) (p : Plan) → IsCutOf (pinned_on s r pins p) (plan_expression X p)
  pinned_on_cut X r pins p = pinned_cut s.hashing X (digest_for (pin_positions s r.start) pins) (in_range 0 r.start) (in_range r.start (end_of r))
      (λ i. get_or r.elements (i - r.start) s.hashing.empty) p r.digests (drop (length (outside_parts (in_range r.start (end_of r)) p)) r.digests)

  range_sub : (r : RangeInput D) → IsSublist (places_in (range_inputs s r)) (full_places s r.leaves r.inactive)
  unfolding range_on
  range_sub r = full_sub X0 (range_on r) r.leaves r.inactive (range_cut X0 r)

  multi_sub : (r : MultiInput D) → IsSublist (places_in (multi_inputs s r)) (full_places s r.leaves r.inactive)
  multi_sub r = full_sub X0 (multi_on s r) r.leaves r.inactive (multi_on_cut X0 r)

  pinned_sub : (r : RangeInput D) (pins : List D) → IsSublist (places_in (pinned_inputs s r pins)) (full_places s r.leaves r.inactive)
  pinned_sub r pins = full_sub X0 (pinned_on s r pins) r.leaves r.inactive (pinned_on_cut X0 r pins)

pub claim_places : {D : Type 0} → ClaimPlaces D
claim_places = record {
  once = full_once;
  listed = λ s xs k. places_of s (leaf_of s.hashing xs) s.bagging (length xs) k (peaks_of s.rule (length xs)) refl;
  range = range_sub;
  multi = multi_sub;
  pinned = pinned_sub;
  range_once = λ s r. sub_distinct (range_sub s r) (full_once s r.leaves r.inactive);
  multi_once = λ s r. sub_distinct (multi_sub s r) (full_once s r.leaves r.inactive);
  pinned_once = λ s r pins. sub_distinct (pinned_sub s r pins) (full_once s r.leaves r.inactive);
}
