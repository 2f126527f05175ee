-- What a walk over an accepted range input with pins computes and finds, in comparison with what is listed.
use Rattle.std.proofs.Common.{◌≡◌, ℕ, ◌+◌, Bool, cond, ◌||◌, List, [], ◌∷◌, ◌++◌, map, flat_map, take, drop, length, refl, ap, ap₂, sym, ◌∙◌, subst, drop-drop}
use Rattle.std.proofs.Common.{⊎_elim, arith, Option, Some, option_map}
use Rattle.std.proofs.Math.Seq.{take-append_seam, drop-append_seam}
use Rattle.merkle_base.specs.Hashing.{Hashing}
use Rattle.merkle_base.specs.Places.{peaks_of, wholly_before}
use Rattle.merkle_base.specs.Root.{folded, root_string}
use Rattle.merkle_base.specs.Scheme.{Scheme}
use Rattle.merkle_base.specs.Tree.{Tree, leaf, join}
use Rattle.merkle_base.proofs.PeakLists.{peaks_spans}
use Rattle.merkle_root_theory.specs.Check.{RangeInput, chosen, leaf_given, in_range}
use Rattle.merkle_root_theory.specs.Claim.{next}
use Rattle.merkle_root_theory.specs.Expression.{Root, Bytes, Node, Expression, computed, value, visited}
use Rattle.merkle_root_theory.specs.Layouts.{count_before, count_after}
use Rattle.merkle_root_theory.specs.Plan.{siblings, tree_meets}
use Rattle.merkle_root_theory.specs.Range.{end_of, overlapping, wholly_after, AcceptsNonempty}
use Rattle.merkle_root_theory.specs.Walk.{peak_values}
use Rattle.merkle_root_theory.proofs.LayoutCounts.{length-layout}
use Rattle.merkle_root_theory.proofs.PeakGroups.{groups}
use Rattle.merkle_claim_theory.specs.FirstCollision.{or_else}
use Rattle.merkle_claim_theory.specs.Pinned.{AcceptsPinned, AcceptsPinnedSome}
use Rattle.merkle_claim_theory.specs.PinnedClaim.{outside_tree, pin_tree, pinned_tree}
use Rattle.merkle_claim_theory.specs.Rebuilt.{AllRebuilt, rebuilt_node, pin_at}
use Rattle.merkle_claim_theory.specs.Verdict.{pinned_inputs}
use Rattle.merkle_claim_theory.proofs.AcceptedInputs.{pinned_cases}
use Rattle.merkle_claim_theory.proofs.RebuiltPins.{rebuilt_split, pinned_is_rebuilt}
use Rattle.merkle_audit_theory.specs.Folds.{numbered_inputs, fold_inputs}
use Rattle.merkle_audit_theory.specs.Tiers.{AreOfTier}
use Rattle.merkle_audit_theory.proofs.PartedInputs.{or_assoc}
use Rattle.merkle_audit_theory.proofs.TieredInputs.{tiers_joined, fold_tier}
use Rattle.merkle_pins_theory.specs.PinnedFolds.{pinned_over_inputs}
use Rattle.merkle_pins_theory.proofs.PinnedInputs.{pinned_by_peaks, tree_value}
use Rattle.merkle_pins_theory.proofs.PinnedTiers.{pins_tier, pinned_over_tier}
use Rattle.merkle_walk_theory.specs.Compared.{found_among}
use Rattle.merkle_walk_theory.specs.Walked.{pinned_over_claims, pinned_claims}
use Rattle.merkle_walk_theory.proofs.Walked.{walks_find_first}
use Rattle.merkle_walks.specs.Compared.{IsCompared}
use Rattle.merkle_walks.specs.Hashed.{fold_at, located}
use Rattle.merkle_walks.specs.Ranged.{claim_tree, claim_trees}
use Rattle.merkle_walks.specs.declared.collision.Collision.{Collision}
use Rattle.merkle_walks.specs.declared.top.Top.{Top}
use Rattle.merkle_walks.proofs.Tops.{numbered_whole}

module _ {D : Type 0} (h : Hashing D) (b : ℕ → Option D) (w c : ℕ → Bool) (X : ℕ → D) where
  -- with pins, a node is claimed as by the check with pins
  tree_is : (t : Tree) (ds : List D) → claim_tree h (Some b) w c X t ds ≡ pinned_tree h b w c X t ds
  tree_is (leaf p i) ds = refl
  tree_is (join p l r) ds =
      ap₂ (λ x y. cond (tree_meets c l || tree_meets c r) (computed (Node p) x y) (outside_tree h b w (join p l r) (next h ds)))
      (tree_is l ds) (tree_is r (drop (length (siblings c l)) ds))

  pub trees_are : (ts : List Tree) (ds : List D) → claim_trees h (Some b) w c X ts ds ≡ pinned_over_claims h b w c X ts ds
  trees_are [] ds = refl
  trees_are (t ∷ ts) ds = ap₂ (λ e es. (t, e) ∷ es) (tree_is t ds) (trees_are ts (drop (length (siblings c t)) ds))

  values_are : (ts : List Tree) (ds : List D) → AllRebuilt h (tree_meets w) (rebuilt_node h b) (flat_map (siblings c) ts) ds
      → map (λ x. value h x.1) (pinned_over_claims h b w c X ts ds) ≡ peak_values h c X ts ds
  values_are [] ds x = refl
  values_are (t ∷ ts) ds x =
      let y = rebuilt_split h (tree_meets w) (rebuilt_node h b) (siblings c t) (flat_map (siblings c) ts) ds x in
      ap₂ (λ d es. d ∷ es) (tree_value h b w c X t ds y.0) (values_are ts (drop (length (siblings c t)) ds) y.1)

-- what is found among two groups of nodes
found_both : {D : Type 0} (h : Hashing D) (f : Tree → Option (D × D)) (cs ds : List (Tree × Expression D))
    → found_among h f (cs ++ ds) ≡ or_else (found_among h f cs) (found_among h f ds)
found_both h f [] ds = refl
found_both h f (c ∷ cs) ds = ap (or_else _) (found_both h f cs ds) ∙ sym (or_assoc _ (found_among h f cs) (found_among h f ds))

module _ {D : Type 0} (s : Scheme D) (r : RangeInput D) (pins : List D) (root : D) (ok : AcceptsNonempty s r root) (all_ok : AcceptsPinned s r pins root) where
  -- with elements
  some_ok : AcceptsPinnedSome s r pins root
  some_ok = ⊎_elim (λ w. w) (λ w. absurd (omega (arith, ok.nonempty, ap length w.0.0.elements))) ((pinned_cases s r pins root).1 all_ok)

  abbrev ts : List Tree
  ts = peaks_of s.rule r.leaves

  abbrev before : List Tree
  before = wholly_before r.start ts

  abbrev over : List Tree
  over = overlapping r.start (end_of r) ts

  abbrev after : List Tree
  after = wholly_after (end_of r) ts

  abbrev i : ℕ
  i = count_before s.bagging r.inactive before

  abbrev j : ℕ
  j = count_after s.bagging r.inactive (length before + length over) after

  abbrev b : ℕ → Option D
  b = pin_at s r.start pins

  abbrev w : ℕ → Bool
  w = in_range 0 r.start

  split : ts ≡ before ++ (over ++ after)
  split = groups r.start (end_of r) 0 r.leaves ts (omega (arith, ok.nonempty)) (peaks_spans s.rule r.leaves)

  rebuilt : AllRebuilt s.hashing (tree_meets w) (rebuilt_node s.hashing b) (flat_map (siblings (chosen r)) over) (drop (i + j) r.digests)
  rebuilt = subst (λ n. AllRebuilt s.hashing (tree_meets w) (rebuilt_node s.hashing b) (flat_map (siblings (chosen r)) over) (drop n r.digests))
      (length-layout s.bagging r.inactive before over after) ((pinned_is_rebuilt s r pins root).0 some_ok).1.nodes

  -- the peaks before the range, and those that overlap it
  pub first_peaks : (n : ℕ) → n ≡ length before → take n ts ≡ before
  first_peaks n e = ap₂ take e split ∙ take-append_seam before (over ++ after)

  pub next_peaks : (n m : ℕ) → n ≡ length before → m ≡ length over → take m (drop n ts) ≡ over
  next_peaks n m e g = ap₂ take g (ap₂ drop e split ∙ drop-append_seam before (over ++ after)) ∙ take-append_seam over after

  -- the claims of the peaks before the range, and of those that overlap it
  abbrev firsts : List Tree → List (Tree × Expression D)
  firsts us = map (λ u. (u, pin_tree s.hashing b u)) us

  abbrev nexts : List Tree → List D → List (Tree × Expression D)
  nexts us ds = claim_trees s.hashing (Some b) w (chosen r) (leaf_given s.hashing r) us ds

  module _ (front back n m : ℕ) (front_is : front ≡ i) (back_is : back ≡ j) (n_is : n ≡ length before) (m_is : m ≡ length over) where
    rest_is : drop back (drop front r.digests) ≡ drop (i + j) r.digests
    rest_is = drop-drop back front r.digests ∙ ap (λ k. drop k r.digests) (ap₂ ◌+◌ front_is back_is)

    nexts_are : nexts (take m (drop n ts)) (drop back (drop front r.digests)) ≡ pinned_over_claims s.hashing b w (chosen r) (leaf_given s.hashing r) over (drop (i + j) r.digests)
    nexts_are = ap₂ nexts (next_peaks n m n_is m_is) rest_is ∙ trees_are s.hashing b w (chosen r) (leaf_given s.hashing r) over (drop (i + j) r.digests)

    abbrev all : List D
    all = map (rebuilt_node s.hashing b) before ++ (peak_values s.hashing (chosen r) (leaf_given s.hashing r) over (drop (i + j) r.digests) ++ take j (drop i r.digests))

    digests_are : map (λ u. value s.hashing (pin_tree s.hashing b u)) (take n ts)
        ++ (map (λ x. value s.hashing x.1) (nexts (take m (drop n ts)) (drop back (drop front r.digests))) ++ take back (drop front r.digests)) ≡ all
    digests_are = ap₂ (λ us vs. map (rebuilt_node s.hashing b) us ++ vs) (first_peaks n n_is)
        (ap₂ ◌++◌ (ap (map (λ x. value s.hashing x.1)) nexts_are ∙ values_are s.hashing b w (chosen r) (leaf_given s.hashing r) over (drop (i + j) r.digests) rebuilt)
        (ap₂ (λ x y. take x (drop y r.digests)) back_is front_is))

    pub pinned_compared : {F : Type 0} (t : Top F D) (found : Option (Collision F D)) (ds : List D)
        → ds ≡ map (λ u. value s.hashing (pin_tree s.hashing b u)) (take n ts)
        ++ (map (λ x. value s.hashing x.1) (nexts (take m (drop n ts)) (drop back (drop front r.digests))) ++ take back (drop front r.digests))
        → t.root.items ≡ root_string s.hashing s.domain s.bagging r.leaves r.inactive (folded s.hashing.fold s.bagging r.inactive ds)
        → map fold_at t.folds.items ≡ numbered_inputs s.hashing s.bagging r.inactive r.inactive 1 ds
        → (f : Tree → Option (D × D))
        → option_map located found ≡ or_else (found_among s.hashing f (firsts (take n ts))) (found_among s.hashing f (nexts (take m (drop n ts)) (drop back (drop front r.digests))))
        → IsCompared s r.leaves (pinned_inputs s r pins) f t found
    pinned_compared t found ds is string folds f found_is =
        let all_is : ds ≡ all = is ∙ digests_are in
        let us = flat_map (λ t. visited s.hashing (pin_tree s.hashing b t)) before in
        let vs = pinned_over_inputs s.hashing b w (chosen r) (leaf_given s.hashing r) over (drop (i + j) r.digests) in
        let string' = string ∙ ap (λ l. root_string s.hashing s.domain s.bagging r.leaves r.inactive (folded s.hashing.fold s.bagging r.inactive l)) all_is in
        let folds' : map fold_at t.folds.items ≡ fold_inputs s.hashing s.bagging r.inactive all =
        folds ∙ numbered_whole s.hashing s.bagging r.inactive ds ∙ ap (fold_inputs s.hashing s.bagging r.inactive) all_is in
        let claims_are : or_else (found_among s.hashing f (firsts (take n ts))) (found_among s.hashing f (nexts (take m (drop n ts)) (drop back (drop front r.digests))))
        ≡ found_among s.hashing f (pinned_claims s r pins) =
        ap₂ (λ us es. or_else (found_among s.hashing f (firsts us)) (found_among s.hashing f es)) (first_peaks n n_is) nexts_are
        ∙ sym (found_both s.hashing f (firsts before) (pinned_over_claims s.hashing b w (chosen r) (leaf_given s.hashing r) over (drop (i + j) r.digests))) in
        record {
          nodes = us ++ vs;
          parts = pinned_by_peaks s r pins root some_ok ∙ sym (ap₂ (λ l fs. record { place = Root; argument = Bytes l } ∷ fs ++ (us ++ vs)) string' folds');
          above = subst (λ fs. AreOfTier 1 fs) (sym folds') (fold_tier s.hashing s.bagging r.inactive all);
          below = tiers_joined 2 us vs (pins_tier s.hashing b before) (pinned_over_tier s.hashing b w (chosen r) (leaf_given s.hashing r) over (drop (i + j) r.digests));
          first = λ g lists. found_is ∙ claims_are ∙ walks_find_first.pinned s r pins root some_ok f g lists;
        }
