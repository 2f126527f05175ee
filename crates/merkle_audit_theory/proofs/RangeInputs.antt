-- What a range check hashes, by the digests of the parts.
use Rattle.std.proofs.Common.{◌≡◌, ℕ, suc, pred, ◌+◌, ◌-◌, ◌<◌, ◌≤◌, Bool, true, false, cond, ◌||◌, List, [], ◌∷◌, ◌++◌, length, map, flat_map, filter, take}
use Rattle.std.proofs.Common.{drop, refl, ap, ap₂, sym, ◌∙◌, subst, arith, Some, IfSome, option_map, length-append, append_assoc, append-nil}
use Rattle.std.proofs.lemmas.Bool.{false≢true}
use Rattle.std.proofs.lemmas.List.Elements.{filter-append}
use Rattle.std.specs.List.{AllByRecursion}
use Rattle.merkle_base.specs.Tree.{Tree, IsBuilt}
use Rattle.merkle_base.specs.Forest.{forest}
use Rattle.merkle_base.specs.Hashing.{Hashing}
use Rattle.merkle_base.specs.Places.{peaks_of, wholly_before}
use Rattle.merkle_base.specs.Root.{folded, root_string}
use Rattle.merkle_base.specs.declared.family.Bagging.{Bagging}
use Rattle.merkle_base.proofs.Cases.{by_test}
use Rattle.merkle_base.proofs.PeakLists.{peaks_built, peaks_spans}
use Rattle.merkle_root_theory.specs.Expression.{Root, Pair, Bytes, Input, Expression, supplied, computed, value, visited, is_node}
use Rattle.merkle_root_theory.specs.Check.{all_inputs, chosen, leaf_given, range_inputs}
use Rattle.merkle_root_theory.specs.Claim.{next, tree_claim, claim, claim_of}
use Rattle.merkle_root_theory.specs.Layouts.{count_before, count_after, count_inactive}
use Rattle.merkle_root_theory.specs.Outside.{folded_prefix, Met, Unmet, HasLayout}
use Rattle.merkle_root_theory.specs.Plan.{Plan, peak, folding, root_plan, node_expression, tree_meets, meets, siblings, outside_parts, path_siblings}
use Rattle.merkle_root_theory.specs.Range.{end_of, overlapping, wholly_after, range_parts, range_siblings}
use Rattle.merkle_root_theory.specs.Walk.{peak_values}
use Rattle.merkle_root_theory.proofs.LayoutFolds.{parts_before, parts_after, parts_folded}
use Rattle.merkle_root_theory.proofs.LayoutRoot.{unmet_parts_before, unmet_parts_after, length-parts_before, length-parts_after, layout_counts}
use Rattle.merkle_root_theory.proofs.PartValues.{part_values, values_are}
use Rattle.merkle_root_theory.proofs.PeakGroups.{groups, some_over, unmet_before, unmet_after, met_over, range_layout}
use Rattle.merkle_claim_theory.proofs.ListedDigests.{plan_for}
use Rattle.merkle_claim_theory.proofs.PlacesOnce.{member_map}
use Rattle.merkle_audit_theory.specs.Folds.{numbered_inputs, over_inputs, RangeByPeaks}
use Rattle.merkle_audit_theory.proofs.ClaimCuts.{claim_cut, cut_seen}
use Rattle.merkle_audit_theory.proofs.ClaimFolds.{folds}
use Rattle.merkle_audit_theory.proofs.FoldedPlans.{FoldsApart, root_apart}
use Rattle.merkle_audit_theory.proofs.NodeReads.{drop-drop, met_peaks, path_met, root_met, met_overlap}
use Rattle.merkle_audit_theory.proofs.PeakInputs.{filter_all, places_only}
use Rattle.merkle_audit_theory.proofs.RangeFolds.{IsHashed, folds_of, parts_hashed}
use Rattle.merkle_audit_theory.proofs.SublistFacts.{sub_member}

-- ---- the nodes of a claim
module _ {D : Type 0} (h : Hashing D) (c : ℕ → Bool) (Y : ℕ → D) where
  abbrev nodes_in : Expression D → List (Input D)
  nodes_in e = filter (λ (i : Input D). is_node i.place) (visited h e)

  over_append : (ts us : List Tree) (ds : List D) → over_inputs h c Y (ts ++ us) ds ≡ over_inputs h c Y ts ds ++ over_inputs h c Y us (drop (length (flat_map (siblings c) ts)) ds)
  over_append [] us ds = refl
  over_append (t ∷ ts) us ds =
      let n = length (siblings c t) in
      let xs = visited h (tree_claim h c Y t ds) in
      ap (λ z. xs ++ z) (over_append ts us (drop n ds) ∙ ap (λ z. over_inputs h c Y ts (drop n ds) ++ over_inputs h c Y us z)
      (sym (ap (λ m. drop m ds) (length-append (siblings c t) (flat_map (siblings c) ts)) ∙ drop-drop n (length (flat_map (siblings c) ts)) ds)))
      ∙ sym (append_assoc xs (over_inputs h c Y ts (drop n ds)) (over_inputs h c Y us (drop (length (flat_map (siblings c) (t ∷ ts))) ds)))

  peak_nodes : (t : Tree) (os is : List D) → nodes_in (claim h c Y (peak t) os is) ≡ visited h (claim h c Y (peak t) os is)
  peak_nodes t os is =
      let X = λ (i : ℕ). h.empty in
      filter_all (λ (i : Input D). is_node i.place) (visited h (claim h c Y (peak t) os is)) (λ i m.
      places_only h X t i.place (sub_member (cut_seen h (claim h c Y (peak t) os is) (node_expression X t) (claim_cut h X c Y (peak t) os is)) i.place
      (member_map (λ (x : Input D). x.place) (visited h (claim h c Y (peak t) os is)) i m)))

  claim_nodes : (p : Plan) (os is : List D) → FoldsApart p → nodes_in (claim h c Y p os is) ≡ over_inputs h c Y (met_peaks c p) is
  unfolding FoldsApart
  claim_nodes (peak t) os is f = peak_nodes t os is
      ∙ by_test (λ z. visited h (cond z (tree_claim h c Y t is) (supplied (next h os))) ≡ over_inputs h c Y (cond z (t ∷ []) []) is) (tree_meets c t)
      (λ _. sym (append-nil (visited h (tree_claim h c Y t is)))) (λ _. refl)
  claim_nodes (folding place l r) os is f =
      let os' = drop (length (outside_parts c l)) os in
      let is' = drop (length (path_siblings c l)) is in
      let L = claim h c Y l os is in
      let R = claim h c Y r os' is' in
      let both = visited h L ++ visited h R in
      let e : over_inputs h c Y (met_peaks c l ++ met_peaks c r) is ≡ over_inputs h c Y (met_peaks c l) is ++ over_inputs h c Y (met_peaks c r) is' =
      over_append (met_peaks c l) (met_peaks c r) is ∙ ap (λ us. over_inputs h c Y (met_peaks c l) is ++ over_inputs h c Y (met_peaks c r) (drop (length us) is)) (sym (path_met c l)) in
      by_test (λ z. meets c l || meets c r ≡ z → nodes_in (cond z (computed place L R) (supplied (next h os))) ≡ over_inputs h c Y (met_peaks c l ++ met_peaks c r) is) (meets c l || meets c r)
      (λ _ _. ap (λ b. cond b (record { place = place; argument = Pair (value h L) (value h R) } ∷ filter (λ (i : Input D). is_node i.place) both) (filter (λ (i : Input D). is_node i.place) both)) f.0
      ∙ filter-append (λ (i : Input D). is_node i.place) (visited h L) (visited h R) ∙ ap₂ ◌++◌ (claim_nodes l os is f.1) (claim_nodes r os' is' f.2) ∙ sym e)
      (λ _ q. sym (ap (λ us. over_inputs h c Y us is) (none_met (folding place l r) q))) refl
    where
      none_met : (p : Plan) → meets c p ≡ false → met_peaks c p ≡ []
      none_met (peak t) q = ap (λ z. cond z (t ∷ []) []) q
      none_met (folding place l r) q = ap₂ ◌++◌ (none_met l (or_no (meets c l) (meets c r) q)) (none_met r (no_or (meets c l) (meets c r) q))
        where
          or_no : (a b : Bool) → a || b ≡ false → a ≡ false
          or_no false b e = refl
          or_no true b e = absurd (false≢true (sym e))

          no_or : (a b : Bool) → a || b ≡ false → b ≡ false
          no_or a false e = refl
          no_or false true e = absurd (false≢true (sym e))
          no_or true true e = absurd (false≢true (sym e))

  -- ---- by groups of peaks
  module _ (bagging : Bagging) (k : ℕ) (ds : List D) (before : List Tree) (t : Tree) (over after : List Tree) (u : Unmet c before) (m : Met c (t ∷ over)) (v : Unmet c after) where
    abbrev i : ℕ
    i = count_before bagging k before

    abbrev j : ℕ
    j = count_after bagging k (length before + suc (length over)) after

    abbrev rest : List D
    rest = drop (i + j) ds

    abbrev all : List D
    all = take i ds ++ (peak_values h c Y (t ∷ over) rest ++ take j (drop i ds))

    module _ (enough : i + j ≤ length ds) where
      values : part_values h c Y (parts_before bagging k before ++ (map peak (t ∷ over) ++ parts_after bagging k (length before + suc (length over)) after)) ds rest ≡ all
      values =
          let met = length before + suc (length over) in
          let i_is = length-parts_before bagging k before in let j_is = length-parts_after bagging k met after in
          values_are h c Y (parts_before bagging k before) (t ∷ over) (parts_after bagging k met after) ds rest
          (unmet_parts_before c bagging k before u) m (unmet_parts_after c bagging k met after v) (omega (arith, enough, i_is, j_is))
          ∙ ap₂ (λ x y. take x ds ++ (peak_values h c Y (t ∷ over) rest ++ take y (drop x ds))) i_is j_is

      pub fold_part : (p : Plan) → root_plan bagging k (before ++ (t ∷ over ++ after)) ≡ Some p
          → (folds h c Y p ds rest ≡ numbered_inputs h bagging k (count_inactive bagging k before) (suc (pred (length (folded_prefix bagging k before)))) all)
          × (Some (value h (claim h c Y p ds rest)) ≡ folded h.fold bagging (count_inactive bagging k before) all)
      unfolding IsHashed folds_of
      fold_part p e = (
        sym (ap (λ o. folds_of h c Y k t over after m v ds rest o) e) ∙ sym (parts_hashed h c Y k t over after m v ds rest bagging before u)
            ∙ ap (numbered_inputs h bagging k (count_inactive bagging k before) (suc (pred (length (folded_prefix bagging k before))))) values,
        sym (ap (option_map (λ q. value h (claim h c Y q ds rest))) e) ∙ sym (parts_folded h c Y k t over after m v ds rest bagging before)
            ∙ ap (folded h.fold bagging (count_inactive bagging k before)) values,
      )

pub range_by_peaks : {D : Type 0} → RangeByPeaks D
range_by_peaks {D = D} s r root ok =
    at (wholly_before a ts) (overlapping a b ts) (wholly_after b ts)
    (some_over a b 0 r.leaves ts less (peaks_spans s.rule r.leaves) (omega arith) (omega (arith, ok.within, less)))
    (unmet_before a b _ ts built) (met_over a b _ ts less built) (unmet_after a b _ ts built) (groups a b 0 r.leaves ts less (peaks_spans s.rule r.leaves))
    (omega (arith, ok.counts, layout_counts s r)) met_are parts_are
  where
    h : Hashing D
    h = s.hashing

    a : ℕ
    a = r.start

    b : ℕ
    b = end_of r

    ts : List Tree
    ts = peaks_of s.rule r.leaves

    less : r.start < end_of r
    less = omega (arith, ok.nonempty)

    built : AllByRecursion (IsBuilt (forest s.rule r.leaves).nodes) (peaks_of s.rule r.leaves)
    built = peaks_built s.rule r.leaves

    plan : (p : Plan) × (root_plan s.bagging r.inactive ts ≡ Some p)
    plan = plan_for s r.leaves r.inactive (omega (arith, ok.within, ok.nonempty))

    met_are : met_peaks (chosen r) plan.0 ≡ overlapping a b ts
    met_are = subst (λ o. IfSome o (λ p. met_peaks (chosen r) p ≡ filter (tree_meets (chosen r)) ts)) plan.1 (root_met (chosen r) s.bagging r.inactive ts)
        ∙ met_overlap a b less (forest s.rule r.leaves).nodes ts built

    parts_are : length (outside_parts (chosen r) plan.0)
        ≡ count_before s.bagging r.inactive (wholly_before a ts) + count_after s.bagging r.inactive
        (length (wholly_before a ts) + length (overlapping a b ts)) (wholly_after b ts)
    parts_are = ap length (subst (HasLayout (chosen r) (range_parts s.bagging r.inactive a b ts) (range_siblings a b ts)) plan.1
        (range_layout s r.leaves r.inactive a b less ok.within)).0 ∙ layout_counts s r

    at : (before over after : List Tree) → (over ≡ [] → ⊥) → Unmet (chosen r) before → Met (chosen r) over → Unmet (chosen r) after → ts ≡ before ++ (over ++ after)
        → count_before s.bagging r.inactive before + count_after s.bagging r.inactive (length before + length over) after ≤ length r.digests
        → met_peaks (chosen r) plan.0 ≡ over
        → length (outside_parts (chosen r) plan.0) ≡ count_before s.bagging r.inactive before + count_after s.bagging r.inactive (length before + length over) after
        → range_inputs s r
        ≡ record {
          place = Root;
          argument = Bytes (root_string s.hashing s.domain s.bagging r.leaves r.inactive (folded s.hashing.fold s.bagging (count_inactive s.bagging r.inactive before)
              (take (count_before s.bagging r.inactive before) r.digests
              ++ (peak_values s.hashing (chosen r) (leaf_given s.hashing r) over
              (drop (count_before s.bagging r.inactive before + count_after s.bagging r.inactive (length before + length over) after) r.digests)
              ++ take (count_after s.bagging r.inactive (length before + length over) after) (drop (count_before s.bagging r.inactive before) r.digests)))));
        }
        ∷ numbered_inputs s.hashing s.bagging r.inactive (count_inactive s.bagging r.inactive before) (suc (pred (length (folded_prefix s.bagging r.inactive before))))
        (take (count_before s.bagging r.inactive before) r.digests
        ++ (peak_values s.hashing (chosen r) (leaf_given s.hashing r) over
        (drop (count_before s.bagging r.inactive before + count_after s.bagging r.inactive (length before + length over) after) r.digests)
        ++ take (count_after s.bagging r.inactive (length before + length over) after) (drop (count_before s.bagging r.inactive before) r.digests)))
        ++ over_inputs s.hashing (chosen r) (leaf_given s.hashing r) over
        (drop (count_before s.bagging r.inactive before + count_after s.bagging r.inactive (length before + length over) after) r.digests)
    at before [] after x u m v split l met parts = absurd (x refl)
    at before (t ∷ over) after x u m v split l met parts =
        let Y = leaf_given s.hashing r in
        let c = chosen r in
        let E = λ (p : Plan). claim_of s.hashing c Y p r.digests in
        let w = fold_part s.hashing c Y s.bagging r.inactive r.digests before t over after u m v l plan.0 (sym (ap (root_plan s.bagging r.inactive) split) ∙ plan.1) in
        let rest = drop (count_before s.bagging r.inactive before + count_after s.bagging r.inactive (length before + suc (length over)) after) r.digests in
        let here : E plan.0 ≡ claim s.hashing c Y plan.0 r.digests rest = ap (λ n. claim s.hashing c Y plan.0 r.digests (drop n r.digests)) parts in
        ap (λ o. all_inputs s r.leaves r.inactive (option_map E o)) plan.1
        ∙ ap (λ e. all_inputs s r.leaves r.inactive (Some e)) here
        ∙ ap₂ (λ o xs. record { place = Root; argument = Bytes (root_string s.hashing s.domain s.bagging r.leaves r.inactive o) } ∷ xs) w.1
        (ap₂ ◌++◌ w.0 (claim_nodes s.hashing c Y plan.0 r.digests rest (subst (λ o. IfSome o FoldsApart) plan.1 (root_apart s.bagging r.inactive ts))
        ∙ ap (λ us. over_inputs s.hashing c Y us rest) met))
