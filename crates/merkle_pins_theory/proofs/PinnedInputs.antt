-- What a check of a range with pins hashes, by the digests of the peaks.
use Rattle.std.proofs.Common.{◌≡◌, ℕ, suc, ◌+◌, ◌<◌, ◌≤◌, Bool, true, false, not, cond, ◌||◌, nat_le, List, [], ◌∷◌, ◌++◌, refl, ap, ap₂, sym, ◌∙◌, subst}
use Rattle.std.proofs.Common.{arith, inr, length, map, flat_map, filter, take, drop, Option, Some, option_map, append-nil, leb-true}
use Rattle.std.proofs.lemmas.List.{map-append, length-drop}
use Rattle.std.proofs.lemmas.Grind.{flat_map-append}
use Rattle.std.specs.List.{AllByRecursion}
use Rattle.merkle_base.specs.Forest.{forest}
use Rattle.merkle_base.specs.Hashing.{Hashing}
use Rattle.merkle_base.specs.Places.{peaks_of, wholly_before}
use Rattle.merkle_base.specs.Root.{root_string}
use Rattle.merkle_base.specs.Scheme.{Scheme}
use Rattle.merkle_base.specs.Tree.{Tree, leaf, join, first_leaf, end_leaf, IsBuilt}
use Rattle.merkle_base.proofs.Cases.{by_test}
use Rattle.merkle_base.proofs.Nodes.{all_append, width_pos}
use Rattle.merkle_base.proofs.PeakLists.{peaks_built, peaks_spans}
use Rattle.merkle_root_theory.specs.Expression.{Root, Node, Bytes, Input, Expression, supplied, computed, cross_checked, value, visited, is_node}
use Rattle.merkle_root_theory.specs.Check.{in_range, chosen, leaf_given, all_inputs}
use Rattle.merkle_root_theory.specs.Claim.{next, tree_claim}
use Rattle.merkle_root_theory.specs.Layouts.{count_before, count_after}
use Rattle.merkle_root_theory.specs.Outside.{Met, Unmet, HasLayout}
use Rattle.merkle_root_theory.specs.Plan.{Plan, peak, root_plan, tree_meets, siblings, outside_parts}
use Rattle.merkle_root_theory.specs.Range.{end_of, overlapping, wholly_after, range_parts, range_siblings, AcceptsNonempty}
use Rattle.merkle_root_theory.specs.Walk.{peak_values}
use Rattle.merkle_root_theory.proofs.Extraction.{all_filter}
use Rattle.merkle_root_theory.proofs.LayoutFolds.{parts_after}
use Rattle.merkle_root_theory.proofs.LayoutRoot.{unmet_parts_after, length-parts_after, layout_counts}
use Rattle.merkle_root_theory.proofs.PeakGroups.{groups, some_over, meets_not, meets_yes, unmet_before, unmet_after, met_over, range_layout}
use Rattle.merkle_claim_theory.specs.Pinned.{pinned_on}
use Rattle.merkle_claim_theory.specs.PinnedClaim.{pin_tree, outside_tree, pinned_tree, pinned_claim}
use Rattle.merkle_claim_theory.specs.Rebuilt.{AllRebuilt, rebuilt_node, pin_at, IsRebuilt}
use Rattle.merkle_claim_theory.specs.Verdict.{pinned_inputs}
use Rattle.merkle_claim_theory.proofs.ListedDigests.{plan_for}
use Rattle.merkle_claim_theory.proofs.RebuiltPins.{rebuilt_split, pinned_is_rebuilt}
use Rattle.merkle_audit_theory.specs.Folds.{top_inputs}
use Rattle.merkle_pins_theory.specs.PinnedFolds.{pinned_over_inputs, PinnedByPeaks}
use Rattle.merkle_pins_theory.proofs.ExpressionFolds.{AreNodes, plain, folded_of, plain_value, plain_visited, folded_value, folded_inputs}
use Rattle.merkle_pins_theory.proofs.PinnedFolds.{claimed, pin, all_claimed, over_claimed, all_over, parts_folded}
use Rattle.merkle_pins_theory.proofs.PinnedTiers.{only_nodes, pin_tier, pinned_tier}

-- ---- peaks before a location, and after one
pub all_before : (a : ℕ) (ts : List Tree) → AllByRecursion (λ t. end_leaf t ≤ a) (wholly_before a ts)
all_before a [] = tt
all_before a (t ∷ ts) = by_test (λ z. nat_le (end_leaf t) a ≡ z → AllByRecursion (λ t. end_leaf t ≤ a) (cond z (t ∷ wholly_before a ts) (wholly_before a ts))) (nat_le (end_leaf t) a)
    (λ _ q. (leb-true (end_leaf t) a q, all_before a ts)) (λ _ q. all_before a ts) refl

pub all_after : (b : ℕ) (ts : List Tree) → AllByRecursion (λ t. b ≤ first_leaf t) (wholly_after b ts)
all_after b [] = tt
all_after b (t ∷ ts) = by_test (λ z. nat_le b (first_leaf t) ≡ z → AllByRecursion (λ t. b ≤ first_leaf t) (cond z (t ∷ wholly_after b ts) (wholly_after b ts))) (nat_le b (first_leaf t))
    (λ _ q. (leb-true b (first_leaf t) q, all_after b ts)) (λ _ q. all_after b ts) refl

module _ (start : ℕ) (ns : List Tree) where
  -- a node before the range has leaves before it, and one after it has none
  pub old_met : (t : Tree) → IsBuilt ns t → end_leaf t ≤ start → tree_meets (in_range 0 start) t ≡ true
  old_met t built x = meets_yes 0 start ns t built (omega (arith, x, width_pos t)) (omega (arith, width_pos t)) (omega (arith, x, width_pos t))

  pub new_unmet : (t : Tree) → IsBuilt ns t → start ≤ first_leaf t → tree_meets (in_range 0 start) t ≡ false
  new_unmet t built x = meets_not 0 start ns t built (inr x)

  all_met : (ts : List Tree) → AllByRecursion (IsBuilt ns) ts → AllByRecursion (λ t. end_leaf t ≤ start) ts → Met (in_range 0 start) ts
  all_met [] b x = tt
  all_met (t ∷ ts) b x = (old_met t b.0 x.0, all_met ts b.1 x.1)

  none_met : (ts : List Tree) → AllByRecursion (IsBuilt ns) ts → AllByRecursion (λ t. start ≤ first_leaf t) ts → Unmet (in_range 0 start) ts
  none_met [] b x = tt
  none_met (t ∷ ts) b x = (new_unmet t b.0 x.0, none_met ts b.1 x.1)

pub all_weaker : (a b : ℕ) → a ≤ b → (ts : List Tree) → AllByRecursion (λ t. b ≤ first_leaf t) ts → AllByRecursion (λ t. a ≤ first_leaf t) ts
all_weaker a b l [] x = tt
all_weaker a b l (t ∷ ts) x = (omega (arith, l, x.0), all_weaker a b l ts x.1)

-- ---- values and inputs of what is computed
module _ {D : Type 0} (h : Hashing D) (b : ℕ → Option D) (w c : ℕ → Bool) (X : ℕ → D) where
  given_value : (y : Bool) (d : D) (e : Expression D) → (y ≡ true → d ≡ value h e) → value h (cond y (cross_checked d e) (supplied d)) ≡ d
  given_value true d e f = sym (f refl)
  given_value false d e f = refl

  -- where the digests that lie before the range are those that the pins rebuild, the range check has the same digest
  pub tree_value : (t : Tree) (ds : List D) → AllRebuilt h (tree_meets w) (rebuilt_node h b) (siblings c t) ds → value h (pinned_tree h b w c X t ds) ≡ value h (tree_claim h c X t ds)
  tree_value (leaf p i) ds =
      by_test (λ y. AllRebuilt h (tree_meets w) (rebuilt_node h b) (cond y [] (leaf p i ∷ [])) ds
      → value h (cond y (supplied (X i)) (outside_tree h b w (leaf p i) (next h ds))) ≡ value h (cond y (supplied (X i)) (supplied (next h ds)))) (c i)
      (λ _ x. refl) (λ _ x. given_value (tree_meets w (leaf p i)) (next h ds) (pin_tree h b (leaf p i)) x.0)
  tree_value (join p l r) ds =
      let es = drop (length (siblings c l)) ds in
      let u = tree_value l ds in
      let v = tree_value r es in
      by_test (λ y. AllRebuilt h (tree_meets w) (rebuilt_node h b) (cond y (siblings c l ++ siblings c r) (join p l r ∷ [])) ds
      → value h (cond y (computed (Node p) (pinned_tree h b w c X l ds) (pinned_tree h b w c X r es)) (outside_tree h b w (join p l r) (next h ds)))
      ≡ value h (cond y (computed (Node p) (tree_claim h c X l ds) (tree_claim h c X r es)) (supplied (next h ds)))) (tree_meets c l || tree_meets c r)
      (λ _ x. let y = rebuilt_split h (tree_meets w) (rebuilt_node h b) (siblings c l) (siblings c r) ds x in ap₂ (h.node p) (u y.0) (v y.1))
      (λ _ x. given_value (tree_meets w (join p l r)) (next h ds) (pin_tree h b (join p l r)) x.0)

  over_values : (ts : List Tree) (ds : List D) → AllRebuilt h (tree_meets w) (rebuilt_node h b) (flat_map (siblings c) ts) ds → map (value h) (over_claimed h b w c X ts ds) ≡ peak_values h c X ts ds
  over_values [] ds x = refl
  over_values (t ∷ ts) ds x =
      let y = rebuilt_split h (tree_meets w) (rebuilt_node h b) (siblings c t) (flat_map (siblings c) ts) ds x in
      ap₂ (λ d es. d ∷ es) (plain_value h (pinned_tree h b w c X t ds) ∙ tree_value t ds y.0) (over_values ts (drop (length (siblings c t)) ds) y.1)

  over_visited : (ts : List Tree) (ds : List D) → flat_map (visited h) (over_claimed h b w c X ts ds) ≡ pinned_over_inputs h b w c X ts ds
  over_visited [] ds = refl
  over_visited (t ∷ ts) ds = ap₂ ◌++◌ (plain_visited h (pinned_tree h b w c X t ds)) (over_visited ts (drop (length (siblings c t)) ds))

  pin_values : (ts : List Tree) → map (value h) (map (pin h b w c X) ts) ≡ map (rebuilt_node h b) ts
  pin_values [] = refl
  pin_values (t ∷ ts) = ap₂ (λ d es. d ∷ es) (plain_value h (pin_tree h b t)) (pin_values ts)

  pin_visited : (ts : List Tree) → flat_map (visited h) (map (pin h b w c X) ts) ≡ flat_map (λ t. visited h (pin_tree h b t)) ts
  pin_visited [] = refl
  pin_visited (t ∷ ts) = ap₂ ◌++◌ (plain_visited h (pin_tree h b t)) (pin_visited ts)

  given_values : (ds : List D) → map (value h) (map supplied ds) ≡ ds
  given_values [] = refl
  given_values (d ∷ ds) = ap (λ es. d ∷ es) (given_values ds)

  given_visited : (ds : List D) → flat_map (visited h) (map supplied ds) ≡ []
  given_visited [] = refl
  given_visited (d ∷ ds) = given_visited ds

  -- nothing but nodes
  abbrev Each : List (Expression D) → Type 0
  Each es = AllByRecursion (λ (e : Expression D). AreNodes h (visited h e)) es

  pins_nodes : (ts : List Tree) → Each (map (pin h b w c X) ts)
  pins_nodes [] = tt
  pins_nodes (t ∷ ts) = (subst (AreNodes h) (sym (plain_visited h (pin_tree h b t))) (only_nodes h (visited h (pin_tree h b t)) (pin_tier h b t)), pins_nodes ts)

  over_nodes : (ts : List Tree) (ds : List D) → Each (over_claimed h b w c X ts ds)
  over_nodes [] ds = tt
  over_nodes (t ∷ ts) ds = (
    subst (AreNodes h) (sym (plain_visited h (pinned_tree h b w c X t ds))) (only_nodes h (visited h (pinned_tree h b w c X t ds)) (pinned_tier h b w c X t ds)),
    over_nodes ts (drop (length (siblings c t)) ds),
  )

  given_nodes : (ds : List D) → Each (map supplied ds)
  given_nodes [] = tt
  given_nodes (d ∷ ds) = ((refl, refl), given_nodes ds)

  -- ---- all together
  module _ (before over : List Tree) (rest given : List D) (rebuilt : AllRebuilt h (tree_meets w) (rebuilt_node h b) (flat_map (siblings c) over) rest) where
    pub all_values : map (value h) (map (pin h b w c X) before ++ (over_claimed h b w c X over rest ++ map supplied given)) ≡ map (rebuilt_node h b) before ++ (peak_values h c X over rest ++ given)
    all_values =
        map-append (value h) (map (pin h b w c X) before) (over_claimed h b w c X over rest ++ map supplied given)
        ∙ ap₂ ◌++◌ (pin_values before) (map-append (value h) (over_claimed h b w c X over rest) (map supplied given) ∙ ap₂ ◌++◌ (over_values over rest rebuilt) (given_values given))

    pub all_visited : flat_map (visited h) (map (pin h b w c X) before ++ (over_claimed h b w c X over rest ++ map supplied given))
        ≡ flat_map (λ t. visited h (pin_tree h b t)) before ++ pinned_over_inputs h b w c X over rest
    all_visited =
        flat_map-append (visited h) (map (pin h b w c X) before) (over_claimed h b w c X over rest ++ map supplied given)
        ∙ ap₂ ◌++◌ (pin_visited before)
        (flat_map-append (visited h) (over_claimed h b w c X over rest) (map supplied given) ∙ ap₂ ◌++◌ (over_visited over rest) (given_visited given)
        ∙ append-nil (pinned_over_inputs h b w c X over rest))

    pub all_nodes : AllByRecursion (λ (e : Expression D). AreNodes h (visited h e)) (map (pin h b w c X) before ++ (over_claimed h b w c X over rest ++ map supplied given))
    all_nodes =
        let P = λ (e : Expression D). AreNodes h (visited h e) in
        all_append P (map (pin h b w c X) before) (over_claimed h b w c X over rest ++ map supplied given) (pins_nodes before)
        (all_append P (over_claimed h b w c X over rest) (map supplied given) (over_nodes over rest) (given_nodes given))

-- ---- under a root
module _ {D : Type 0} (s : Scheme D) (n k : ℕ) where
  abbrev rooted : Option (Expression D) → List (Input D)
  rooted o = all_inputs s n k o

  plain_rooted : (e : Expression D) → rooted (Some e) ≡ rooted (Some (plain e))
  plain_rooted e =
      let x : D → Input D = λ d. record { place = Root; argument = Bytes (root_string s.hashing s.domain s.bagging n k (Some d)) } in
      ap₂ (λ d xs. x d ∷ (filter (λ (i : Input D). not (is_node i.place)) xs ++ filter (λ (i : Input D). is_node i.place) xs)) (sym (plain_value s.hashing e)) (sym (plain_visited s.hashing e))

  pub folded_rooted : (es : List (Expression D)) → AllByRecursion (λ (e : Expression D). AreNodes s.hashing (visited s.hashing e)) es
      → all_inputs s n k (folded_of s.bagging k es) ≡ top_inputs s n k (map (value s.hashing) es) ++ flat_map (visited s.hashing) es
  folded_rooted es o =
      let x : Option D → Input D = λ d. record { place = Root; argument = Bytes (root_string s.hashing s.domain s.bagging n k d) } in
      ap₂ (λ d xs. x d ∷ xs) (sym (folded_value s.hashing s.bagging k es)) (folded_inputs s.hashing s.bagging k es o)

pub pinned_by_peaks : {D : Type 0} → PinnedByPeaks D
pinned_by_peaks {D = D} s r pins root ok = at (wholly_before r.start ts) (overlapping r.start (end_of r) ts) (wholly_after (end_of r) ts)
    (some_over r.start (end_of r) 0 r.leaves ts less (peaks_spans s.rule r.leaves) (omega arith) (omega (arith, ok.within, less)))
    (unmet_before r.start (end_of r) ns ts built) (met_over r.start (end_of r) ns ts less built) (unmet_after r.start (end_of r) ns ts built)
    (all_met r.start ns (wholly_before r.start ts) (all_filter (IsBuilt ns) _ ts built) (all_before r.start ts))
    (none_met r.start ns (wholly_after (end_of r) ts) (all_filter (IsBuilt ns) _ ts built) (all_weaker r.start (end_of r) (omega (arith, less)) (wholly_after (end_of r) ts) (all_after (end_of r) ts)))
    (groups r.start (end_of r) 0 r.leaves ts less (peaks_spans s.rule r.leaves))
    (omega (arith, both.0.counts, layout_counts s r)) parts_are
    (ap (λ m. drop m r.digests) (layout_counts s r)) both.1.nodes
  where
    ts : List Tree
    ts = peaks_of s.rule r.leaves

    ns : List Tree
    ns = (forest s.rule r.leaves).nodes

    less : r.start < end_of r
    less = omega (arith, ok.nonempty)

    built : AllByRecursion (IsBuilt (forest s.rule r.leaves).nodes) (peaks_of s.rule r.leaves)
    built = peaks_built s.rule r.leaves

    both : AcceptsNonempty s r root × IsRebuilt s r pins
    both = (pinned_is_rebuilt s r pins root).0 ok

    plan : (p : Plan) × (root_plan s.bagging r.inactive ts ≡ Some p)
    plan = plan_for s r.leaves r.inactive (omega (arith, ok.within, ok.nonempty))

    parts_are : length (outside_parts (chosen r) plan.0)
        ≡ count_before s.bagging r.inactive (wholly_before r.start ts) + count_after s.bagging r.inactive
        (length (wholly_before r.start ts) + length (overlapping r.start (end_of r) ts)) (wholly_after (end_of r) ts)
    parts_are = ap length (subst (HasLayout (chosen r) (range_parts s.bagging r.inactive r.start (end_of r) ts)
        (range_siblings r.start (end_of r) ts)) plan.1 (range_layout s r.leaves r.inactive r.start (end_of r) less ok.within)).0 ∙ layout_counts s r

    at : (before over after : List Tree) → (over ≡ [] → ⊥) → Unmet (chosen r) before → Met (chosen r) over → Unmet (chosen r) after
        → Met (in_range 0 r.start) before → Unmet (in_range 0 r.start) after → peaks_of s.rule r.leaves ≡ before ++ (over ++ after)
        → count_before s.bagging r.inactive before + count_after s.bagging r.inactive (length before + length over) after ≤ length r.digests
        → length (outside_parts (chosen r) plan.0) ≡ count_before s.bagging r.inactive before + count_after s.bagging r.inactive (length before + length over) after
        → drop (length (range_parts s.bagging r.inactive r.start (end_of r) (peaks_of s.rule r.leaves))) r.digests
        ≡ drop (count_before s.bagging r.inactive before + count_after s.bagging r.inactive (length before + length over) after) r.digests
        → AllRebuilt s.hashing (tree_meets (in_range 0 r.start)) (rebuilt_node s.hashing (pin_at s r.start pins))
        (flat_map (siblings (chosen r)) over) (drop (length (range_parts s.bagging r.inactive r.start (end_of r) (peaks_of s.rule r.leaves))) r.digests)
        → pinned_inputs s r pins
        ≡ top_inputs s r.leaves r.inactive (map (rebuilt_node s.hashing (pin_at s r.start pins)) before
        ++ (peak_values s.hashing (chosen r) (leaf_given s.hashing r) over
        (drop (count_before s.bagging r.inactive before + count_after s.bagging r.inactive (length before + length over) after) r.digests)
        ++ take (count_after s.bagging r.inactive (length before + length over) after) (drop (count_before s.bagging r.inactive before) r.digests)))
        ++ (flat_map (λ t. visited s.hashing (pin_tree s.hashing (pin_at s r.start pins) t)) before
        ++ pinned_over_inputs s.hashing (pin_at s r.start pins) (in_range 0 r.start) (chosen r) (leaf_given s.hashing r) over
        (drop (count_before s.bagging r.inactive before + count_after s.bagging r.inactive (length before + length over) after) r.digests))
    at before [] after x u m v y z split enough parts moved rebuilt = absurd (x refl)
    at before (t ∷ over) after x u m v y z split enough parts moved rebuilt =
        let b = pin_at s r.start pins in
        let w = in_range 0 r.start in
        let c = chosen r in
        let X = leaf_given s.hashing r in
        let k = r.inactive in
        let met = length before + suc (length over) in
        let i = count_before s.bagging k before in
        let j = count_after s.bagging k met after in
        let rest = drop (i + j) r.digests in
        let ps = parts_after s.bagging k met after in
        let long : length ps ≡ j = length-parts_after s.bagging k met after in
        let fits : length ps ≤ length (drop i r.digests) = omega (arith, enough, long, length-drop i r.digests) in
        let there : all_claimed s.hashing b w c X (map peak (t ∷ over) ++ ps) (drop i r.digests) rest ≡ over_claimed s.hashing b w c X (t ∷ over) rest ++ map supplied (take j (drop i r.digests)) =
        all_over s.hashing b w c X (t ∷ over) ps (drop i r.digests) rest m (unmet_parts_after c s.bagging k met after v) (unmet_parts_after w s.bagging k met after z) fits
        ∙ ap (λ n. over_claimed s.hashing b w c X (t ∷ over) rest ++ map supplied (take n (drop i r.digests))) long in
        let given = take j (drop i r.digests) in
        let again = subst (AllRebuilt s.hashing (tree_meets w) (rebuilt_node s.hashing b) (flat_map (siblings c) (t ∷ over))) moved rebuilt in
        let es = map (pin s.hashing b w c X) before ++ (over_claimed s.hashing b w c X (t ∷ over) rest ++ map supplied given) in
        let Q = λ (p : Plan). claimed s.hashing b w c X p r.digests rest in
        let folded : folded_of s.bagging k es ≡ Some (Q plan.0) =
        ap (λ xs. folded_of s.bagging k (map (pin s.hashing b w c X) before ++ xs)) (sym there)
        ∙ parts_folded s.hashing b w c X k t over after m v z r.digests rest s.bagging before u y
        ∙ ap (λ us. option_map Q (root_plan s.bagging k us)) (sym split) ∙ ap (option_map Q) plan.1 in
        ap (λ o. all_inputs s r.leaves k (option_map (pinned_on s r pins) o)) plan.1
        ∙ ap (λ n. all_inputs s r.leaves k (Some (pinned_claim s.hashing b w c X plan.0 r.digests (drop n r.digests)))) parts
        ∙ plain_rooted s r.leaves k (pinned_claim s.hashing b w c X plan.0 r.digests rest)
        ∙ ap (all_inputs s r.leaves k) (sym folded)
        ∙ folded_rooted s r.leaves k es (all_nodes s.hashing b w c X before (t ∷ over) rest given again)
        ∙ ap₂ (λ ds xs. top_inputs s r.leaves k ds ++ xs) (all_values s.hashing b w c X before (t ∷ over) rest given again) (all_visited s.hashing b w c X before (t ∷ over) rest given again)
