-- The root that the digests of a layout lead to.
use Rattle.std.proofs.Common.{◌≡◌, ℕ, suc, ◌+◌, ◌-◌, ◌<◌, ◌≤◌, Bool, List, [], ◌∷◌, ◌++◌, length, map, take, drop, refl, ap, ap₂, sym, ◌∙◌, arith, Option, Some, None, option_map, length-append}
use Rattle.std.proofs.lemmas.List.{length-map, length-take, length-drop}
use Rattle.merkle_base.specs.Tree.{Tree}
use Rattle.merkle_base.specs.Hashing.{Hashing}
use Rattle.merkle_base.specs.Places.{peaks_of, wholly_before}
use Rattle.merkle_base.specs.Root.{folded, peaks_root, root_string}
use Rattle.merkle_base.specs.declared.family.Bagging.{Bagging}
use Rattle.merkle_base.specs.declared.family.Bagging.TheVariants.{ForwardFold, BackwardFold}
use Rattle.merkle_root_theory.specs.Expression.{Expression, value}
use Rattle.merkle_root_theory.specs.Plan.{Plan, peak, root_plan}
use Rattle.merkle_root_theory.specs.Claim.{claim, claim_of}
use Rattle.merkle_root_theory.specs.Outside.{fold_all, bag_all, folded_prefix, single_before, single_after, folded_suffix, Met, Unmet, HasLayout}
use Rattle.merkle_root_theory.specs.Layouts.{count_before, count_after, count_inactive}
use Rattle.merkle_root_theory.specs.Check.{RangeInput, chosen, leaf_given, range_expression, root_of}
use Rattle.merkle_base.specs.Scheme.{Scheme}
use Rattle.merkle_root_theory.specs.Range.{overlapping, wholly_after, range_parts, end_of}
use Rattle.merkle_root_theory.specs.Walk.{peak_values, ArePeakDigests}
use Rattle.merkle_base.proofs.PeakLists.{peaks_built, peaks_spans}
use Rattle.merkle_root_theory.proofs.PeakGroups.{groups, some_over, unmet_before, unmet_after, met_over}
use Rattle.merkle_root_theory.proofs.OutsideNodes.{outside_is_layout, left_fold_unmet, right_fold_unmet, unmet_take, unmet_drop}
use Rattle.merkle_root_theory.proofs.LayoutCounts.{length-layout, inactive_within}
use Rattle.merkle_root_theory.proofs.PartValues.{UnmetParts, unmet_peaks, unmet_append, values_are, length-peak_values}
use Rattle.merkle_root_theory.proofs.LayoutFolds.{parts_before, parts_after, parts_folded}

module _ (c : ℕ → Bool) where
  unmet_fold : (ts : List Tree) → Unmet c ts → UnmetParts c (fold_all ts)
  unmet_fold [] u = tt
  unmet_fold (t ∷ ts) u = (left_fold_unmet c (peak t) 1 ts u.0 u.1, tt)

  unmet_right_fold : (i : ℕ) (ts : List Tree) → Unmet c ts → UnmetParts c (bag_all i ts)
  unmet_right_fold i [] u = tt
  unmet_right_fold i (t ∷ ts) u = (right_fold_unmet c i t ts u, tt)

  pub unmet_parts_before : (bagging : Bagging) (k : ℕ) (before : List Tree) → Unmet c before → UnmetParts c (parts_before bagging k before)
  unmet_parts_before ForwardFold k before u = unmet_append c (fold_all before) [] (unmet_fold before u) tt
  unmet_parts_before BackwardFold k before u =
      unmet_append c (fold_all (take k before)) (map peak (drop k before)) (unmet_fold (take k before) (unmet_take c k before u)) (unmet_peaks c (drop k before) (unmet_drop c k before u))

  pub unmet_parts_after : (bagging : Bagging) (k met : ℕ) (after : List Tree) → Unmet c after → UnmetParts c (parts_after bagging k met after)
  unmet_parts_after ForwardFold k met after u = unmet_append c (map peak after) [] (unmet_peaks c after u) tt
  unmet_parts_after BackwardFold k met after u =
      let n = k - met in
      unmet_append c (map peak (take n after)) (bag_all (met + n) (drop n after)) (unmet_peaks c (take n after) (unmet_take c n after u))
      (unmet_right_fold (met + n) (drop n after) (unmet_drop c n after u))

pub length-parts_before : (bagging : Bagging) (k : ℕ) (before : List Tree) → length (parts_before bagging k before) ≡ count_before bagging k before
length-parts_before bagging k before =
    omega (arith, length-append (fold_all (folded_prefix bagging k before)) (map peak (single_before bagging k before)), length-map (single_before bagging k before) peak)

pub length-parts_after : (bagging : Bagging) (k met : ℕ) (after : List Tree) → length (parts_after bagging k met after) ≡ count_after bagging k met after
length-parts_after bagging k met after =
    omega (
      arith,
      length-append (map peak (single_after bagging k met after)) (bag_all (met + (k - met)) (folded_suffix bagging k met after)),
      length-map (single_after bagging k met after) peak,
    )

module _ {D : Type 0} (h : Hashing D) (c : ℕ → Bool) (X : ℕ → D) (bagging : Bagging) (k : ℕ) (ds : List D) where
  -- all digests that are folded, and the claim that they are folded to
  abbrev pub IsFoldedTo : List Tree → List Tree → List Tree → Type 0
  IsFoldedTo before over after =
      let i = count_before bagging k before in let j = count_after bagging k (length before + length over) after in
      folded h.fold bagging (count_inactive bagging k before) (take i ds ++ (peak_values h c X over (drop (i + j) ds) ++ take j (drop i ds)))
      ≡ option_map (λ p. value h (claim_of h c X p ds)) (root_plan bagging k (before ++ (over ++ after)))

  claim_counted : (n : ℕ) (os : List Plan) (is : List Tree) (o : Option Plan) → HasLayout c os is o → n ≡ length os
      → option_map (λ p. value h (claim h c X p ds (drop n ds))) o ≡ option_map (λ p. value h (claim_of h c X p ds)) o
  claim_counted n os is None w e = absurd w
  claim_counted n os is (Some p) w e = ap (λ i. Some (value h (claim h c X p ds (drop i ds)))) (e ∙ ap length (sym w.0))

  given_folded : (before : List Tree) (t : Tree) (over after : List Tree) → Unmet c before → Met c (t ∷ over) → Unmet c after
      → count_before bagging k before + count_after bagging k (length before + suc (length over)) after ≤ length ds → IsFoldedTo before (t ∷ over) after
  given_folded before t over after u m v l =
      let met = length before + suc (length over) in
      let i = count_before bagging k before in let j = count_after bagging k met after in
      let i_is = length-parts_before bagging k before in let j_is = length-parts_after bagging k met after in
      ap (folded h.fold bagging (count_inactive bagging k before))
      (sym (values_are h c X (parts_before bagging k before) (t ∷ over) (parts_after bagging k met after) ds (drop (i + j) ds)
      (unmet_parts_before c bagging k before u) m (unmet_parts_after c bagging k met after v) (omega (arith, l, i_is, j_is))
      ∙ ap₂ (λ x y. take x ds ++ (peak_values h c X (t ∷ over) (drop (i + j) ds) ++ take y (drop x ds))) i_is j_is))
      ∙ parts_folded h c X k t over after m v ds (drop (i + j) ds) bagging before
      ∙ claim_counted (i + j) _ _ (root_plan bagging k (before ++ (t ∷ over ++ after))) (outside_is_layout c bagging k before t over after u m v)
      (sym (length-layout bagging k before (t ∷ over) after))

module _ {D : Type 0} (s : Scheme D) (r : RangeInput D) where
  abbrev all_peaks : List Tree
  all_peaks = peaks_of s.rule r.leaves

  -- how many digests the input's shape asks for before those of the siblings
  abbrev pub input_before : ℕ
  input_before = count_before s.bagging r.inactive (wholly_before r.start all_peaks)

  abbrev pub input_after : ℕ
  input_after = count_after s.bagging r.inactive (length (wholly_before r.start all_peaks) + length (overlapping r.start (end_of r) all_peaks)) (wholly_after (end_of r) all_peaks)

  pub layout_counts : length (range_parts s.bagging r.inactive r.start (end_of r) all_peaks) ≡ input_before + input_after
  layout_counts = length-layout s.bagging r.inactive (wholly_before r.start all_peaks) (overlapping r.start (end_of r) all_peaks) (wholly_after (end_of r) all_peaks)

  module _ (some : 0 < length r.elements) where
    split : all_peaks ≡ wholly_before r.start all_peaks ++ (overlapping r.start (end_of r) all_peaks ++ wholly_after (end_of r) all_peaks)
    split = groups r.start (end_of r) 0 r.leaves all_peaks (omega (arith, some)) (peaks_spans s.rule r.leaves)

    -- all digests that the root folds
    abbrev AreGiven : List D → Type 0
    AreGiven all = ArePeakDigests s.hashing (chosen r) (leaf_given s.hashing r) (overlapping r.start (end_of r) all_peaks) input_before input_after r.digests all

    -- there are as many of them as it folds apart
    pub inactive_fits : (all : List D) → AreGiven all → r.inactive ≤ length all_peaks → count_inactive s.bagging r.inactive (wholly_before r.start all_peaks) ≤ length all
    inactive_fits all w low =
        let before = wholly_before r.start all_peaks in let over = overlapping r.start (end_of r) all_peaks in let after = wholly_after (end_of r) all_peaks in
        let i = input_before in let j = input_after in let ds = r.digests in
        let walked = peak_values s.hashing (chosen r) (leaf_given s.hashing r) over (drop (i + j) ds) in
        let enough = inactive_within s.bagging r.inactive before over after (omega (arith, low, ap length split, length-append before (over ++ after), length-append over after)) in
        omega (
          arith,
          enough,
          w.count,
          ap length w.digests,
          length-append (take i ds) (walked ++ take j (drop i ds)),
          length-append walked (take j (drop i ds)),
          length-peak_values s.hashing (chosen r) (leaf_given s.hashing r) over (drop (i + j) ds),
          length-take i ds,
          length-take j (drop i ds),
          length-drop i ds,
        )

    module _ (within : end_of r ≤ r.leaves) where
      input_folded : input_before + input_after ≤ length r.digests
          → IsFoldedTo s.hashing (chosen r) (leaf_given s.hashing r) s.bagging r.inactive r.digests (wholly_before r.start all_peaks)
          (overlapping r.start (end_of r) all_peaks) (wholly_after (end_of r) all_peaks)
      input_folded enough =
          let a = r.start in let b = end_of r in
          let less : a < b = omega (arith, some) in
          let built = peaks_built s.rule r.leaves in
          at (wholly_before a all_peaks) (overlapping a b all_peaks) (wholly_after b all_peaks)
          (some_over a b 0 r.leaves all_peaks less (peaks_spans s.rule r.leaves) (omega arith) (omega (arith, within, less)))
          (unmet_before a b _ all_peaks built) (met_over a b _ all_peaks less built) (unmet_after a b _ all_peaks built) enough
        where
          at : (before over after : List Tree) → (over ≡ [] → ⊥) → Unmet (chosen r) before → Met (chosen r) over → Unmet (chosen r) after
              → count_before s.bagging r.inactive before + count_after s.bagging r.inactive (length before + length over) after ≤ length r.digests
              → IsFoldedTo s.hashing (chosen r) (leaf_given s.hashing r) s.bagging r.inactive r.digests before over after
          at before [] after x u m v l = absurd (x refl)
          at before (t ∷ over) after x u m v l = given_folded s.hashing (chosen r) (leaf_given s.hashing r) s.bagging r.inactive r.digests before t over after u m v l

      -- the root over them is the one that the input leads to
      pub layout_root : (all : List D) → AreGiven all
          → peaks_root s r.leaves (count_inactive s.bagging r.inactive (wholly_before r.start all_peaks)) r.inactive all ≡ root_of s r.leaves r.inactive (range_expression s r)
      layout_root all w =
          let V : Plan → Expression D = λ p. claim_of s.hashing (chosen r) (leaf_given s.hashing r) p r.digests in
          ap (λ o. s.hashing.hash (root_string s.hashing s.domain s.bagging r.leaves r.inactive o))
          (ap (folded s.hashing.fold s.bagging (count_inactive s.bagging r.inactive (wholly_before r.start all_peaks))) w.digests ∙ input_folded (omega (arith, w.count))
          ∙ ap (λ z. option_map (λ p. value s.hashing (V p)) (root_plan s.bagging r.inactive z)) (sym split) ∙ option_twice V (value s.hashing) (root_plan s.bagging r.inactive all_peaks))
        where
          option_twice : {A B C : Type 0} (f : A → B) (g : B → C) (o : Option A) → option_map (λ x. g (f x)) o ≡ option_map g (option_map f o)
          option_twice f g None = refl
          option_twice f g (Some x) = refl
