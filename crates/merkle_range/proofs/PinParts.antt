-- What the pinned check compares of a layout: the parts before the range, and the siblings before it under one peak.
use Rattle.std.proofs.Common.{◌≡◌, ℕ, zero, suc, Bool, true, cond, ◌||◌, ◌&&◌, nat_le, nat_lt, ◌+◌, ◌-◌, ◌<◌, ◌≤◌, List, [], ◌∷◌, ◌++◌, map, take, drop, length}
use Rattle.std.proofs.Common.{length-append, flat_map, Option, ◌↔◌, inr, refl, ap, ap₂, sym, ◌∙◌, subst, arith, leb-true, ltb-true}
use Rattle.std.specs.List.{AllByRecursion}
use Rattle.std.proofs.lemmas.Bool.{false≢true, and_parts}
use Rattle.std.proofs.lemmas.List.{length-take}
use Rattle.merkle_base.proofs.Cases.{by_test}
use Rattle.merkle_base.proofs.Lists.{cons_head, cons_tail}
use Rattle.merkle_base.proofs.Nodes.{width_pos}
use Rattle.merkle_base.proofs.PeakLists.{Spans, filter_yes, filter_no, peaks_built, peaks_spans}
use Rattle.merkle_base.specs.Hashing.{Hashing}
use Rattle.merkle_base.specs.Places.{peaks_of, wholly_before}
use Rattle.merkle_base.specs.Tree.{Tree, first_leaf, width, end_leaf, IsBuilt}
use Rattle.merkle_base.specs.declared.family.Bagging.{Bagging}
use Rattle.merkle_base.specs.declared.family.Bagging.TheVariants.{ForwardFold, BackwardFold}
use Rattle.merkle_root_theory.specs.Expression.{PrefixFold}
use Rattle.merkle_root_theory.specs.Outside.{fold_all, bag_all, folded_prefix, single_before, single_after, folded_suffix, layout, Unmet, Met}
use Rattle.merkle_root_theory.specs.Plan.{Plan, peak, folding, left_fold_plan, tree_meets, meets, siblings}
use Rattle.merkle_root_theory.specs.Check.{in_range}
use Rattle.merkle_root_theory.specs.Range.{overlapping, wholly_after, range_parts, range_siblings}
use Rattle.merkle_root_theory.specs.Layouts.{count_before}
use Rattle.merkle_root_theory.proofs.OutsideNodes.{right_fold_unmet, unmet_take, unmet_drop}
use Rattle.merkle_root_theory.proofs.PeakGroups.{groups, meets_yes, meets_not}
use Rattle.merkle_claim_theory.specs.Rebuilt.{AllRebuilt, rebuilt_node, rebuilt_part}
use Rattle.merkle_claim_theory.proofs.RebuiltPins.{rebuilt_append, rebuilt_split}
use Rattle.merkle_hasher.specs.Subtrees.{subtree_of}
use Rattle.merkle_hasher.specs.declared.subtree.Subtree.{Subtree}
use Rattle.merkle_range.proofs.IndividualPeaks.{before_dropped, prefix_taken}
use Rattle.merkle_range.proofs.PinWalks.{unmet_rebuilt}

-- ---- lists of peaks
module _ (w : ℕ → Bool) where
  met_take : (n : ℕ) (ts : List Tree) → Met w ts → Met w (take n ts)
  met_take zero ts m = tt
  met_take (suc n) [] m = tt
  met_take (suc n) (t ∷ ts) m = (m.0, met_take n ts m.1)

  met_drop : (n : ℕ) (ts : List Tree) → Met w ts → Met w (drop n ts)
  met_drop zero ts m = m
  met_drop (suc n) [] m = tt
  met_drop (suc n) (t ∷ ts) m = met_drop n ts m.1

  met_prefix : (bagging : Bagging) (k : ℕ) (ts : List Tree) → Met w ts → Met w (folded_prefix bagging k ts)
  met_prefix ForwardFold k ts m = m
  met_prefix BackwardFold k ts m = met_take k ts m

  met_single : (bagging : Bagging) (k : ℕ) (ts : List Tree) → Met w ts → Met w (single_before bagging k ts)
  met_single ForwardFold k ts m = tt
  met_single BackwardFold k ts m = met_drop k ts m

  unmet_single : (bagging : Bagging) (k met : ℕ) (ts : List Tree) → Unmet w ts → Unmet w (single_after bagging k met ts)
  unmet_single ForwardFold k met ts u = u
  unmet_single BackwardFold k met ts u = unmet_take w (k - met) ts u

  unmet_suffix : (bagging : Bagging) (k met : ℕ) (ts : List Tree) → Unmet w ts → Unmet w (folded_suffix bagging k met ts)
  unmet_suffix ForwardFold k met ts u = tt
  unmet_suffix BackwardFold k met ts u = unmet_drop w (k - met) ts u

  left_fold_met : (acc : Plan) (i : ℕ) (ts : List Tree) → meets w acc ≡ true → meets w (left_fold_plan acc i ts) ≡ true
  left_fold_met acc i [] e = e
  left_fold_met acc i (t ∷ ts) e = left_fold_met (folding (PrefixFold i) acc (peak t)) (suc i) ts (ap (λ z. z || tree_meets w t) e)

-- ---- parts
module _ {D : Type 0} (h : Hashing D) (b : ℕ → Option D) where
  abbrev pub FoldRebuilt : List Tree → List D → Type 0
  FoldRebuilt ts ds = AllRebuilt h (λ _. true) (rebuilt_part h b) (fold_all ts) ds

  abbrev pub EachRebuilt : List Tree → List D → Type 0
  EachRebuilt ts ds = AllRebuilt h (λ _. true) (rebuilt_node h b) ts ds

module _ {D : Type 0} (h : Hashing D) (b : ℕ → Option D) (w : ℕ → Bool) where
  abbrev Parts : List Plan → List D → Type 0
  Parts ps ds = AllRebuilt h (meets w) (rebuilt_part h b) ps ds

  fold_marked : (ts : List Tree) → Met w ts → (ds : List D) → Parts (fold_all ts) ds ↔ FoldRebuilt h b ts ds
  fold_marked [] m ds = ((λ x. x), (λ x. x))
  fold_marked (t ∷ ts) m ds = ((λ x. ((λ _. x.0 (left_fold_met w (peak t) 1 ts m.0)), tt)), (λ x. ((λ _. x.0 refl), tt)))

  singles_marked : (ts : List Tree) → Met w ts → (ds : List D) → Parts (map peak ts) ds ↔ EachRebuilt h b ts ds
  singles_marked [] m ds = ((λ x. x), (λ x. x))
  singles_marked (t ∷ ts) m ds = let k = singles_marked ts m.1 (drop 1 ds) in ((λ x. ((λ _. x.0 m.0), k.0 x.1)), (λ x. ((λ _. x.0 refl), k.1 x.1)))

  singles_unmarked : (ts : List Tree) → Unmet w ts → (ds : List D) → Parts (map peak ts) ds
  singles_unmarked [] u ds = tt
  singles_unmarked (t ∷ ts) u ds = ((λ q. absurd (false≢true (sym u.0 ∙ q))), singles_unmarked ts u.1 (drop 1 ds))

  right_fold_unmarked : (i : ℕ) (ts : List Tree) → Unmet w ts → (ds : List D) → Parts (bag_all i ts) ds
  right_fold_unmarked i [] u ds = tt
  right_fold_unmarked i (t ∷ ts) u ds = ((λ q. absurd (false≢true (sym (right_fold_unmet w i t ts u) ∙ q))), tt)

  -- of the parts of a layout the fold before the range and the single peaks before it are compared
  pub layout_rebuilt : (bagging : Bagging) (k : ℕ) (before over after : List Tree) → Met w before → Unmet w after → (ds : List D)
      → (FoldRebuilt h b (folded_prefix bagging k before) ds × EachRebuilt h b (single_before bagging k before) (drop (length (fold_all (folded_prefix bagging k before))) ds))
      ↔ Parts (layout bagging k before over after) ds
  layout_rebuilt bagging k before over after m u ds =
      let met = length before + length over in
      let prefix = folded_prefix bagging k before in let single = single_before bagging k before in
      let later = single_after bagging k met after in let suffix = folded_suffix bagging k met after in
      let i = met + (k - met) in
      let first = fold_marked prefix (met_prefix w bagging k before m) ds in
      let rest = drop (length (fold_all prefix)) ds in
      let second = singles_marked single (met_single w bagging k before m) rest in
      let end = drop (length (map peak single)) rest in
      let others = rebuilt_append h (meets w) (rebuilt_part h b) (map peak later) (bag_all i suffix) end (singles_unmarked later (unmet_single w bagging k met after u) end)
      (right_fold_unmarked i suffix (unmet_suffix w bagging k met after u) (drop (length (map peak later)) end)) in (
        (λ x. rebuilt_append h (meets w) (rebuilt_part h b) (fold_all prefix) (map peak single ++ (map peak later ++ bag_all i suffix)) ds (first.1 x.0)
            (rebuilt_append h (meets w) (rebuilt_part h b) (map peak single) (map peak later ++ bag_all i suffix) rest (second.1 x.1) others)),
        (λ x. let y = rebuilt_split h (meets w) (rebuilt_part h b) (fold_all prefix) (map peak single ++ (map peak later ++ bag_all i suffix)) ds x in
            let z = rebuilt_split h (meets w) (rebuilt_part h b) (map peak single) (map peak later ++ bag_all i suffix) rest y.1 in
            (first.0 y.0, second.0 z.0)),
      )

-- ---- siblings
module _ {D : Type 0} (h : Hashing D) (f : Tree → D) (w c : ℕ → Bool) where
  siblings_unmarked : (ts : List Tree) → Unmet w ts → (ds : List D) → AllRebuilt h (tree_meets w) f (flat_map (siblings c) ts) ds
  siblings_unmarked [] u ds = tt
  siblings_unmarked (t ∷ ts) u ds =
      rebuilt_append h (tree_meets w) f (siblings c t) (flat_map (siblings c) ts) ds (unmet_rebuilt h f w c t ds u.0)
      (siblings_unmarked ts u.1 (drop (length (siblings c t)) ds))

  -- of all siblings those under the first peak are compared
  pub siblings_rebuilt : (t : Tree) (ts : List Tree) → Unmet w ts → (ds : List D) → AllRebuilt h (tree_meets w) f (siblings c t) ds ↔ AllRebuilt h (tree_meets w) f (flat_map (siblings c) (t ∷ ts)) ds
  siblings_rebuilt t ts u ds = (
    (λ x. rebuilt_append h (tree_meets w) f (siblings c t) (flat_map (siblings c) ts) ds x (siblings_unmarked ts u (drop (length (siblings c t)) ds))),
    (λ x. (rebuilt_split h (tree_meets w) f (siblings c t) (flat_map (siblings c) ts) ds x).0),
  )

-- ---- peaks by where they stand to a range
module _ (a e : ℕ) where
  -- those before it lie before its start
  pub met_before : (ns ts : List Tree) → AllByRecursion (IsBuilt ns) ts → Met (in_range 0 a) (wholly_before a ts)
  met_before ns [] h = tt
  met_before ns (t ∷ ts) h = by_test (λ z. nat_le (end_leaf t) a ≡ z → Met (in_range 0 a) (cond z (t ∷ wholly_before a ts) (wholly_before a ts))) (nat_le (end_leaf t) a)
      (λ _ q. let l = leb-true (end_leaf t) a q in
      (meets_yes 0 a ns t h.0 (omega (arith, l, width_pos t)) (omega (arith, width_pos t)) (omega (arith, l, width_pos t)), met_before ns ts h.1))
      (λ _ q. met_before ns ts h.1) refl

  -- those after it don't
  pub unmet_after_end : (ns ts : List Tree) → a ≤ e → AllByRecursion (IsBuilt ns) ts → Unmet (in_range 0 a) (wholly_after e ts)
  unmet_after_end ns [] l h = tt
  unmet_after_end ns (t ∷ ts) l h = by_test (λ z. nat_le e (first_leaf t) ≡ z → Unmet (in_range 0 a) (cond z (t ∷ wholly_after e ts) (wholly_after e ts))) (nat_le e (first_leaf t))
      (λ _ q. (meets_not 0 a ns t h.0 (inr (omega (arith, leb-true e (first_leaf t) q, l))), unmet_after_end ns ts l h.1)) (λ _ q. unmet_after_end ns ts l h.1) refl

  unmet_from : (o n : ℕ) (ns ts : List Tree) → Spans o n ts → a ≤ o → AllByRecursion (IsBuilt ns) ts → Unmet (in_range 0 a) (overlapping a e ts)
  unmet_from o n ns [] c l h = tt
  unmet_from o n ns (t ∷ ts) c l h =
      let more = unmet_from (o + width t) n ns ts c.1 (omega (arith, l)) h.1 in
      by_test (λ z. Unmet (in_range 0 a) (cond z (t ∷ overlapping a e ts) (overlapping a e ts))) (nat_lt (first_leaf t) e && nat_lt a (end_leaf t))
      (λ _. (meets_not 0 a ns t h.0 (inr (omega (arith, l, c.0))), more)) (λ _. more)

  -- of those that overlap it all but the first don't either
  pub first_crosses : (o n : ℕ) (ns ts us : List Tree) (u : Tree) → Spans o n ts → AllByRecursion (IsBuilt ns) ts → overlapping a e ts ≡ u ∷ us → (a < end_leaf u) × Unmet (in_range 0 a) us
  first_crosses o n ns [] us u c h q = absurd (nothing q)
    where
      nothing : {v : Tree} {vs : List Tree} → [] ≡ v ∷ vs → ⊥
      nothing q = cc
  first_crosses o n ns (t ∷ ts) us u c h q =
      by_test (λ z. (nat_lt (first_leaf t) e && nat_lt a (end_leaf t)) ≡ z → (a < end_leaf u) × Unmet (in_range 0 a) us) (nat_lt (first_leaf t) e && nat_lt a (end_leaf t))
      (λ _ y.
      let same = sym (filter_yes (λ v. nat_lt (first_leaf v) e && nat_lt a (end_leaf v)) t ts y) ∙ q in
      let is : t ≡ u = cons_head t u (overlapping a e ts) us same in
      let past = ltb-true a (end_leaf t) (and_parts (nat_lt (first_leaf t) e) (nat_lt a (end_leaf t)) y).1 in (
        subst (λ v. a < end_leaf v) is past,
        subst (Unmet (in_range 0 a)) (cons_tail t u (overlapping a e ts) us same) (unmet_from (o + width t) n ns ts c.1 (omega (arith, past, c.0)) h.1),
      ))
      (λ _ y. first_crosses (o + width t) n ns ts us u c.1 h.1 (sym (filter_no (λ v. nat_lt (first_leaf v) e && nat_lt a (end_leaf v)) t ts y) ∙ q)) refl

-- ---- the peaks of a forest
prefix_short : (bagging : Bagging) (k : ℕ) (ts : List Tree) → length (folded_prefix bagging k ts) ≤ length ts
prefix_short ForwardFold k ts = omega arith
prefix_short BackwardFold k ts = omega (arith, length-take k ts)

module _ {F : Type 0} where
  front_subtrees : (xs ys : List Tree) → take (length xs) (map (subtree_of {F = F}) (xs ++ ys)) ≡ map subtree_of xs
  front_subtrees [] ys = refl
  front_subtrees (x ∷ xs) ys = ap (λ z. subtree_of x ∷ z) (front_subtrees xs ys)

  -- of the subtrees of peaks the first are those before the range
  pub peaks_before : (rule : List ℕ → List ℕ) (n a e m : ℕ) (xs : List (Subtree F)) → a < e → xs ≡ map subtree_of (peaks_of rule n)
      → m ≡ length (wholly_before a (peaks_of rule n)) → take m xs ≡ map subtree_of (wholly_before a (peaks_of rule n))
  peaks_before rule n a e m xs less is m_is =
      let ts = peaks_of rule n in
      let before = wholly_before a ts in let others = overlapping a e ts ++ wholly_after e ts in
      ap (take m) (is ∙ ap (map subtree_of) (groups a e 0 n ts less (peaks_spans rule n))) ∙ ap (λ j. take j (map subtree_of (before ++ others))) m_is ∙ front_subtrees before others

module _ {D : Type 0} (h : Hashing D) (b : ℕ → Option D) (rule : List ℕ → List ℕ) (bagging : Bagging) (k n a e p : ℕ) (less : a < e)
    (p_is : p ≡ length (folded_prefix bagging k (wholly_before a (peaks_of rule n)))) where
  abbrev peaks : List Tree
  peaks = peaks_of rule n

  abbrev early : List Tree
  early = wholly_before a peaks

  first_folded : folded_prefix bagging k early ≡ take p early
  first_folded = prefix_taken bagging k early ∙ ap (λ j. take j early) (sym p_is)

  others_single : single_before bagging k early ≡ drop p early
  others_single = before_dropped bagging k early ∙ ap (λ j. drop j early) (sym p_is)

  pub prefix_within : p ≤ length early
  prefix_within = omega (arith, p_is, prefix_short bagging k early)

  pub digests_taken : length (fold_all (take p early)) + length (drop p early) ≡ count_before bagging k early
  digests_taken = sym (ap₂ (λ xs ys. length (fold_all xs) + length ys) first_folded others_single)

  -- the parts of a proof are rebuilt if the fold and the single peaks before the range are
  pub parts_rebuilt : (ds : List D) → (FoldRebuilt h b (take p early) ds × EachRebuilt h b (drop p early) (drop (length (fold_all (take p early))) ds))
      ↔ AllRebuilt h (meets (in_range 0 a)) (rebuilt_part h b) (range_parts bagging k a e peaks) ds
  parts_rebuilt ds =
      subst (λ xs. (FoldRebuilt h b xs ds × EachRebuilt h b (drop p early) (drop (length (fold_all xs)) ds))
      ↔ AllRebuilt h (meets (in_range 0 a)) (rebuilt_part h b) (range_parts bagging k a e peaks) ds) first_folded
      (subst (λ ys. (FoldRebuilt h b (folded_prefix bagging k early) ds
      × EachRebuilt h b ys (drop (length (fold_all (folded_prefix bagging k early))) ds))
      ↔ AllRebuilt h (meets (in_range 0 a)) (rebuilt_part h b) (range_parts bagging k a e peaks) ds) others_single
      (layout_rebuilt h b (in_range 0 a) bagging k early (overlapping a e peaks) (wholly_after e peaks) (met_before a e _ peaks (peaks_built rule n))
      (unmet_after_end a e _ peaks (omega (arith, less)) (peaks_built rule n)) ds))

  -- and the siblings if those under the first peak that overlaps the range are
  module _ (u : Tree) (us : List Tree) (over : overlapping a e peaks ≡ u ∷ us) where
    pub crosses : a < end_leaf u
    crosses = (first_crosses a e 0 n _ peaks us u (peaks_spans rule n) (peaks_built rule n) over).0

    pub siblings_within : length (siblings (in_range a e) u) ≤ length (range_siblings a e peaks)
    siblings_within = omega (arith, ap (λ xs. length (flat_map (siblings (in_range a e)) xs)) over, length-append (siblings (in_range a e) u) (flat_map (siblings (in_range a e)) us))

    pub nodes_rebuilt : (ds : List D)
        → AllRebuilt h (tree_meets (in_range 0 a)) (rebuilt_node h b) (siblings (in_range a e) u) ds
        ↔ AllRebuilt h (tree_meets (in_range 0 a)) (rebuilt_node h b) (range_siblings a e peaks) ds
    nodes_rebuilt ds =
        subst (λ xs. AllRebuilt h (tree_meets (in_range 0 a)) (rebuilt_node h b) (siblings (in_range a e) u) ds
        ↔ AllRebuilt h (tree_meets (in_range 0 a)) (rebuilt_node h b) (flat_map (siblings (in_range a e)) xs) ds) (sym over)
        (siblings_rebuilt h (rebuilt_node h b) (in_range 0 a) (in_range a e) u us (first_crosses a e 0 n _ peaks us u (peaks_spans rule n) (peaks_built rule n) over).1 ds)
