-- A store of an accepted input answers what the claim gives.
use Rattle.std.proofs.Common.{◌≡◌, ℕ, suc, Bool, true, ◌+◌, ◌-◌, ◌≤◌, ◌<◌, nat_le, nat_lt, List, [], ◌∷◌, ◌++◌, refl, ap, ap₂, sym, ◌∙◌, subst, arith, length}
use Rattle.std.proofs.Common.{map, flat_map, reverse, take, drop, Option, Some, None, slice_get, append_assoc, length-append, leb-true, ltb-true, le-leb}
use Rattle.std.proofs.Common.{lt-ltb, drop-drop}
use Rattle.std.specs.List.{AllByRecursion}
use Rattle.std.specs.Option.{option_to_list, option_or}
use Rattle.std.proofs.lemmas.Bool.{and_from, and_parts}
use Rattle.std.proofs.lemmas.List.{map-append, length-take-le, length-drop, take-append-drop}
use Rattle.std.proofs.Math.Seq.{drop-append_seam}
use Rattle.merkle_base.specs.Tree.{Tree, position, IsBuilt}
use Rattle.merkle_base.specs.Forest.{forest}
use Rattle.merkle_base.specs.Hashing.{Hashing}
use Rattle.merkle_base.specs.Places.{peaks_of, wholly_before}
use Rattle.merkle_base.specs.Root as root
use Rattle.merkle_base.specs.declared.family.Bagging.TheVariants.{ForwardFold}
use Rattle.merkle_base.proofs.Nodes.{all_append}
use Rattle.merkle_base.proofs.PeakLists.{Spans, all_reverse, peaks_built, peaks_spans}
use Rattle.merkle_root_theory.specs.Plan.{Plan, root_plan, siblings, outside_parts}
use Rattle.merkle_base.specs.Scheme.{Scheme}
use Rattle.merkle_root_theory.specs.Check.{in_range, RangeInput, chosen, leaf_given}
use Rattle.merkle_root_theory.specs.Extract.{single_pairs, over_pairs}
use Rattle.merkle_claim_theory.specs.Order.{Distinct}
use Rattle.merkle_root_theory.specs.Outside.{fold_all, bag_all, folded_prefix, single_before, single_after, folded_suffix, Met, Unmet, HasLayout}
use Rattle.merkle_root_theory.specs.Range.{end_of, overlapping, wholly_after, range_parts, range_siblings, AcceptsNonempty}
use Rattle.merkle_claim_theory.specs.Store.{sub_digests, sub_outside_parts, sub_inner}
use Rattle.merkle_root_theory.specs.Walk.{peak_values}
use Rattle.merkle_root_theory.proofs.LayoutCounts.{length-fold_all, length-bag_all, length-layout}
use Rattle.merkle_claim_theory.proofs.ListedDigests.{plan_for}
use Rattle.merkle_claim_theory.proofs.ExtractedPositionsDistinct.{extracts_once}
use Rattle.merkle_root_theory.proofs.PeakGroups as peaks
use Rattle.merkle_claim_theory.proofs.SubProofs.{part_is_accepted}
use Rattle.merkle_store_theory.specs.StoreValue.{StoreValue, store_of}
use Rattle.merkle_store_theory.specs.StoreProof.{found_at, store_proof, store_refusal, read_nodes, prefix_part, suffix_part, prefix_refusal, suffix_refusal, first_lacking}
use Rattle.merkle_store_theory.specs.StoreLaws.{StoreReadsClaim, StoreAnswers, StoreIsAccepted}
use Rattle.merkle_store_theory.proofs.Gathered.{past}
use Rattle.merkle_store_theory.proofs.PairReads.{Among, among_left, among_right, read, IsHeld, none_lacking, given_read, given_held, Own, own_left, own_right}
use Rattle.merkle_store_theory.proofs.PairReads.{own_read, own_held, siblings_read, siblings_held}
use Rattle.merkle_store_theory.proofs.GroupedParts.{prefix_split, before_split, after_split, suffix_split}
use Rattle.merkle_store_theory.proofs.ClaimedParts.{outside_parts_given, inner_given, all_met}
use Rattle.merkle_store_theory.proofs.RangeSplits.{before_more, over_more, after_more, split_over}
use Rattle.merkle_store_theory.proofs.StoreParts.{first_of, prefix_is, suffix_is, no_prefix_refusal, no_suffix_refusal}

-- the proof by the groups of peaks of the asked range; held: the peaks folded in the store's prefix
abbrev proof_by : {D : Type 0} → Scheme D → StoreValue D → (ℕ → Bool) → (before over after held : List Tree) → List D
proof_by s v d before over after held =
    let met = length before + length over in
    prefix_part s.hashing v (length held) (folded_prefix v.bagging v.inactive before)
    ++ (read_nodes s.hashing v (single_before v.bagging v.inactive before ++ single_after v.bagging v.inactive met after)
    ++ (suffix_part s.hashing v (folded_suffix v.bagging v.inactive met after)
    ++ read_nodes s.hashing v (flat_map (siblings d) over)))

-- and the refusal
abbrev refusal_by : {D : Type 0} → StoreValue D → (ℕ → Bool) → ℕ → (before over after held : List Tree) → Option ℕ
refusal_by v d a before over after held =
    let met = length before + length over in
    option_or (prefix_refusal a held (folded_prefix v.bagging v.inactive before))
    (option_or (first_lacking (found_at v.pairs) (map position (drop (length held) (folded_prefix v.bagging v.inactive before))))
    (option_or (first_lacking (found_at v.pairs) (map position (single_before v.bagging v.inactive before ++ single_after v.bagging v.inactive met after)))
    (option_or (suffix_refusal v (folded_suffix v.bagging v.inactive met after))
    (first_lacking (found_at v.pairs) (map position (flat_map (siblings d) over))))))

-- ---- by the groups of peaks; more_before, more_after: of those that overlap the store's range the ones before the part, and those after it
module _ {D : Type 0} (s : Scheme D) (v : StoreValue D) (c d : ℕ → Bool) (within : (i : ℕ) → d i ≡ true → c i ≡ true) (X : ℕ → D) (once : Distinct (map (λ (x : ℕ × D). x.0) v.pairs))
    (before more_before : List Tree) (t : Tree) (over more_after after : List Tree)
    (cu : Unmet c before) (cm : Met c (more_before ++ (t ∷ over ++ more_after))) (cv : Unmet c after) (du : Unmet d (before ++ more_before))
    (dm : Met d (t ∷ over)) (dv : Unmet d (more_after ++ after))
    (ds is : List D) where
  abbrev h : Hashing D
  h = s.hashing

  abbrev k : ℕ
  k = v.inactive

  abbrev whole_met : ℕ
  whole_met = length before + length (more_before ++ (t ∷ over ++ more_after))

  abbrev part_met : ℕ
  part_met = length (before ++ more_before) + suc (length over)

  -- the peaks of the store's own layout
  abbrev own_prefix : List Tree
  own_prefix = folded_prefix v.bagging k before

  abbrev own_single : List Tree
  own_single = single_before v.bagging k before

  abbrev own_after : List Tree
  own_after = single_after v.bagging k whole_met after

  abbrev own_suffix : List Tree
  own_suffix = folded_suffix v.bagging k whole_met after

  -- and those that the part has beside them
  abbrev new_prefix : List Tree
  new_prefix = folded_prefix v.bagging (k - length before) more_before

  abbrev new_single : List Tree
  new_single = single_before v.bagging (k - length before) more_before

  abbrev new_after : List Tree
  new_after = single_after v.bagging k part_met more_after

  abbrev new_suffix : List Tree
  new_suffix = folded_suffix v.bagging k part_met more_after

  -- e1, .., e4: the digests of the folded prefix, of the peaks that stand alone before and after, and of the suffix
  abbrev n1 : ℕ
  n1 = length (fold_all own_prefix)

  abbrev r1 : List D
  r1 = drop n1 ds

  abbrev r2 : List D
  r2 = drop (length own_single) r1

  abbrev r3 : List D
  r3 = drop (length own_after) r2

  abbrev n4 : ℕ
  n4 = length (bag_all 0 own_suffix)

  abbrev e1 : List D
  e1 = take n1 ds

  abbrev e2 : List D
  e2 = take (length own_single) r1

  abbrev e3 : List D
  e3 = take (length own_after) r2

  abbrev e4 : List D
  e4 = take n4 r3

  abbrev rest : List D
  rest = drop n4 r3

  more : whole_met ≡ part_met + length more_after
  more = omega (arith, length-append before more_before, length-append more_before (t ∷ over ++ more_after), length-append (t ∷ over) more_after)

  -- the digests fall into these
  ds_are : ds ≡ e1 ++ (e2 ++ (e3 ++ (e4 ++ rest)))
  ds_are = sym (ap (λ z. e1 ++ z)
      (ap (λ z. e2 ++ z) (ap (λ z. e3 ++ z) (take-append-drop n4 r3) ∙ take-append-drop (length own_after) r2)
      ∙ take-append-drop (length own_single) r1) ∙ take-append-drop n1 ds)

  module _ (among1 : Among h v.pairs once (single_pairs h own_single r1))
      (among2 : Among h v.pairs once (over_pairs h c X (more_before ++ (t ∷ over ++ more_after)) is)) (among3 : Among h v.pairs once (single_pairs h own_after r2)) where
    owned : Own h v.pairs once c X (new_prefix ++ (new_single ++ (t ∷ over ++ (new_after ++ new_suffix)))) is
    owned = subst (λ z. Own h v.pairs once c X z is) (all_met h c d within X v.bagging k before more_before t over more_after after cu cm cv du dm dv) among2

    owned1 : Own h v.pairs once c X (new_single ++ (t ∷ over ++ (new_after ++ new_suffix))) (past c new_prefix is)
    owned1 = own_right h v.pairs once c X new_prefix _ is owned

    owned2 : Own h v.pairs once c X (t ∷ over ++ (new_after ++ new_suffix)) (past c new_single (past c new_prefix is))
    owned2 = own_right h v.pairs once c X new_single _ _ owned1

    owned3 : Own h v.pairs once c X (new_after ++ new_suffix) (past c (t ∷ over) (past c new_single (past c new_prefix is)))
    owned3 = own_right h v.pairs once c X (t ∷ over) _ _ owned2

    owned4 : Own h v.pairs once c X new_suffix (past c new_after (past c (t ∷ over) (past c new_single (past c new_prefix is))))
    owned4 = own_right h v.pairs once c X new_after new_suffix _ owned3

    -- ---- nothing is lacking
    held_single : AllByRecursion (IsHeld h v.pairs once) (single_before v.bagging k (before ++ more_before) ++ single_after v.bagging k part_met (more_after ++ after))
    held_single =
        subst (AllByRecursion (IsHeld h v.pairs once)) (sym (ap₂ ◌++◌ (before_split v.bagging k before more_before) (after_split v.bagging k part_met whole_met more_after after more)))
        (all_append (IsHeld h v.pairs once) (own_single ++ new_single) (new_after ++ own_after)
        (all_append (IsHeld h v.pairs once) own_single new_single (given_held h v.pairs once own_single r1 among1)
        (own_held h v.pairs once c X new_single _ (own_left h v.pairs once c X new_single _ _ owned1)))
        (all_append (IsHeld h v.pairs once) new_after own_after
        (own_held h v.pairs once c X new_after _ (own_left h v.pairs once c X new_after new_suffix _ owned3)) (given_held h v.pairs once own_after r2 among3)))

    refusal_none : v.suffix_peaks ≡ map position own_suffix → (a : ℕ) → refusal_by v d a (before ++ more_before) (t ∷ over) (more_after ++ after) own_prefix ≡ None
    refusal_none ends a =
        let one : prefix_refusal a own_prefix (folded_prefix v.bagging k (before ++ more_before)) ≡ None =
        ap (prefix_refusal a own_prefix) (prefix_split v.bagging k before more_before) ∙ no_prefix_refusal h v a own_prefix new_prefix in
        let two : first_lacking (found_at v.pairs) (map position (drop (length own_prefix) (folded_prefix v.bagging k (before ++ more_before)))) ≡ None =
        ap (λ z. first_lacking (found_at v.pairs) (map position z)) (ap (drop (length own_prefix)) (prefix_split v.bagging k before more_before) ∙ drop-append_seam own_prefix new_prefix)
        ∙ none_lacking h v.pairs once new_prefix (own_held h v.pairs once c X new_prefix is (own_left h v.pairs once c X new_prefix _ is owned)) in
        let four : suffix_refusal v (folded_suffix v.bagging k part_met (more_after ++ after)) ≡ None =
        ap (suffix_refusal v) (suffix_split v.bagging k part_met whole_met more_after after more)
        ∙ no_suffix_refusal h v new_suffix own_suffix ends
        (none_lacking h v.pairs once (reverse new_suffix) (all_reverse (IsHeld h v.pairs once) new_suffix (own_held h v.pairs once c X new_suffix _ owned4))) in
        let five : first_lacking (found_at v.pairs) (map position (flat_map (siblings d) (t ∷ over))) ≡ None =
        none_lacking h v.pairs once (flat_map (siblings d) (t ∷ over))
        (siblings_held h v.pairs once c X d within (t ∷ over) _ (own_left h v.pairs once c X (t ∷ over) _ _ owned2)) in
        ap₂ option_or one (ap₂ option_or two (ap₂ option_or (none_lacking h v.pairs once _ held_single) (ap₂ option_or four five)))

    -- ---- and what is read is the claim's
    module _ (enough : n1 + (length own_single + (length own_after + n4)) ≤ length ds) where
      l1 : length e1 ≡ n1
      l1 = length-take-le n1 ds (omega (arith, enough))

      l2 : length e2 ≡ length own_single
      l2 = length-take-le (length own_single) r1 (omega (arith, enough, length-drop n1 ds))

      l3 : length e3 ≡ length own_after
      l3 = length-take-le (length own_after) r2 (omega (arith, enough, length-drop n1 ds, length-drop (length own_single) r1))

      l4 : length e4 ≡ n4
      l4 = length-take-le n4 r3 (omega (arith, enough, length-drop n1 ds, length-drop (length own_single) r1, length-drop (length own_after) r2))

      abbrev is1 : List D
      is1 = past c new_prefix is

      abbrev is2 : List D
      is2 = past c new_single is1

      abbrev is3 : List D
      is3 = past c (t ∷ over) is2

      abbrev is4 : List D
      is4 = past c new_after is3

      value_prefix : peak_values h c X new_prefix is ≡ read_nodes h v new_prefix
      value_prefix = own_read h v.pairs once c X new_prefix is (own_left h v.pairs once c X new_prefix _ is owned)

      value_single : e2 ++ peak_values h c X new_single is1 ≡ read_nodes h v (own_single ++ new_single)
      value_single =
          ap₂ ◌++◌ (given_read h v.pairs once own_single e2 r2 l2 (subst (λ z. Among h v.pairs once (single_pairs h own_single z)) (sym (take-append-drop (length own_single) r1)) among1))
          (own_read h v.pairs once c X new_single is1 (own_left h v.pairs once c X new_single _ is1 owned1))
          ∙ sym (map-append (read h v.pairs once) own_single new_single)

      value_after : peak_values h c X new_after is3 ++ e3 ≡ read_nodes h v (new_after ++ own_after)
      value_after =
          ap₂ ◌++◌ (own_read h v.pairs once c X new_after is3 (own_left h v.pairs once c X new_after new_suffix is3 owned3))
          (given_read h v.pairs once own_after e3 r3 l3 (subst (λ z. Among h v.pairs once (single_pairs h own_after z)) (sym (take-append-drop (length own_after) r2)) among3))
          ∙ sym (map-append (read h v.pairs once) new_after own_after)

      proof_is : v.suffix_peaks ≡ map position own_suffix → v.prefix ≡ slice_get e1 0 → v.suffix ≡ slice_get e4 0 → (p : Plan)
          → root_plan v.bagging k ((before ++ more_before) ++ (t ∷ over ++ (more_after ++ after))) ≡ Some p
          → proof_by s v d (before ++ more_before) (t ∷ over) (more_after ++ after) own_prefix ≡ sub_outside_parts h c d X p ds is ++ sub_inner h c d X p ds is
      proof_is ends pre suf p whole_is =
          let one : prefix_part h v (length own_prefix) (folded_prefix v.bagging k (before ++ more_before))
          ≡ option_to_list (root.folded h.fold ForwardFold 0 (e1 ++ peak_values h c X new_prefix is)) =
          ap (prefix_part h v (length own_prefix)) (prefix_split v.bagging k before more_before)
          ∙ prefix_is h v own_prefix new_prefix e1 (ap option_to_list pre ∙ first_of e1 (omega (arith, l1, length-fold_all own_prefix))) l1
          ∙ ap (λ z. option_to_list (root.folded h.fold ForwardFold 0 (e1 ++ z))) (sym value_prefix) in
          let two : read_nodes h v (single_before v.bagging k (before ++ more_before) ++ single_after v.bagging k part_met (more_after ++ after))
          ≡ (e2 ++ peak_values h c X new_single is1) ++ (peak_values h c X new_after is3 ++ e3) =
          map-append (read h v.pairs once) (single_before v.bagging k (before ++ more_before)) (single_after v.bagging k part_met (more_after ++ after))
          ∙ ap₂ ◌++◌ (ap (read_nodes h v) (before_split v.bagging k before more_before) ∙ sym value_single)
          (ap (read_nodes h v) (after_split v.bagging k part_met whole_met more_after after more) ∙ sym value_after) in
          let three : suffix_part h v (folded_suffix v.bagging k part_met (more_after ++ after)) ≡ option_to_list (root.right_fold h.fold (peak_values h c X new_suffix is4 ++ e4)) =
          ap (suffix_part h v) (suffix_split v.bagging k part_met whole_met more_after after more)
          ∙ suffix_is h v new_suffix own_suffix e4 ends (ap option_to_list suf ∙ first_of e4 (omega (arith, l4, length-bag_all 0 own_suffix))) l4
          ∙ ap (λ z. option_to_list (root.right_fold h.fold (z ++ e4))) (sym (own_read h v.pairs once c X new_suffix is4 owned4)) in
          let four : sub_inner h c d X p ds is ≡ read_nodes h v (flat_map (siblings d) (t ∷ over)) =
          ap (λ z. sub_inner h c d X p z is) ds_are
          ∙ inner_given h c d within X v.bagging k before more_before t over more_after after cu cm cv du dm dv e1 e2 e3 e4 rest is l1 l2 l3 l4 p whole_is
          ∙ siblings_read h v.pairs once c X d within (t ∷ over) is2 (own_left h v.pairs once c X (t ∷ over) _ is2 owned2) in
          let five : sub_outside_parts h c d X p ds is ≡ option_to_list (root.folded h.fold ForwardFold 0 (e1 ++ peak_values h c X new_prefix is))
          ++ ((e2 ++ peak_values h c X new_single is1)
          ++ ((peak_values h c X new_after is3 ++ e3) ++ option_to_list (root.right_fold h.fold (peak_values h c X new_suffix is4 ++ e4)))) =
          ap (λ z. sub_outside_parts h c d X p z is) ds_are
          ∙ outside_parts_given h c d within X v.bagging k before more_before t over more_after after cu cm cv du dm dv e1 e2 e3 e4 rest is l1 l2 l3 l4 p whole_is in
          let a = option_to_list (root.folded h.fold ForwardFold 0 (e1 ++ peak_values h c X new_prefix is)) in
          let b = e2 ++ peak_values h c X new_single is1 in
          let f = peak_values h c X new_after is3 ++ e3 in
          let z = option_to_list (root.right_fold h.fold (peak_values h c X new_suffix is4 ++ e4)) in
          ap₂ ◌++◌ one (ap₂ ◌++◌ two (ap₂ ◌++◌ three (sym four)))
          ∙ ap (λ y. a ++ y) (append_assoc b f (z ++ sub_inner h c d X p ds is)
          ∙ ap (λ y. b ++ y) (sym (append_assoc f z (sub_inner h c d X p ds is))) ∙ sym (append_assoc b (f ++ z) (sub_inner h c d X p ds is)))
          ∙ sym (append_assoc a (b ++ (f ++ z)) (sub_inner h c d X p ds is))
          ∙ ap (λ y. y ++ sub_inner h c d X p ds is) (sym five)

-- ---- the store of an accepted input
module _ {D : Type 0} (s : Scheme D) (r : RangeInput D) (root_digest : D) (ok : AcceptsNonempty s r root_digest) (a b : ℕ) (some : a < b) (low : r.start ≤ a) (high : b ≤ end_of r) where
  abbrev v : StoreValue D
  v = store_of s r root_digest

  abbrev ts : List Tree
  ts = peaks_of s.rule r.leaves

  abbrev ns : List Tree
  ns = (forest s.rule r.leaves).nodes

  abbrev c : ℕ → Bool
  c = in_range r.start (end_of r)

  abbrev d : ℕ → Bool
  d = in_range a b

  abbrev X : ℕ → D
  X = leaf_given s.hashing r

  spans : Spans 0 r.leaves ts
  spans = peaks_spans s.rule r.leaves

  built : AllByRecursion (IsBuilt ns) ts
  built = peaks_built s.rule r.leaves

  within : (i : ℕ) → d i ≡ true → c i ≡ true
  within i e =
      let w = and_parts (nat_le a i) (nat_lt i b) e in
      let l = leb-true a i w.0 in
      let g = ltb-true i b w.1 in
      and_from _ _ (le-leb r.start i (omega (arith, l, low))) (lt-ltb i (end_of r) (omega (arith, g, high)))

  once : Distinct (map (λ (x : ℕ × D). x.0) v.pairs)
  once = extracts_once s r ok.nonempty ok.within

  abbrev before : List Tree
  before = wholly_before r.start ts

  abbrev held : List Tree
  held = overlapping r.start (end_of r) ts

  abbrev after : List Tree
  after = wholly_after (end_of r) ts

  abbrev more_before : List Tree
  more_before = wholly_before a held

  abbrev still : List Tree
  still = overlapping a b held

  abbrev more_after : List Tree
  more_after = wholly_after b held

  split : held ≡ more_before ++ (still ++ more_after)
  split = split_over r.start (end_of r) a b r.leaves ts low some high spans

  before_is : wholly_before a ts ≡ before ++ more_before
  before_is = before_more r.start (end_of r) a b r.leaves ts low some high spans

  over_is : overlapping a b ts ≡ still
  over_is = over_more r.start (end_of r) a b r.leaves ts low some high spans

  after_is : wholly_after b ts ≡ more_after ++ after
  after_is = after_more r.start (end_of r) a b r.leaves ts low some high spans

  ts_are : ts ≡ (before ++ more_before) ++ (still ++ (more_after ++ after))
  ts_are = peaks.groups a b 0 r.leaves ts some spans ∙ ap₂ ◌++◌ before_is (ap₂ ◌++◌ over_is after_is)

  reached : still ≡ [] → ⊥
  reached e = peaks.some_over a b 0 r.leaves ts some spans (omega arith) (omega (arith, some, high, ok.within)) (over_is ∙ e)

  cu : Unmet c before
  cu = peaks.unmet_before r.start (end_of r) ns ts built

  cm : Met c held
  cm = peaks.met_over r.start (end_of r) ns ts (omega (arith, some, low, high)) built

  cv : Unmet c after
  cv = peaks.unmet_after r.start (end_of r) ns ts built

  du : Unmet d (before ++ more_before)
  du = subst (Unmet d) before_is (peaks.unmet_before a b ns ts built)

  dm : Met d still
  dm = subst (Met d) over_is (peaks.met_over a b ns ts some built)

  dv : Unmet d (more_after ++ after)
  dv = subst (Unmet d) after_is (peaks.unmet_after a b ns ts built)

  abbrev is : List D
  is = drop (length (range_parts s.bagging r.inactive r.start (end_of r) ts)) r.digests

  abbrev folded_count : ℕ
  folded_count = length (fold_all (folded_prefix s.bagging r.inactive before))

  abbrev single : List Tree
  single = single_before s.bagging r.inactive before

  abbrev single_of : List Tree → List Tree
  single_of over = single_after s.bagging r.inactive (length before + length over) after

  abbrev suffix_of_held : List Tree → List Tree
  suffix_of_held over = folded_suffix s.bagging r.inactive (length before + length over) after

  abbrev d1 : List D
  d1 = drop folded_count r.digests

  abbrev d2 : List D
  d2 = drop (length single) d1

  here : Among s.hashing v.pairs once v.pairs
  here = λ x m. m

  among1 : Among s.hashing v.pairs once (single_pairs s.hashing single d1)
  among1 = among_left s.hashing v.pairs once (single_pairs s.hashing single d1) _ here

  among2 : Among s.hashing v.pairs once (over_pairs s.hashing c X held is)
  among2 = among_left s.hashing v.pairs once (over_pairs s.hashing c X held is) _ (among_right s.hashing v.pairs once (single_pairs s.hashing single d1) _ here)

  among3 : Among s.hashing v.pairs once (single_pairs s.hashing (single_of held) d2)
  among3 = among_right s.hashing v.pairs once (over_pairs s.hashing c X held is) _ (among_right s.hashing v.pairs once (single_pairs s.hashing single d1) _ here)

  abbrev IsEnough : List Tree → Type 0
  IsEnough over = folded_count + (length single + (length (single_of over) + length (bag_all 0 (suffix_of_held over)))) ≤ length r.digests

  enough : IsEnough held
  enough =
      let met = length before + length held in
      omega (arith, ok.counts, length-layout s.bagging r.inactive before held after, length-bag_all 0 (suffix_of_held held), length-bag_all (met + (r.inactive - met)) (suffix_of_held held))

  -- the suffix's digest follows those of the peaks that stand alone
  abbrev suffix_digest : List Tree → Option D
  suffix_digest over = slice_get (take (length (bag_all 0 (suffix_of_held over))) (drop (length (single_of over)) d2)) 0

  suffix_there : v.suffix ≡ suffix_digest held
  suffix_there = ap (λ z. slice_get (take (length (bag_all 0 (suffix_of_held held))) z) 0)
      (sym (drop-drop (length (single_of held)) (folded_count + length single) r.digests) ∙ ap (drop (length (single_of held))) (sym (drop-drop (length single) folded_count r.digests)))

  as_groups : store_proof s v a b ≡ proof_by s v d (before ++ more_before) still (more_after ++ after) (folded_prefix s.bagging r.inactive before)
  as_groups =
      ap (λ z. proof_by s v d z (overlapping a b ts) (wholly_after b ts) (folded_prefix s.bagging r.inactive before)) before_is
      ∙ ap₂ (λ y z. proof_by s v d (before ++ more_before) y z (folded_prefix s.bagging r.inactive before)) over_is after_is

  refusal_groups : store_refusal s v a b ≡ refusal_by v d a (before ++ more_before) still (more_after ++ after) (folded_prefix s.bagging r.inactive before)
  refusal_groups =
      ap (λ z. refusal_by v d a z (overlapping a b ts) (wholly_after b ts) (folded_prefix s.bagging r.inactive before)) before_is
      ∙ ap₂ (λ y z. refusal_by v d a (before ++ more_before) y z (folded_prefix s.bagging r.inactive before)) over_is after_is

  module _ (t : Tree) (over : List Tree) (e : still ≡ t ∷ over) where
    split_so : held ≡ more_before ++ (t ∷ over ++ more_after)
    split_so = split ∙ ap (λ z. more_before ++ (z ++ more_after)) e

    refuses_none : refusal_by v d a (before ++ more_before) (t ∷ over) (more_after ++ after) (folded_prefix s.bagging r.inactive before) ≡ None
    refuses_none =
        refusal_none s v c d within X once before more_before t over more_after after cu (subst (Met c) split_so cm) cv du (subst (Met d) e dm) dv r.digests is
        among1 (subst (λ z. Among s.hashing v.pairs once (over_pairs s.hashing c X z is)) split_so among2)
        (subst (λ z. Among s.hashing v.pairs once (single_pairs s.hashing (single_of z) d2)) split_so among3)
        (ap (λ z. map position (suffix_of_held z)) split_so) a

    reads_claim : (p : Plan) → root_plan s.bagging r.inactive ts ≡ Some p
        → proof_by s v d (before ++ more_before) (t ∷ over) (more_after ++ after) (folded_prefix s.bagging r.inactive before)
        ≡ sub_outside_parts s.hashing c d X p r.digests is ++ sub_inner s.hashing c d X p r.digests is
    reads_claim p w =
        proof_is s v c d within X once before more_before t over more_after after cu (subst (Met c) split_so cm) cv du (subst (Met d) e dm) dv r.digests is
        among1 (subst (λ z. Among s.hashing v.pairs once (over_pairs s.hashing c X z is)) split_so among2)
        (subst (λ z. Among s.hashing v.pairs once (single_pairs s.hashing (single_of z) d2)) split_so among3)
        (subst IsEnough split_so enough) (ap (λ z. map position (suffix_of_held z)) split_so) refl (suffix_there ∙ ap suffix_digest split_so) p
        (ap (root_plan s.bagging r.inactive) (sym (ts_are ∙ ap (λ z. (before ++ more_before) ++ (z ++ (more_after ++ after))) e)) ∙ w)

  pub answers_none : store_refusal s v a b ≡ None
  answers_none = refusal_groups ∙ by_cases still refl
    where
      by_cases : (over : List Tree) → still ≡ over → refusal_by v d a (before ++ more_before) over (more_after ++ after) (folded_prefix s.bagging r.inactive before) ≡ None
      by_cases [] e = absurd (reached e)
      by_cases (t ∷ over) e = refuses_none t over e

  pub answers_claim : (p : Plan) → root_plan s.bagging r.inactive ts ≡ Some p → store_proof s v a b ≡ sub_outside_parts s.hashing c d X p r.digests is ++ sub_inner s.hashing c d X p r.digests is
  answers_claim p w = as_groups ∙ by_cases still refl
    where
      by_cases : (over : List Tree) → still ≡ over
          → proof_by s v d (before ++ more_before) over (more_after ++ after) (folded_prefix s.bagging r.inactive before)
          ≡ sub_outside_parts s.hashing c d X p r.digests is ++ sub_inner s.hashing c d X p r.digests is
      by_cases [] e = absurd (reached e)
      by_cases (t ∷ over) e = reads_claim t over e p w

pub store_answers : {D : Type 0} → StoreAnswers D
store_answers s r root a b ok some low high = answers_none s r root ok a b some low high

pub store_reads_claim : {D : Type 0} → StoreReadsClaim D
store_reads_claim s r q root ok some low high =
    let plan = plan_for s r.leaves r.inactive (omega (arith, ok.nonempty, ok.within)) in
    let c = chosen r in
    let lay : outside_parts c plan.0 ≡ range_parts s.bagging r.inactive r.start (end_of r) (peaks_of s.rule r.leaves) =
    (subst (HasLayout c (range_parts s.bagging r.inactive r.start (end_of r) (peaks_of s.rule r.leaves)) (range_siblings r.start (end_of r) (peaks_of s.rule r.leaves))) plan.1
    (peaks.range_layout s r.leaves r.inactive r.start (end_of r) (omega (arith, ok.nonempty)) ok.within)).0 in
    answers_claim s r root ok q.start (end_of q) (omega (arith, some)) low high plan.0 plan.1
    ∙ ap (λ z. sub_outside_parts s.hashing c (chosen q) (leaf_given s.hashing r) plan.0 r.digests (drop (length z) r.digests)
    ++ sub_inner s.hashing c (chosen q) (leaf_given s.hashing r) plan.0 r.digests (drop (length z) r.digests)) (sym lay)
    ∙ ap (sub_digests s r q) (sym plan.1)

pub store_is_accepted : {D : Type 0} → StoreIsAccepted D
store_is_accepted s r q root ok w = part_is_accepted s r q root ok (record {
  nonempty = w.nonempty;
  from = w.from;
  to = w.to;
  leaves = w.leaves;
  inactive = w.inactive;
  digests = w.digests ∙ store_reads_claim s r q root ok w.nonempty w.from w.to;
  elements = w.elements;
})
