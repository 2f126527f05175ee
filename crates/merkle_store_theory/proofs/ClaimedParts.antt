-- What the claim of a range gives for a part of it.
use Rattle.std.proofs.Common.{◌≡◌, ℕ, suc, Bool, true, false, cond, ◌+◌, ◌-◌, List, [], ◌∷◌, ◌++◌, refl, ap, ap₂, sym, ◌∙◌, subst, arith, length, map, flat_map}
use Rattle.std.proofs.Common.{drop, Some, append_assoc, append-nil, length-append}
use Rattle.std.specs.Option.{option_to_list}
use Rattle.merkle_base.specs.Tree.{Tree}
use Rattle.merkle_base.specs.Hashing.{Hashing}
use Rattle.merkle_base.specs.Root as root
use Rattle.merkle_base.specs.declared.family.Bagging.{Bagging}
use Rattle.merkle_base.specs.declared.family.Bagging.TheVariants.{ForwardFold, BackwardFold}
use Rattle.merkle_root_theory.specs.Expression.{value}
use Rattle.merkle_root_theory.specs.Plan.{Plan, peak, folding, root_plan, meets, tree_meets, outside_parts, path_siblings}
use Rattle.merkle_root_theory.specs.Claim.{claim}
use Rattle.merkle_root_theory.specs.Outside.{fold_all, bag_all, folded_prefix, single_before, single_after, folded_suffix, Met, Unmet}
use Rattle.merkle_claim_theory.specs.Store.{sub_siblings, sub_outside_parts, sub_inner}
use Rattle.merkle_root_theory.specs.Walk.{peak_values}
use Rattle.merkle_root_theory.proofs.OutsideNodes.{unmet_take, unmet_drop}
use Rattle.merkle_store_theory.proofs.Flattened.{flat, flat_whole}
use Rattle.merkle_store_theory.proofs.Gathered.{gathered, Splits, flattened, past}
use Rattle.merkle_store_theory.proofs.GroupedParts.{gathered_all, prefix_split, before_split, after_split, suffix_split, before_whole, after_whole, unmet_left, unmet_right, met_left, met_right}
use Rattle.merkle_store_theory.proofs.PairReads.{over_given}

-- each part outside the part's range gives its value, and each of its peaks the siblings
module _ {D : Type 0} (h : Hashing D) (c d : ℕ → Bool) (X : ℕ → D) where
  outside_parts_splits : Splits c d (sub_outside_parts h c d X)
  outside_parts_splits q l r os is m =
      ap (λ b. cond b (sub_outside_parts h c d X l os is
      ++ sub_outside_parts h c d X r (drop (length (outside_parts c l)) os) (drop (length (path_siblings c l)) is)) (value h (claim h c X (folding q l r) os is) ∷ [])) m

  outside_parts_apart : (p : Plan) (os is : List D) → meets d p ≡ false → sub_outside_parts h c d X p os is ≡ value h (claim h c X p os is) ∷ []
  outside_parts_apart (peak t) os is e = ap (λ b. cond b [] (value h (claim h c X (peak t) os is) ∷ [])) e
  outside_parts_apart (folding q l r) os is e =
      ap (λ b. cond b (sub_outside_parts h c d X l os is
      ++ sub_outside_parts h c d X r (drop (length (outside_parts c l)) os) (drop (length (path_siblings c l)) is)) (value h (claim h c X (folding q l r) os is) ∷ [])) e

  outside_parts_over : (t : Tree) (os is : List D) → tree_meets d t ≡ true → sub_outside_parts h c d X (peak t) os is ≡ []
  outside_parts_over t os is e = ap (λ b. cond b [] (value h (claim h c X (peak t) os is) ∷ [])) e

  inner_splits : Splits c d (sub_inner h c d X)
  inner_splits q l r os is m = ap (λ b. cond b (sub_inner h c d X l os is ++ sub_inner h c d X r (drop (length (outside_parts c l)) os) (drop (length (path_siblings c l)) is)) []) m

  inner_apart : (p : Plan) (os is : List D) → meets d p ≡ false → sub_inner h c d X p os is ≡ []
  inner_apart (peak t) os is e = ap (λ b. cond b (sub_siblings h c d X t is) []) e
  inner_apart (folding q l r) os is e = ap (λ b. cond b (sub_inner h c d X l os is ++ sub_inner h c d X r (drop (length (outside_parts c l)) os) (drop (length (path_siblings c l)) is)) []) e

  inner_over : (t : Tree) (os is : List D) → tree_meets d t ≡ true → sub_inner h c d X (peak t) os is ≡ sub_siblings h c d X t is
  inner_over t os is e = ap (λ b. cond b (sub_siblings h c d X t is) []) e

each_one : {D : Type 0} (xs : List D) → flat_map (λ x. x ∷ []) xs ≡ xs
each_one [] = refl
each_one (x ∷ xs) = ap (λ z. x ∷ z) (each_one xs)

each_none : {D : Type 0} (xs : List D) → flat_map {A = D} (λ x. []) xs ≡ []
each_none [] = refl
each_none (x ∷ xs) = each_none xs

over_none : {D : Type 0} (c : ℕ → Bool) (ts : List Tree) (is : List D) → over_given c (λ t es. []) ts is ≡ []
over_none c [] is = refl
over_none c (t ∷ ts) is = over_none c ts _

-- groups of unmet and of met peaks
module _ (c : ℕ → Bool) where
  pub unmet_prefix : (bagging : Bagging) (k : ℕ) (ts : List Tree) → Unmet c ts → Unmet c (folded_prefix bagging k ts)
  unmet_prefix ForwardFold k ts u = u
  unmet_prefix BackwardFold k ts u = unmet_take c k ts u

  pub unmet_before : (bagging : Bagging) (k : ℕ) (ts : List Tree) → Unmet c ts → Unmet c (single_before bagging k ts)
  unmet_before ForwardFold k ts u = tt
  unmet_before BackwardFold k ts u = unmet_drop c k ts u

  pub unmet_after : (bagging : Bagging) (k met : ℕ) (ts : List Tree) → Unmet c ts → Unmet c (single_after bagging k met ts)
  unmet_after ForwardFold k met ts u = u
  unmet_after BackwardFold k met ts u = unmet_take c (k - met) ts u

  pub unmet_suffix : (bagging : Bagging) (k met : ℕ) (ts : List Tree) → Unmet c ts → Unmet c (folded_suffix bagging k met ts)
  unmet_suffix ForwardFold k met ts u = tt
  unmet_suffix BackwardFold k met ts u = unmet_drop c (k - met) ts u

module _ {D : Type 0} (h : Hashing D) (c d : ℕ → Bool) (within : (i : ℕ) → d i ≡ true → c i ≡ true) (X : ℕ → D) (bagging : Bagging) (k : ℕ)
    (before more_before : List Tree) (t : Tree) (over more_after after : List Tree)
    (cu : Unmet c before) (cm : Met c (more_before ++ (t ∷ over ++ more_after))) (cv : Unmet c after)
    (du : Unmet d (before ++ more_before)) (dm : Met d (t ∷ over)) (dv : Unmet d (more_after ++ after)) where
  -- the number of peaks before a range and of those that overlap it, for the part and for the whole range
  abbrev pub met_part : ℕ
  met_part = length (before ++ more_before) + suc (length over)

  abbrev pub met_whole : ℕ
  met_whole = length before + length (more_before ++ (t ∷ over ++ more_after))

  -- of the peaks that are the part's alone those that are folded, and those that stand alone
  abbrev pub more_folded : List Tree
  more_folded = folded_prefix bagging (k - length before) more_before

  abbrev pub more_single : List Tree
  more_single = single_before bagging (k - length before) more_before

  abbrev pub more_single_after : List Tree
  more_single_after = single_after bagging k met_part more_after

  abbrev pub more_suffix : List Tree
  more_suffix = folded_suffix bagging k met_part more_after

  pub met_more : met_whole ≡ met_part + length more_after
  met_more = omega (arith, length-append before more_before, length-append more_before (t ∷ over ++ more_after), length-append (t ∷ over) more_after)

  parts_are : (p : Plan) → root_plan bagging k ((before ++ more_before) ++ (t ∷ over ++ (more_after ++ after))) ≡ Some p
      → flat d p ≡ (fold_all (folded_prefix bagging k before ++ more_folded) ++ map peak (single_before bagging k before ++ more_single))
      ++ (map peak (t ∷ over) ++ (map peak (more_single_after ++ single_after bagging k met_whole after)
      ++ bag_all (met_part + (k - met_part)) (more_suffix ++ folded_suffix bagging k met_whole after)))
  parts_are p e =
      flat_whole d k t over (more_after ++ after) dm dv bagging (before ++ more_before) du p e
      ∙ ap₂ ◌++◌ (ap₂ (λ x y. fold_all x ++ map peak y) (prefix_split bagging k before more_before) (before_split bagging k before more_before))
      (ap₂ (λ x y. map peak (t ∷ over) ++ (map peak x ++ bag_all (met_part + (k - met_part)) y))
      (after_split bagging k met_part met_whole more_after after met_more) (suffix_split bagging k met_part met_whole more_after after met_more))

  pub all_met : more_before ++ (t ∷ over ++ more_after) ≡ more_folded ++ (more_single ++ (t ∷ over ++ (more_single_after ++ more_suffix)))
  all_met = ap₂ (λ x y. x ++ (t ∷ over ++ y)) (sym (before_whole bagging (k - length before) more_before))
      (sym (after_whole bagging k met_part more_after)) ∙ append_assoc more_folded more_single (t ∷ over ++ (more_single_after ++ more_suffix))

  -- e1, .., e4: the digests of the folded prefix, of the peaks that stand alone before and after, and of the suffix
  module _ (e1 e2 e3 e4 rest is : List D) (l1 : length e1 ≡ length (fold_all (folded_prefix bagging k before))) (l2 : length e2 ≡ length (single_before bagging k before))
      (l3 : length e3 ≡ length (single_after bagging k met_whole after)) (l4 : length e4 ≡ length (bag_all 0 (folded_suffix bagging k met_whole after)))
      (p : Plan) (whole_is : root_plan bagging k ((before ++ more_before) ++ (t ∷ over ++ (more_after ++ after))) ≡ Some p) where
    met_all : Met c (more_folded ++ (more_single ++ (t ∷ over ++ (more_single_after ++ more_suffix))))
    met_all = subst (Met c) all_met cm

    met_later : Met c (t ∷ over ++ (more_single_after ++ more_suffix))
    met_later = met_right c more_single _ (met_right c more_folded _ met_all)

    -- the digests for siblings that are left after each group of peaks
    abbrev pub is1 : List D
    is1 = past c more_folded is

    abbrev pub is2 : List D
    is2 = past c more_single is1

    abbrev pub is3 : List D
    is3 = past c (t ∷ over) is2

    abbrev pub is4 : List D
    is4 = past c more_single_after is3

    abbrev pub prefix_fold : List D
    prefix_fold = option_to_list (root.folded h.fold ForwardFold 0 (e1 ++ peak_values h c X more_folded is))

    abbrev pub suffix_right_fold : List D
    suffix_right_fold = option_to_list (root.right_fold h.fold (peak_values h c X more_suffix is4 ++ e4))

    given_by : (sub : Plan → List D → List D → List D) → Splits c d sub → (g : D → List D) (m : Tree → List D → List D)
        → ((p : Plan) (os is : List D) → meets d p ≡ false → sub p os is ≡ g (value h (claim h c X p os is)))
        → ((t : Tree) (os is : List D) → tree_meets d t ≡ true → sub (peak t) os is ≡ m t is)
        → sub p (e1 ++ (e2 ++ (e3 ++ (e4 ++ rest)))) is
        ≡ flat_map g prefix_fold ++ (flat_map g (e2 ++ peak_values h c X more_single is1)
        ++ (over_given c m (t ∷ over) is2 ++ (flat_map g (peak_values h c X more_single_after is3 ++ e3) ++ flat_map g suffix_right_fold)))
    given_by sub splits g m apart over_is =
        sym (append-nil (sub p (e1 ++ (e2 ++ (e3 ++ (e4 ++ rest)))) is))
        ∙ flattened c d within sub splits p [] (e1 ++ (e2 ++ (e3 ++ (e4 ++ rest)))) is
        ∙ ap (λ z. gathered c sub z (e1 ++ (e2 ++ (e3 ++ (e4 ++ rest)))) is) (append-nil (flat d p) ∙ parts_are p whole_is)
        ∙ gathered_all h c d within X sub splits g m apart over_is (folded_prefix bagging k before) more_folded (single_before bagging k before) more_single (t ∷ over)
        more_single_after (single_after bagging k met_whole after) more_suffix (folded_suffix bagging k met_whole after) (met_part + (k - met_part))
        (unmet_prefix c bagging k before cu) (met_left c more_folded _ met_all) (unmet_before c bagging k before cu) (met_left c more_single _ (met_right c more_folded _ met_all))
        (met_left c more_single_after more_suffix (met_right c (t ∷ over) _ met_later)) (unmet_after c bagging k met_whole after cv)
        (met_right c more_single_after more_suffix (met_right c (t ∷ over) _ met_later)) (unmet_suffix c bagging k met_whole after cv)
        (unmet_prefix d bagging k before (unmet_left d before more_before du)) (unmet_prefix d bagging (k - length before) more_before (unmet_right d before more_before du))
        (unmet_before d bagging k before (unmet_left d before more_before du)) (unmet_before d bagging (k - length before) more_before (unmet_right d before more_before du)) dm
        (unmet_after d bagging k met_part more_after (unmet_left d more_after after dv)) (unmet_after d bagging k met_whole after (unmet_right d more_after after dv))
        (subst (Unmet d) (suffix_split bagging k met_part met_whole more_after after met_more) (unmet_suffix d bagging k met_part (more_after ++ after) dv))
        e1 e2 e3 e4 rest is l1 l2 l3 l4

    pub outside_parts_given : sub_outside_parts h c d X p (e1 ++ (e2 ++ (e3 ++ (e4 ++ rest)))) is ≡ prefix_fold
        ++ ((e2 ++ peak_values h c X more_single is1) ++ ((peak_values h c X more_single_after is3 ++ e3) ++ suffix_right_fold))
    outside_parts_given =
        given_by (sub_outside_parts h c d X) (outside_parts_splits h c d X) (λ x. x ∷ []) (λ u es. []) (outside_parts_apart h c d X) (outside_parts_over h c d X)
        ∙ ap₂ ◌++◌ (each_one prefix_fold)
        (ap₂ ◌++◌ (each_one (e2 ++ peak_values h c X more_single is1))
        (ap₂ ◌++◌ (over_none c (t ∷ over) is2) (ap₂ ◌++◌ (each_one (peak_values h c X more_single_after is3 ++ e3)) (each_one suffix_right_fold))))

    pub inner_given : sub_inner h c d X p (e1 ++ (e2 ++ (e3 ++ (e4 ++ rest)))) is ≡ over_given c (sub_siblings h c d X) (t ∷ over) is2
    inner_given =
        given_by (sub_inner h c d X) (inner_splits h c d X) (λ x. []) (sub_siblings h c d X) (inner_apart h c d X) (inner_over h c d X)
        ∙ ap₂ ◌++◌ (each_none prefix_fold)
        (ap₂ ◌++◌ (each_none (e2 ++ peak_values h c X more_single is1))
        (ap₂ (λ x y. over_given c (sub_siblings h c d X) (t ∷ over) is2 ++ (x ++ y)) (each_none (peak_values h c X more_single_after is3 ++ e3))
        (each_none suffix_right_fold)))
        ∙ append-nil (over_given c (sub_siblings h c d X) (t ∷ over) is2)
