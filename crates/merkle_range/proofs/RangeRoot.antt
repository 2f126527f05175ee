-- The root that a proof and elements lead to.
use Rattle.std.proofs.Common.{◌≡◌, ℕ, ◌+◌, ◌<◌, ◌≤◌, Bool, List, [], ◌∷◌, ◌++◌, length, length-append, take, drop, drop-drop, refl, ap, ap₂, sym, ◌∙◌, subst, arith}
use Rattle.std.specs.List.{flat_map}
use Rattle.std.proofs.lemmas.List.{length-map, length-reverse}
use Rattle.merkle_base.specs.Tree.{Tree, height, position}
use Rattle.merkle_base.specs.Forest.{forest}
use Rattle.merkle_base.specs.Heights.{IsLawful}
use Rattle.merkle_base.specs.Hashing.{Hashing}
use Rattle.merkle_base.specs.Places.{peaks_of, wholly_before}
use Rattle.merkle_base.specs.Root.{peaks_root}
use Rattle.merkle_base.specs.declared.family.Bagging.{Bagging}
use Rattle.merkle_base.proofs.Balance.{heights_forest}
use Rattle.merkle_base.proofs.Growth.{forest_grown}
use Rattle.merkle_root_theory.specs.Plan.{siblings}
use Rattle.merkle_root_theory.specs.Outside.{fold_all, folded_prefix, single_before, single_after}
use Rattle.merkle_root_theory.specs.Extract.{single_pairs, over_pairs, extracted}
use Rattle.merkle_root_theory.specs.Layouts.{count_before, count_after, count_inactive}
use Rattle.merkle_root_theory.specs.Check.{in_range, RangeInput, chosen, leaf_given}
use Rattle.merkle_base.specs.Scheme.{Scheme, scheme_of}
use Rattle.merkle_root_theory.specs.Range.{overlapping, wholly_after, end_of, range_parts}
use Rattle.merkle_root_theory.specs.Range.{digest_count}
use Rattle.merkle_root_theory.specs.Walk.{peak_values, ArePeakDigests}
use Rattle.merkle_range.specs.Input.{digest_input, range_input, leaf_digests, IsComputed}
use Rattle.merkle_hasher.specs.Subtrees.{subtree_of}
use Rattle.merkle_range.specs.GroupedPeaks.{HoldsGroups}
use Rattle.merkle_range.specs.declared.groups.PeakGroups.{PeakGroups}
use Rattle.merkle_root_theory.proofs.PeakGroups.{length-peaks_of, some_over}
use Rattle.merkle_base.proofs.PeakLists.{covers_spans}
use Rattle.merkle_root_theory.proofs.RangeDigests.{digest_count_is}
use Rattle.merkle_root_theory.proofs.LayoutRoot.{layout_counts, layout_root, inactive_fits}

-- groups have as many peaks outside the range as there are before it and after it
pub outside_count : {F : Type 0} (a b : ℕ) (g : PeakGroups F) (ts : List Tree) → HoldsGroups a b g ts → length g.outside.items ≡ length (wholly_before a ts) + length (wholly_after b ts)
outside_count a b g ts held =
    let before = wholly_before a ts in let after = wholly_after b ts in
    ap length held.outside ∙ length-map (before ++ after) position ∙ length-append before after

-- and as many in all as there are
pub group_count : {F : Type 0} (rule : List ℕ → List ℕ) (a b n : ℕ) (g : PeakGroups F) → a < b → HoldsGroups a b g (peaks_of rule n)
    → length g.overlapping.items + length g.outside.items ≡ length (peaks_of rule n)
group_count {F} rule a b n g l held =
    let ts = peaks_of rule n in
    omega (arith, ap length held.over, length-map (overlapping a b ts) (subtree_of {F = F}), outside_count a b g ts held, length-peaks_of rule n a b l)

-- and these are few
pub few_peaks : (rule : List ℕ → List ℕ) (max_leaves max_nodes n : ℕ) → IsLawful rule max_leaves max_nodes → n ≤ max_leaves → length (peaks_of rule n) ≤ 64
few_peaks rule max_leaves max_nodes n law l = omega (arith, length-reverse (forest rule n).peaks, length-map (forest rule n).peaks height, ap length (heights_forest rule n), law.at_most_64_peaks n l)

none_joined : {A : Type 0} (xs ys zs : List A) → length (xs ++ (ys ++ zs)) ≡ 0 → length ys ≡ 0
none_joined xs ys zs e = omega (arith, e, length-append xs (ys ++ zs), length-append ys zs)

no_peaks : {D : Type 0} (h : Hashing D) (c : ℕ → Bool) (X : ℕ → D) (ts : List Tree) (ds : List D) → length (peak_values h c X ts ds) ≡ 0 → ts ≡ []
no_peaks h c X [] ds e = refl
no_peaks h c X (t ∷ ts) ds e = absurd (omega arith)

module _ {D : Type 0} (h : Hashing D) (bagging : Bagging) (rule : List ℕ → List ℕ) (max_leaves domain : ℕ) (leaves inactive : ℕ) (given : List D)
    (a b : ℕ) (ls : List D) (some : 0 < length ls) (end_is : b ≡ a + length ls) where
  abbrev scheme : Scheme D
  scheme = scheme_of h bagging rule max_leaves domain

  abbrev input : RangeInput D
  input = digest_input leaves inactive given a ls

  end_same : b ≡ end_of input
  end_same = end_is

  -- how many digests of a proof are for the peaks before the range, and for those after its end
  abbrev pub digests_before : ℕ
  digests_before = count_before bagging inactive (wholly_before a (peaks_of rule leaves))

  abbrev pub digests_after : ℕ → ℕ
  digests_after z = count_after bagging inactive (length (wholly_before a (peaks_of rule leaves)) + length (overlapping a z (peaks_of rule leaves))) (wholly_after z (peaks_of rule leaves))

  -- what the digests of the peaks are to the input
  module _ (within : b ≤ leaves) (m n : ℕ) (m_is : m ≡ digests_before) (n_is : n ≡ digests_after b) where
    abbrev AreDigests : ℕ → (ℕ → D) → ℕ → ℕ → List D → Type 0
    AreDigests z X i j all = ArePeakDigests h (in_range a z) X (overlapping a z (peaks_of rule leaves)) i j given all

    within_given : end_of input ≤ leaves
    within_given = omega (arith, within, end_same)

    as_input : (all : List D) → AreDigests b (leaf_given h input) m n all → AreDigests (end_of input) (leaf_given h input) digests_before (digests_after (end_of input)) all
    as_input all w =
        let X = leaf_given h input in
        let one : AreDigests b X digests_before (digests_after b) all = subst (λ i. AreDigests b X i (digests_after b) all) m_is (subst (λ j. AreDigests b X m j all) n_is w) in
        subst (λ z. AreDigests z X digests_before (digests_after z) all) end_same one

    pub computed : leaves ≤ max_leaves → inactive ≤ length (peaks_of rule leaves) → (all : List D) → AreDigests b (leaf_given h input) m n all
        → (j : ℕ) → j ≡ count_inactive bagging inactive (wholly_before a (peaks_of rule leaves)) → (d : D) → d ≡ peaks_root scheme leaves j inactive all → IsComputed scheme input d
    computed few low all w j j_is d is =
        let v = as_input all w in (
          record {
            nonempty = some;
            within = within_given;
            leaves = few;
            inactive = low;
            counts = v.count ∙ ap (λ z. z + length (flat_map (siblings (chosen input)) (overlapping a (end_of input) (peaks_of rule leaves))))
                (sym (layout_counts scheme input)) ∙ sym (digest_count_is scheme input);
          },
          is ∙ ap (λ i. peaks_root scheme leaves i inactive all) j_is ∙ layout_root scheme input some within_given all v,
        )

    -- as many digests are asked for as a proof of the input has
    pub digests_asked : m + n + length (flat_map (siblings (in_range a b)) (overlapping a b (peaks_of rule leaves))) ≡ digest_count scheme input
    digests_asked =
        ap₂ (λ i j. i + j + length (flat_map (siblings (in_range a b)) (overlapping a b (peaks_of rule leaves)))) m_is n_is
        ∙ ap (λ z. digests_before + digests_after z + length (flat_map (siblings (in_range a z)) (overlapping a z (peaks_of rule leaves)))) end_same
        ∙ ap (λ z. z + length (flat_map (siblings (chosen input)) (overlapping a (end_of input) (peaks_of rule leaves)))) (sym (layout_counts scheme input))
        ∙ sym (digest_count_is scheme input)

    pub never_empty : (all : List D) → AreDigests b (leaf_given h input) m n all → length all ≡ 0 → ⊥
    never_empty all w e =
        some_over a b 0 leaves (peaks_of rule leaves) (omega (arith, some, end_is))
        (covers_spans leaves (forest rule leaves).peaks (forest_grown rule leaves).covers) (omega arith) (omega (arith, some, end_is, within))
        (no_peaks h (in_range a b) (leaf_given h input) _ _ (none_joined (take m given) _ _ (sym (ap length w.digests) ∙ e)))

    -- there are as many as are folded apart
    pub folds_given : inactive ≤ length (peaks_of rule leaves) → (all : List D) → AreDigests b (leaf_given h input) m n all
        → (j : ℕ) → j ≡ count_inactive bagging inactive (wholly_before a (peaks_of rule leaves)) → j ≤ length all
    folds_given low all w j j_is = omega (arith, j_is, inactive_fits scheme input some all (as_input all w) low)

    -- the pairs of the individual peaks before the range, of those that overlap it and of the individual ones after it are those of the input
    module _ {C : Type 0} (Took : C → List (ℕ × D) → C → Type 0) (both : (s t u : C) (x y : List (ℕ × D)) → Took s x t → Took t y u → Took s (x ++ y) u) where
      pub all_put : (s0 s1 s2 s3 : C)
          → Took s0 (single_pairs h (single_before bagging inactive (wholly_before a (peaks_of rule leaves)))
          (drop (length (fold_all (folded_prefix bagging inactive (wholly_before a (peaks_of rule leaves))))) given)) s1
          → Took s1 (over_pairs h (in_range a b) (leaf_given h input) (overlapping a b (peaks_of rule leaves)) (drop (m + n) given)) s2
          → Took s2 (single_pairs h (single_after bagging inactive
          (length (wholly_before a (peaks_of rule leaves)) + length (overlapping a b (peaks_of rule leaves)))
          (wholly_after b (peaks_of rule leaves))) (drop m given)) s3
          → Took s0 (extracted scheme input) s3
      all_put s0 s1 s2 s3 x y z =
          let ts = peaks_of rule leaves in
          let before = wholly_before a ts in
          let single = single_before bagging inactive before in
          let front = length (fold_all (folded_prefix bagging inactive before)) in
          let X = leaf_given h input in
          let e = end_of input in
          let y1 : Took s1 (over_pairs h (in_range a e) X (overlapping a e ts) (drop (m + n) given)) s2 =
          subst (λ v. Took s1 (over_pairs h (in_range a v) X (overlapping a v ts) (drop (m + n) given)) s2) end_same y in
          let count : m + n ≡ length (range_parts bagging inactive a e ts) = ap₂ (λ i j. i + j) m_is (n_is ∙ ap digests_after end_same) ∙ sym (layout_counts scheme input) in
          let y2 : Took s1 (over_pairs h (in_range a e) (leaf_given h input) (overlapping a e ts) (drop (length (range_parts bagging inactive a e ts)) given)) s2 =
          subst (λ v. Took s1 v s2) (ap (λ v. over_pairs h (in_range a e) X (overlapping a e ts) (drop v given)) count) y1 in
          let z1 : Took s2 (single_pairs h (single_after bagging inactive (length before + length (overlapping a e ts)) (wholly_after e ts)) (drop m given)) s3 =
          subst (λ v. Took s2 (single_pairs h (single_after bagging inactive (length before + length (overlapping a v ts)) (wholly_after v ts)) (drop m given)) s3) end_same z in
          let back : drop m given ≡ drop (length single) (drop front given) = ap (λ v. drop v given) m_is ∙ sym (drop-drop (length single) front given) in
          let z2 = subst (λ v. Took s2 (single_pairs h (single_after bagging inactive (length before + length (overlapping a e ts)) (wholly_after e ts)) v) s3) back z1 in
          both s0 s1 s3 _ _ x (both s1 s2 s3 _ _ y2 z2)

-- an input is known by the parts of its proof
pub same_digest_input : {D : Type 0} (a : ℕ) (ls : List D) (n m k j : ℕ) (ds fs : List D) → n ≡ m → k ≡ j → ds ≡ fs → digest_input n k ds a ls ≡ digest_input m j fs a ls
same_digest_input a ls n m k j ds fs p q r = ap₂ (λ x y. digest_input x y ds a ls) p q ∙ ap (λ z. digest_input m j z a ls) r

pub same_input : {D : Type 0} (s : Scheme D) (a : ℕ) (es : List (List ℕ)) (n m k j : ℕ) (ds fs : List D) → n ≡ m → k ≡ j → ds ≡ fs → range_input s n k ds a es ≡ range_input s m j fs a es
same_input s a es n m k j ds fs p q r = same_digest_input a (leaf_digests s.hashing s.rule a es) n m k j ds fs p q r
