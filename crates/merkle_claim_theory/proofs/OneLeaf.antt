-- The proof of one leaf: what it needs is what a range of that leaf needs, and it has at most 122 digests.
use Rattle.std.proofs.Common.{◌≡◌, ℕ, Bool, cond, ◌||◌, nat_eq, ◌+◌, ◌-◌, ◌≤◌, ◌<◌, List, [], ◌∷◌, ◌++◌, refl, ap, ap₂, ◌∙◌, arith, length, flat_map, length-append}
use Rattle.std.proofs.lemmas.Bool.Decides.{nat_tests}
use Rattle.std.proofs.lemmas.List.{length-take}
use Rattle.std.proofs.lemmas.List.Concat.{flat_map-append}
use Rattle.merkle_base.specs.Tree.{Tree, leaf, join}
use Rattle.merkle_base.specs.Heights.{IsLawful}
use Rattle.merkle_base.specs.Places.{peaks_of, wholly_before}
use Rattle.merkle_base.specs.declared.family.Bagging.{Bagging}
use Rattle.merkle_base.specs.declared.family.Bagging.TheVariants.{ForwardFold, BackwardFold}
use Rattle.merkle_base.proofs.PeakLists.{peaks_built, peaks_spans}
use Rattle.merkle_forest_theory.specs.FewPeaks.{FewPeaks}
use Rattle.merkle_root_theory.specs.Plan.{tree_meets, siblings}
use Rattle.merkle_root_theory.specs.Outside.{folded_prefix, folded_suffix, Unmet}
use Rattle.merkle_root_theory.specs.Layouts.{count_before, count_after}
use Rattle.merkle_root_theory.specs.Check.{in_range}
use Rattle.merkle_root_theory.specs.Range.{overlapping, wholly_after, range_parts, range_siblings}
use Rattle.merkle_root_theory.specs.Reads.{nodes_read}
use Rattle.merkle_root_theory.proofs.Walks.{siblings_unmet}
use Rattle.merkle_root_theory.proofs.PeakGroups.{groups, unmet_before, unmet_after}
use Rattle.merkle_root_theory.proofs.LayoutCounts.{length-fold_all, length-bag_all, length-single_before, length-folded_suffix, length-layout}
use Rattle.merkle_claim_theory.specs.Multiproof.{one_leaf_nodes}
use Rattle.merkle_claim_theory.proofs.FewPositions.{one_leaf_few}

-- ---- a range of one leaf
pub one_in_range : (i j : ℕ) → in_range i (i + 1) j ≡ nat_eq j i
one_in_range i j = grind (arith, nat_tests)

meets_alike : (c d : ℕ → Bool) → ((j : ℕ) → c j ≡ d j) → (t : Tree) → tree_meets c t ≡ tree_meets d t
meets_alike c d f (leaf p i) = f i
meets_alike c d f (join p l r) = ap₂ ◌||◌ (meets_alike c d f l) (meets_alike c d f r)

siblings_alike : (c d : ℕ → Bool) → ((j : ℕ) → c j ≡ d j) → (t : Tree) → siblings c t ≡ siblings d t
siblings_alike c d f (leaf p i) = ap (λ z. cond z [] (leaf p i ∷ [])) (f i)
siblings_alike c d f (join p l r) = ap₂ (λ z us. cond z us (join p l r ∷ [])) (meets_alike c d f (join p l r)) (ap₂ ◌++◌ (siblings_alike c d f l) (siblings_alike c d f r))

pub flat_alike : (c d : ℕ → Bool) → ((j : ℕ) → c j ≡ d j) → (ts : List Tree) → flat_map (siblings c) ts ≡ flat_map (siblings d) ts
flat_alike c d f [] = refl
flat_alike c d f (t ∷ ts) = ap₂ ◌++◌ (siblings_alike c d f t) (flat_alike c d f ts)

-- ---- how many digests
unmet_count : (c : ℕ → Bool) (ts : List Tree) → Unmet c ts → length (flat_map (siblings c) ts) ≡ length ts
unmet_count c [] u = refl
unmet_count c (t ∷ ts) u = omega (arith, length-append (siblings c t) (flat_map (siblings c) ts), ap length (siblings_unmet c t u.0), unmet_count c ts u.1)

-- no more digests stand for the peaks before a range, or after it, than there are
count_before-few : (bagging : Bagging) (k : ℕ) (ts : List Tree) → count_before bagging k ts ≤ length ts
count_before-few ForwardFold k ts = omega (arith, length-fold_all ts)
count_before-few BackwardFold k ts = omega (arith, length-fold_all (folded_prefix BackwardFold k ts), length-take k ts, length-single_before BackwardFold k ts)

count_after-few : (bagging : Bagging) (k met : ℕ) (ts : List Tree) → count_after bagging k met ts ≤ length ts
count_after-few ForwardFold k met ts = omega (arith, length-bag_all (met + (k - met)) [])
count_after-few BackwardFold k met ts = omega (arith, length-take (k - met) ts, length-bag_all (met + (k - met)) (folded_suffix BackwardFold k met ts), length-folded_suffix BackwardFold k met ts)

-- the peaks outside a range of one leaf and the siblings on its path are as many as the nodes that prove the leaf
one_leaf_parts : (rule : List ℕ → List ℕ) (n i : ℕ)
    → length (wholly_before i (peaks_of rule n)) + length (wholly_after (i + 1) (peaks_of rule n)) + length (range_siblings i (i + 1) (peaks_of rule n)) ≡ length (one_leaf_nodes i (peaks_of rule n))
one_leaf_parts rule n i =
    let ts = peaks_of rule n in
    let c = in_range i (i + 1) in
    let before = wholly_before i ts in
    let over = overlapping i (i + 1) ts in
    let after = wholly_after (i + 1) ts in
    let split = ap (flat_map (siblings c)) (groups i (i + 1) 0 n ts (omega arith) (peaks_spans rule n)) ∙ flat_map-append (siblings c) before (over ++ after) in
    omega (
      arith,
      ap length (flat_alike c (λ j. nat_eq j i) (one_in_range i) ts),
      ap length split,
      length-append (flat_map (siblings c) before) (flat_map (siblings c) (over ++ after)),
      ap length (flat_map-append (siblings c) over after),
      length-append (flat_map (siblings c) over) (flat_map (siblings c) after),
      unmet_count c before (unmet_before i (i + 1) _ ts (peaks_built rule n)),
      unmet_count c after (unmet_after i (i + 1) _ ts (peaks_built rule n)),
    )

-- a proof of one leaf has no more digests than its location has positions
pub range_digests-one_leaf : (bagging : Bagging) (rule : List ℕ → List ℕ) (n i k : ℕ)
    → length (range_parts bagging k i (i + 1) (peaks_of rule n)) + length (range_siblings i (i + 1) (peaks_of rule n)) ≤ length (one_leaf_nodes i (peaks_of rule n))
range_digests-one_leaf bagging rule n i k =
    let ts = peaks_of rule n in
    let before = wholly_before i ts in
    let over = overlapping i (i + 1) ts in
    let after = wholly_after (i + 1) ts in
    omega (
      arith,
      length-layout bagging k before over after,
      count_before-few bagging k before,
      count_after-few bagging k (length before + length over) after,
      one_leaf_parts rule n i,
    )

-- under a lawful rule with few peaks it has at most 122
pub range_digests-few : (bagging : Bagging) (rule : List ℕ → List ℕ) (max_leaves max_nodes n i k : ℕ) → IsLawful rule max_leaves max_nodes → FewPeaks rule max_leaves → n ≤ max_leaves → i < n
    → length (range_parts bagging k i (i + 1) (peaks_of rule n)) + length (range_siblings i (i + 1) (peaks_of rule n)) ≤ 122
range_digests-few bagging rule max_leaves max_nodes n i k law few most less =
    omega (arith, range_digests-one_leaf bagging rule n i k, one_leaf_few rule max_leaves max_nodes law n most (λ j. few n j most) i less)

-- and reads at most 122 nodes
pub nodes_read-few : (rule : List ℕ → List ℕ) (max_leaves max_nodes n i : ℕ) → IsLawful rule max_leaves max_nodes → FewPeaks rule max_leaves → n ≤ max_leaves → i < n
    → length (nodes_read rule n i (i + 1)) ≤ 122
nodes_read-few rule max_leaves max_nodes n i law few most less =
    let ts = peaks_of rule n in
    omega (
      arith,
      length-append (wholly_before i ts) (wholly_after (i + 1) ts ++ range_siblings i (i + 1) ts),
      length-append (wholly_after (i + 1) ts) (range_siblings i (i + 1) ts),
      one_leaf_parts rule n i,
      one_leaf_few rule max_leaves max_nodes law n most (λ j. few n j most) i less,
    )
