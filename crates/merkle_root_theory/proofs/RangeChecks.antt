-- The range check by the table: the honest inputs are accepted, and no others, but for collisions.
use Rattle.std.proofs.Common.{◌≡◌, ℕ, true, ◌+◌, ◌-◌, ◌≤◌, ◌<◌, ◌^◌, add-sub_of_le, List, [], ◌∷◌, ◌++◌, ◌⊎◌, inl, inr, refl, ap, ap₂, sym, ◌∙◌, subst, ⊎_elim}
use Rattle.std.proofs.Common.{arith, length, map, take, drop, get_or, Option, Some, None, option_map}
use Rattle.std.specs.List.{AllByRecursion}
use Rattle.std.proofs.Math.Nat.{add-sub_cancel_left}
use Rattle.std.proofs.lemmas.List.{length-map, length-reverse, get_or-take, get_or-drop, length-take-le, length-drop, nil_from_length}
use Rattle.std.proofs.lemmas.Bool.{cases_lt}
use Rattle.merkle_base.specs.Tree.{Tree, leaf, join, height, first_leaf, width, IsBuilt, end_leaf}
use Rattle.merkle_base.specs.Forest.{forest, size}
use Rattle.merkle_base.specs.Heights.{IsLawful}
use Rattle.merkle_base.proofs.Lists.{same_list}
use Rattle.merkle_base.proofs.Nodes.{size_le}
use Rattle.merkle_base.proofs.Lookup.{size_large}
use Rattle.merkle_base.proofs.Balance.{heights_forest}
use Rattle.merkle_root_theory.specs.Collision.{Member, Collision, Collides}
use Rattle.merkle_root_theory.specs.Plan.{Plan, root_plan, plan_expression, plan_digest, tree_digest}
use Rattle.merkle_base.specs.declared.family.Bagging.{Bagging}
use Rattle.merkle_base.specs.declared.family.Bagging.TheVariants.{ForwardFold, BackwardFold}
use Rattle.merkle_root_theory.specs.Claim.{InTree, claim_of}
use Rattle.merkle_root_theory.specs.Outside.{HasLayout}
use Rattle.merkle_root_theory.specs.Check.{root_of, all_inputs, list_expression, RangeInput, chosen, leaf_given, range_expression, HasDigestCount}
use Rattle.merkle_root_theory.specs.Check.{HasHonestDigests, AcceptsByPlan, IsHonestByPlan, CoversEachLeaf}
use Rattle.merkle_base.specs.Scheme.{Scheme}
use Rattle.merkle_base.specs.Places.{peaks_of}
use Rattle.merkle_root_theory.specs.Range.{end_of, range_parts, range_siblings, leaf_of, AcceptsNonempty, IsEmptyInput, IsHonestNonempty, plan_root}
use Rattle.merkle_root_theory.specs.Range.{IsLawfulScheme, RangeCollides, HonestIsAccepted, RangeSound}
use Rattle.merkle_root_theory.proofs.ListChecks.{was_chosen, no_other_range, honest_range_accepted, root_tells}
use Rattle.merkle_root_theory.proofs.PeakGroups.{range_layout}
use Rattle.merkle_root_theory.proofs.HonestInputs.{range_of_some, range_of_cases, cases_of_range}
use Rattle.merkle_root_theory.proofs.RangeDigests.{range_digests_are, length-range_digests}
use Rattle.merkle_base.proofs.PeakLists.{Spans, peaks_built, peaks_spans}

-- a tree has the locations of its span, and no others
pub in_tree : (ns : List Tree) (t : Tree) (i : ℕ) → IsBuilt ns t → first_leaf t ≤ i → i < end_leaf t → InTree t i
in_tree ns (leaf p n) i h a b = omega arith
in_tree ns (join p l r) i h a b =
    ⊎_elim (λ x. inl (in_tree ns l i h.4 a (omega (arith, h.3, x)))) (λ x. inr (in_tree ns r i h.5 (omega (arith, h.3, x)) (omega (arith, h.3))))
    (cases_lt i (end_leaf l))

pub tree_in : (ns : List Tree) (t : Tree) (i : ℕ) → IsBuilt ns t → InTree t i → (first_leaf t ≤ i) × (i < end_leaf t)
tree_in ns (leaf p n) i h e = (omega (arith, e), omega (arith, e))
tree_in ns (join p l r) i h (inl m) = let w = tree_in ns l i h.4 m in (omega (arith, w.0), omega (arith, w.1, h.3))
tree_in ns (join p l r) i h (inr m) = let w = tree_in ns r i h.5 m in (omega (arith, w.0, h.3), omega (arith, w.1, h.3))

spans_cover : (ns : List Tree) (o n i : ℕ) (ts : List Tree) → Spans o n ts → AllByRecursion (IsBuilt ns) ts → o ≤ i → i < n → (t : Tree) × Member ts t × InTree t i
spans_cover ns o n i [] c h a b = absurd (omega (arith, c))
spans_cover ns o n i (t ∷ ts) c h a b = ⊎_elim (λ x. (t, inl refl, in_tree ns t i h.0 (omega (arith, c.0)) x))
    (λ x. let w = spans_cover ns (o + width t) n i ts c.1 h.1 (omega (arith, c.0, x)) b in (w.0, inr w.1, w.2)) (cases_lt i (end_leaf t))

pub covers : {D : Type 0} (s : Scheme D) → CoversEachLeaf (peaks_of s.rule)
covers s n i a = spans_cover (forest s.rule n).nodes 0 n i (peaks_of s.rule n) (peaks_spans s.rule n) (peaks_built s.rule n) (omega arith) a

-- the limits
pub small_leaves : {D : Type 0} (s : Scheme D) (max_nodes n : ℕ) → IsLawful s.rule s.max_leaves max_nodes → n ≤ s.max_leaves → n < 2 ^ 64
small_leaves s max_nodes n law l = omega (arith, size_large s.rule n, size_le s.rule n s.max_leaves l, law.size_at_limit, law.limit_fits)

pub small_inactive : {D : Type 0} (s : Scheme D) (max_nodes n k : ℕ) → IsLawful s.rule s.max_leaves max_nodes → n ≤ s.max_leaves → k ≤ length (peaks_of s.rule n) → k < 2 ^ 64
small_inactive s max_nodes n k law l m = omega (arith, length-reverse (forest s.rule n).peaks, length-map (forest s.rule n).peaks height, ap length (heights_forest s.rule n), law.at_most_64_peaks n l)

-- no leaves, no plan
pub no_plan : {D : Type 0} (s : Scheme D) (b : Bagging) (k : ℕ) → root_plan b k (peaks_of s.rule 0) ≡ None
unfolding forest
no_plan s ForwardFold k = refl
no_plan s BackwardFold k = refl

pub no_peaks : {D : Type 0} (s : Scheme D) → length (peaks_of s.rule 0) ≡ 0
unfolding forest
no_peaks s = refl

-- the root of no leaves is that of an empty list
pub empty_root : {D : Type 0} (s : Scheme D) (xs : List D) (k : ℕ) → k ≤ length (peaks_of s.rule (length xs)) → xs ≡ [] → root_of s 0 0 None ≡ plan_root s xs k
empty_root s xs k low e =
    let l : 0 ≡ length xs = sym (ap length e) in
    let z : 0 ≡ k = omega (arith, subst (λ n. k ≤ length (peaks_of s.rule n)) (sym l) low, no_peaks s) in
    ap (λ o. root_of s 0 0 (option_map (plan_expression (leaf_of s.hashing xs)) o)) (sym (no_plan s s.bagging 0))
    ∙ ap₂ (λ n j. root_of s n j (list_expression s (leaf_of s.hashing xs) n j)) l z

module _ {D : Type 0} (s : Scheme D) (xs : List D) (r : RangeInput D) where
  counts_of : (os : List Plan) (is : List Tree) (o : Option Plan) → HasLayout (chosen r) os is o → length r.digests ≡ length os + length is → HasDigestCount r o
  counts_of os is None w e = w
  counts_of os is (Some p) w e = e ∙ sym (ap₂ (λ x y. length x + length y) w.0 w.1)

  honest_of : (os : List Plan) (is : List Tree) (o : Option Plan) → HasLayout (chosen r) os is o
      → r.digests ≡ map (plan_digest s.hashing (leaf_of s.hashing xs)) os ++ map (tree_digest s.hashing (leaf_of s.hashing xs)) is
      → HasHonestDigests s (leaf_of s.hashing xs) r o
  honest_of os is None w e = w
  honest_of os is (Some p) w e = e ∙ sym (ap₂ (λ x y. map (plan_digest s.hashing (leaf_of s.hashing xs)) x ++ map (tree_digest s.hashing (leaf_of s.hashing xs)) y) w.0 w.1)

  digests_of : (os : List Plan) (is : List Tree) (o : Option Plan) → HasLayout (chosen r) os is o → HasHonestDigests s (leaf_of s.hashing xs) r o
      → r.digests ≡ map (plan_digest s.hashing (leaf_of s.hashing xs)) os ++ map (tree_digest s.hashing (leaf_of s.hashing xs)) is
  digests_of os is None w e = elim e [ ]
  digests_of os is (Some p) w e = e ∙ ap₂ (λ x y. map (plan_digest s.hashing (leaf_of s.hashing xs)) x ++ map (tree_digest s.hashing (leaf_of s.hashing xs)) y) w.0 w.1

pub old_accepts : {D : Type 0} (s : Scheme D) (max_nodes : ℕ) → IsLawful s.rule s.max_leaves max_nodes → (r : RangeInput D) (root : D) → AcceptsNonempty s r root → AcceptsByPlan s r root
old_accepts s max_nodes law r root ok = record {
  within = ok.within;
  leaves = small_leaves s max_nodes r.leaves law ok.leaves;
  inactive = small_inactive s max_nodes r.leaves r.inactive law ok.leaves ok.inactive;
  counts = counts_of s [] r _ _ _ (range_layout s r.leaves r.inactive r.start (end_of r) (omega (arith, ok.nonempty)) ok.within) ok.counts;
  root_is = ok.root_is;
}

-- elements that are a list's at each location of their range
pub elements_are : {D : Type 0} (s : Scheme D) (xs : List D) (r : RangeInput D) → end_of r ≤ length xs
    → ((i : ℕ) → r.start ≤ i → i < end_of r → leaf_given s.hashing r i ≡ leaf_of s.hashing xs i) → r.elements ≡ take (length r.elements) (drop r.start xs)
elements_are s xs r within g =
    let long : length r.elements ≡ length (take (length r.elements) (drop r.start xs)) = sym (length-take-le (length r.elements) (drop r.start xs) (omega (arith, within, length-drop r.start xs))) in
    same_list s.hashing.empty r.elements _ long (λ j m. ap (λ z. get_or r.elements z s.hashing.empty) (sym (add-sub_cancel_left r.start j)) ∙ g (r.start + j) (omega arith) (omega arith)
    ∙ sym (get_or-take (length r.elements) (drop r.start xs) j s.hashing.empty m ∙ get_or-drop r.start xs j s.hashing.empty))

-- an honest input is given the list's leaves
pub honest_leaves : {D : Type 0} (s : Scheme D) (xs : List D) (k : ℕ) (r : RangeInput D) → IsHonestNonempty s xs k r → (i : ℕ) → chosen r i ≡ true → leaf_given s.hashing r i ≡ leaf_of s.hashing xs i
honest_leaves s xs k r honest i q =
    let v = was_chosen r i q in
    let m : i - r.start < length r.elements = omega (arith, v.0, v.1) in
    ap (λ z. get_or z (i - r.start) s.hashing.empty) honest.elements
    ∙ get_or-take (length r.elements) (drop r.start xs) (i - r.start) s.hashing.empty m ∙ get_or-drop r.start xs (i - r.start) s.hashing.empty
    ∙ ap (leaf_of s.hashing xs) (add-sub_of_le v.0)

pub old_honest : {D : Type 0} (s : Scheme D) (xs : List D) (k : ℕ) (r : RangeInput D) → IsHonestNonempty s xs k r → IsHonestByPlan s (leaf_of s.hashing xs) (length xs) k r
old_honest s xs k r honest = record {
  leaves = honest.leaves;
  inactive = honest.inactive;
  digests = honest_of s xs r _ _ _ (range_layout s (length xs) k r.start (end_of r) (omega (arith, honest.nonempty)) honest.within) (honest.digests ∙ range_digests_are s xs k r.start (end_of r));
  elements = λ j m. ap (λ z. get_or z j s.hashing.empty) honest.elements ∙ get_or-take (length r.elements) (drop r.start xs) j s.hashing.empty m ∙ get_or-drop r.start xs j s.hashing.empty;
}

module _ {D : Type 0} (s : Scheme D) (size max_nodes : ℕ) (sound : IsLawfulScheme s size max_nodes) (xs : List D) (k : ℕ)
    (few : length xs ≤ s.max_leaves) (low : k ≤ length (peaks_of s.rule (length xs))) (r : RangeInput D) where
  pub honest_some : IsHonestNonempty s xs k r → AcceptsNonempty s r (plan_root s xs k)
  honest_some honest =
      let e : length xs ≡ r.leaves = sym honest.leaves in
      let old = old_honest s xs k r honest in
      let ok = honest_range_accepted s (leaf_of s.hashing xs) (length xs) k (small_leaves s max_nodes (length xs) sound.lawful few)
      (small_inactive s max_nodes (length xs) k sound.lawful few low) r honest.within old in
      record {
        nonempty = honest.nonempty;
        within = omega (arith, honest.within, e);
        leaves = omega (arith, few, e);
        inactive = subst (λ z. z ≤ length (peaks_of s.rule r.leaves)) (sym honest.inactive) (subst (λ z. k ≤ length (peaks_of s.rule z)) e low);
        counts = ap length honest.digests ∙ length-range_digests s xs k r.start (end_of r)
            ∙ ap₂ (λ x y. length (range_parts s.bagging x r.start (end_of r) (peaks_of s.rule y)) + length
            (range_siblings r.start (end_of r) (peaks_of s.rule y))) (sym honest.inactive) e;
        root_is = ok.root_is;
      }

  pub some_honest : AcceptsNonempty s r (plan_root s xs k) → IsHonestNonempty s xs k r ⊎ RangeCollides s r xs k
  some_honest ok = ⊎_elim (λ w. inl (honest w)) inr
      (no_other_range s size sound.laws sound.bytes (covers s) (leaf_of s.hashing xs) (length xs) k
      (small_leaves s max_nodes (length xs) sound.lawful few) (small_inactive s max_nodes (length xs) k sound.lawful few low) r
      (old_accepts s max_nodes sound.lawful r _ ok))
    where
      honest : IsHonestByPlan s (leaf_of s.hashing xs) (length xs) k r → IsHonestNonempty s xs k r
      honest w =
          let within : end_of r ≤ length xs = omega (arith, ok.within, w.leaves) in
          let long : length r.elements ≡ length (take (length r.elements) (drop r.start xs)) =
          sym (length-take-le (length r.elements) (drop r.start xs) (omega (arith, within, length-drop r.start xs))) in
          record {
            nonempty = ok.nonempty;
            within = within;
            leaves = w.leaves;
            inactive = w.inactive;
            digests = digests_of s xs r _ _ _ (range_layout s (length xs) k r.start (end_of r) (omega (arith, ok.nonempty)) within) w.digests ∙ sym (range_digests_are s xs k r.start (end_of r));
            elements = same_list s.hashing.empty r.elements _ long
                (λ j m. w.elements j m ∙ sym (get_or-take (length r.elements) (drop r.start xs) j s.hashing.empty m ∙ get_or-drop r.start xs j s.hashing.empty));
          }

  none_honest : IsEmptyInput r → root_of s 0 0 None ≡ plan_root s xs k → (IsEmptyInput r × (xs ≡ [])) ⊎ RangeCollides s r xs k
  none_honest empty same = ⊎_elim (λ w. inl (empty, nil_from_length xs (sym w.0)))
      (λ c. inr (subst (λ z. (c : Collision D)
      × Collides s.hashing z (all_inputs s (length xs) k (list_expression s (leaf_of s.hashing xs) (length xs) k)) c) (sym inputs) c))
      (root_tells s size sound.bytes 0 (length xs) 0 k None (list_expression s (leaf_of s.hashing xs) (length xs) k) (omega arith)
      (small_leaves s max_nodes (length xs) sound.lawful few) (omega arith) (small_inactive s max_nodes (length xs) k sound.lawful few low) same)
    where
      nothing : range_expression s r ≡ None
      nothing = ap (λ (o : Option Plan). option_map (λ p. claim_of s.hashing (chosen r) (leaf_given s.hashing r) p r.digests) o)
          (ap (λ n. root_plan s.bagging r.inactive (peaks_of s.rule n)) empty.leaves ∙ no_plan s s.bagging r.inactive)

      inputs : all_inputs s r.leaves r.inactive (range_expression s r) ≡ all_inputs s 0 0 None
      inputs = ap (λ e. all_inputs s r.leaves r.inactive e) nothing ∙ ap₂ (λ n j. all_inputs s n j None) empty.leaves empty.inactive

pub honest_is_accepted : {D : Type 0} → HonestIsAccepted D
honest_is_accepted s size max_nodes sound xs k few low r honest =
    ⊎_elim (λ w. inl (honest_some s size max_nodes sound xs k few low r w)) (λ w. inr (w.0, empty_root s xs k low w.1)) (cases_of_range s xs k r low honest)

pub accepted_is_honest : {D : Type 0} → RangeSound D
accepted_is_honest s size max_nodes sound xs k few low r ok =
    ⊎_elim (λ w. ⊎_elim (λ z. inl (range_of_some s xs k r z)) inr (some_honest s size max_nodes sound xs k few low r w))
    (λ w. ⊎_elim (λ z. inl (range_of_cases s xs k r low (inr z))) inr (none_honest s size max_nodes sound xs k few low r w.0 w.1)) ok
