-- What the checks of scattered leaves and of pins accept, in one form and by cases: with elements, and without.
use Rattle.std.proofs.Common.{◌≡◌, ◌↔◌, ℕ, ◌<◌, List, [], ◌∷◌, length, map, None, option_map, inl, inr, refl, ap, sym, subst, ◌∙◌, arith}
use Rattle.std.specs.List.{AllByRecursion}
use Rattle.merkle_base.specs.Forest.{forest}
use Rattle.merkle_base.specs.Places.{peaks_of}
use Rattle.merkle_base.specs.Scheme.{Scheme}
use Rattle.merkle_base.specs.declared.family.Bagging.{Bagging}
use Rattle.merkle_root_theory.specs.Check.{RangeInput, root_of}
use Rattle.merkle_root_theory.specs.Plan.{root_plan}
use Rattle.merkle_root_theory.proofs.Reconstruction.{leads_is_accepted}
use Rattle.merkle_claim_theory.specs.Multiproof.{MultiInput, locations_in, multi_positions, multi_on, multi_expression, AllHolds, AcceptsMultiCases, AcceptsMulti}
use Rattle.merkle_claim_theory.specs.Pinned.{pinned_on, pinned_expression, AcceptsPinnedCases, AcceptsPinned}
use Rattle.merkle_claim_theory.proofs.RebuiltPins.{pinned_is_rebuilt, held_accepted}

-- ---- no leaves
no_peaks : (rule : List ℕ → List ℕ) (n : ℕ) → n ≡ 0 → peaks_of rule n ≡ []
unfolding forest
no_peaks rule n e = rw e refl

no_plan : (bagging : Bagging) (k : ℕ) (rule : List ℕ → List ℕ) (n : ℕ) → n ≡ 0 → root_plan bagging k (peaks_of rule n) ≡ None
no_plan bagging k rule n e = ap (root_plan bagging k) (no_peaks rule n e)

no_positions : (rule : List ℕ → List ℕ) (n : ℕ) (is : List ℕ) → n ≡ 0 → multi_positions rule n is ≡ []
unfolding forest
no_positions rule n is e = rw e refl

no_items : {A : Type 0} (xs : List A) → length xs ≡ 0 → xs ≡ []
no_items [] e = refl
no_items (x ∷ xs) e = absurd (omega (arith, e))

-- ---- scattered leaves
module _ {D : Type 0} (s : Scheme D) (r : MultiInput D) (root : D) where
  nothing_computed : r.leaves ≡ 0 → multi_expression s r ≡ None
  nothing_computed e = ap (option_map (multi_on s r)) (no_plan s.bagging r.inactive s.rule r.leaves e)

  none_below : (es : List (ℕ × D)) → AllByRecursion (λ i. i < r.leaves) (map (λ e. e.0) es) → r.leaves ≡ 0 → es ≡ []
  none_below [] b e = refl
  none_below (x ∷ es) b e = absurd (omega (arith, e, b.0))

  root_same : (n k : ℕ) → r.leaves ≡ n → r.inactive ≡ k → r.leaves ≡ 0 → root_of s r.leaves r.inactive (multi_expression s r) ≡ root_of s n k None
  root_same n k e f z =
      ap (root_of s r.leaves r.inactive) (nothing_computed z)
      ∙ ap (λ x. root_of s x r.inactive None) e ∙ ap (λ x. root_of s n x None) f

  from_cases : AcceptsMultiCases s r root → AcceptsMulti s r root
  from_cases (inl w) = record {
    nonempty = inl w.nonempty;
    ascend = w.ascend;
    below = w.below;
    leaves = w.leaves;
    inactive = w.inactive;
    counts = w.counts;
    redundant = w.redundant;
    root_is = w.root_is;
  }
  from_cases (inr w) =
      let none : locations_in r ≡ [] = ap (map (λ e. e.0)) w.0.elements in
      record {
        nonempty = inr w.0.leaves;
        ascend = rw none tt;
        below = rw none tt;
        leaves = omega (arith, w.0.leaves);
        inactive = omega (arith, w.0.inactive);
        counts = ap length w.0.digests ∙ sym (ap length (no_positions s.rule r.leaves (locations_in r) w.0.leaves));
        redundant = subst (AllHolds s) (sym (nothing_computed w.0.leaves)) tt;
        root_is = root_same 0 0 w.0.leaves w.0.inactive w.0.leaves ∙ w.1;
      }

  to_cases : AcceptsMulti s r root → AcceptsMultiCases s r root
  to_cases w = elim (w.nonempty) [
    | inl some ↦ inl (record {
      nonempty = some;
      ascend = w.ascend;
      below = w.below;
      leaves = w.leaves;
      inactive = w.inactive;
      counts = w.counts;
      redundant = w.redundant;
      root_is = w.root_is;
    })
    | inr z ↦
        (let k : r.inactive ≡ 0 = omega (arith, w.inactive, ap length (no_peaks s.rule r.leaves z)) in
        inr (
          record {
            elements = none_below r.elements w.below z;
            leaves = z;
            inactive = k;
            digests = no_items r.digests (w.counts ∙ ap length (no_positions s.rule r.leaves (locations_in r) z));
          },
          sym (root_same 0 0 z k z) ∙ w.root_is,
        ))
  ]

  pub multi_cases : AcceptsMultiCases s r root ↔ AcceptsMulti s r root
  multi_cases = (from_cases, to_cases)

-- ---- pins
module _ {D : Type 0} (s : Scheme D) (r : RangeInput D) (pins : List D) (root : D) where
  nothing_pinned : r.leaves ≡ 0 → pinned_expression s r pins ≡ None
  nothing_pinned e = ap (option_map (pinned_on s r pins)) (no_plan s.bagging r.inactive s.rule r.leaves e)

  from_pinned : AcceptsPinnedCases s r pins root → AcceptsPinned s r pins root
  from_pinned (inl w) = ((leads_is_accepted s r root).1 (inl ((pinned_is_rebuilt s r pins root).0 w).0), w.pinned, w.rebuilt)
  from_pinned (inr w) = (
    (leads_is_accepted s r root).1 (inr (w.0.0, w.1)),
    ap length w.0.1 ∙ sym (ap length (no_peaks s.rule r.start w.0.0.start)),
    subst (AllHolds s) (sym (nothing_pinned w.0.0.leaves)) tt,
  )

  to_pinned : AcceptsPinned s r pins root → AcceptsPinnedCases s r pins root
  to_pinned w = elim ((leads_is_accepted s r root).0 w.0) [
    | inl ok ↦ inl (held_accepted s r pins root ok w.1 w.2)
    | inr none ↦ inr ((none.0, no_items pins (w.1 ∙ ap length (no_peaks s.rule r.start none.0.start))), none.1)
  ]

  pub pinned_cases : AcceptsPinnedCases s r pins root ↔ AcceptsPinned s r pins root
  pinned_cases = (from_pinned, to_pinned)
