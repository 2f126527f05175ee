-- An input is the honest one exactly if each of its parts is.
use Rattle.std.proofs.Common.{◌≡◌, ℕ, ◌+◌, ◌-◌, ◌≤◌, ◌<◌, List, [], ◌++◌, length, map, take, drop, inl, inr, refl, ap, ap₂, sym, ◌∙◌, subst, arith}
use Rattle.std.proofs.Math.Seq.{drop-nil, take-nil}
use Rattle.std.proofs.lemmas.List.{nil_from_length}
use Rattle.merkle_base.specs.Tree.{Tree}
use Rattle.merkle_base.specs.Digests.{digest_at}
use Rattle.merkle_base.specs.Forest.{forest}
use Rattle.merkle_base.specs.Places.{peaks_of, wholly_before}
use Rattle.merkle_base.specs.Scheme.{Scheme}
use Rattle.merkle_base.specs.declared.family.Bagging.{Bagging}
use Rattle.merkle_base.specs.declared.family.Bagging.TheVariants.{ForwardFold, BackwardFold}
use Rattle.merkle_root_theory.specs.Check.{RangeInput}
use Rattle.merkle_root_theory.specs.Outside.{folded_prefix, single_before, single_after, folded_suffix}
use Rattle.merkle_root_theory.specs.Layouts.{laid_out}
use Rattle.merkle_root_theory.specs.Range.{overlapping, wholly_after, range_siblings, range_digests, end_of, IsEmptyInput, IsHonestRange, IsHonestNonempty, IsHonestByCases}

pub no_peaks_of : (rule : List ℕ → List ℕ) → peaks_of rule 0 ≡ []
unfolding forest
no_peaks_of rule = refl

-- no peaks, no digests
no_layout : {D : Type 0} (f : D → D → D) (at : Tree → D) (bagging : Bagging) (k met : ℕ)
    → laid_out f (map at (folded_prefix bagging k [])) (map at (single_before bagging k [] ++ single_after bagging k met [])) (map at (folded_suffix bagging k met [])) [] ≡ []
no_layout f at ForwardFold k met = refl
no_layout f at BackwardFold k met =
    ap₂ (λ (ps us : List Tree). laid_out f (map at ps) (map at (drop {A = Tree} k [] ++ take (k - met) [])) (map at us) []) (take-nil k) (drop-nil (k - met))
    ∙ ap₂ (λ (ys zs : List Tree). laid_out f [] (map at (ys ++ zs)) [] []) (drop-nil k) (take-nil (k - met))

module _ {D : Type 0} (s : Scheme D) (xs : List D) (k : ℕ) where
  digests_over : ℕ → ℕ → List D → List Tree → List D
  digests_over a b ys ts =
      let at = digest_at s.hashing ys in
      let before = wholly_before a ts in
      let after = wholly_after b ts in
      let met = length before + length (overlapping a b ts) in
      laid_out s.hashing.fold (map at (folded_prefix s.bagging k before)) (map at (single_before s.bagging k before ++ single_after s.bagging k met after))
      (map at (folded_suffix s.bagging k met after)) (map at (range_siblings a b ts))

  no_digests : (a b : ℕ) → xs ≡ [] → range_digests s xs k a b ≡ []
  unfolding digests_over
  no_digests a b none =
      ap (λ (ys : List D). digests_over a b ys (peaks_of s.rule (length ys))) none
      ∙ ap (digests_over a b []) (no_peaks_of s.rule)
      ∙ no_layout s.hashing.fold (digest_at s.hashing []) s.bagging k 0

  nothing_there : (a n : ℕ) → xs ≡ [] → take n (drop a xs) ≡ []
  nothing_there a n none = ap (λ (ys : List D). take n (drop a ys)) none ∙ ap (take n) (drop-nil a) ∙ take-nil n

  -- the empty list has no peaks
  pub none_inactive : k ≤ length (peaks_of s.rule (length xs)) → xs ≡ [] → k ≡ 0
  none_inactive low none = omega (arith, subst (λ (ys : List D). k ≤ length (peaks_of s.rule (length ys))) none low, ap length (no_peaks_of s.rule))

  module _ (r : RangeInput D) where
    pub range_of_some : IsHonestNonempty s xs k r → IsHonestRange s xs k r
    range_of_some w =
        let count : length r.elements ≡ end_of r - r.start = omega arith in
        let elements : r.elements ≡ take (end_of r - r.start) (drop r.start xs) = w.elements ∙ ap (λ m. take m (drop r.start xs)) count in
        (w.within, inl w.nonempty, λ i. record { leaves = w.leaves i; inactive = w.inactive i; digests = w.digests i; start = r.start; elements = elements i })

    pub some_of_range : 0 < length r.elements → IsHonestRange s xs k r → IsHonestNonempty s xs k r
    some_of_range some h =
        let count : end_of r - r.start ≡ length r.elements = omega arith in
        record {
          nonempty = some;
          within = h.0;
          leaves = ap (λ (q : RangeInput D). q.leaves) h.2;
          inactive = ap (λ (q : RangeInput D). q.inactive) h.2;
          digests = ap (λ (q : RangeInput D). q.digests) h.2;
          elements = ap (λ (q : RangeInput D). q.elements) h.2 ∙ ap (λ m. take m (drop r.start xs)) count;
        }

    module _ (low : k ≤ length (peaks_of s.rule (length xs))) where
      range_of_none : IsEmptyInput r → xs ≡ [] → IsHonestRange s xs k r
      range_of_none w none =
          let leaves : r.leaves ≡ length xs = w.leaves ∙ sym (ap length none) in
          let inactive : r.inactive ≡ k = w.inactive ∙ sym (none_inactive low none) in
          let digests : r.digests ≡ range_digests s xs k r.start (end_of r) = w.digests ∙ sym (no_digests r.start (end_of r) none) in
          let elements : r.elements ≡ take (end_of r - r.start) (drop r.start xs) = w.elements ∙ sym (nothing_there r.start (end_of r - r.start) none) in (
            omega (arith, w.start, ap length w.elements),
            inr none,
            λ i. record { leaves = leaves i; inactive = inactive i; digests = digests i; start = r.start; elements = elements i },
          )

      none_of_range : xs ≡ [] → IsHonestRange s xs k r → IsEmptyInput r
      none_of_range none h = record {
        elements = nil_from_length r.elements (omega (arith, h.0, ap length none));
        start = omega (arith, h.0, ap length none);
        leaves = ap (λ (q : RangeInput D). q.leaves) h.2 ∙ ap length none;
        inactive = ap (λ (q : RangeInput D). q.inactive) h.2 ∙ none_inactive low none;
        digests = ap (λ (q : RangeInput D). q.digests) h.2 ∙ no_digests r.start (end_of r) none;
      }

      pub range_of_cases : IsHonestByCases s xs k r → IsHonestRange s xs k r
      range_of_cases (inl w) = range_of_some w
      range_of_cases (inr w) = range_of_none w.0 w.1

      pub cases_of_range : IsHonestRange s xs k r → IsHonestByCases s xs k r
      cases_of_range h = elim h.1 [ inl some ↦ inl (some_of_range some h) | inr none ↦ inr (none_of_range none h, none) ]
