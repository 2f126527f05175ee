-- An honest input has no collision with its list, the empty input of the empty list included.
use Rattle.std.proofs.Common.{◌≡◌, ℕ, [], length, None, Option, option_map, inl, inr, refl, ap, ap₂, sym, ◌∙◌}
use Rattle.merkle_base.specs.Hashing.{EqDecides}
use Rattle.merkle_base.specs.Places.{peaks_of}
use Rattle.merkle_base.specs.Scheme.{Scheme}
use Rattle.merkle_root_theory.specs.Expression.{Expression}
use Rattle.merkle_root_theory.specs.Plan.{Plan, root_plan, plan_expression}
use Rattle.merkle_root_theory.specs.Check.{string_of, all_inputs, RangeInput, chosen, leaf_given}
use Rattle.merkle_root_theory.specs.Claim.{claim_of}
use Rattle.merkle_root_theory.specs.Range.{leaf_of}
use Rattle.merkle_root_theory.proofs.RangeChecks.{no_plan}
use Rattle.merkle_root_theory.proofs.HonestInputs.{some_of_range}
use Rattle.merkle_claim_theory.specs.FirstCollision.{first_collision}
use Rattle.merkle_claim_theory.specs.Multiproof.{MultiInput, multi_on}
use Rattle.merkle_claim_theory.specs.Pinned.{pinned_on}
use Rattle.merkle_claim_theory.proofs.FirstCollisions.{finds_first}
use Rattle.merkle_claim_theory.proofs.HonestMultis.{some_of_multi}
use Rattle.merkle_claim_theory.proofs.RangeNoCollision.{found_none, no_collision}
use Rattle.merkle_audit_theory.proofs.MultiNoCollision.{honest_multi_has_no_collision}
use Rattle.merkle_audit_theory.proofs.PinnedNoCollision.{honest_pinned_has_no_collision}
use Rattle.merkle_claim_theory.proofs.Verdicts.{verdicts}
use Rattle.merkle_audit_theory.specs.Clear.{HonestRangeIsClear, HonestMultiIsClear, HonestPinnedIsClear}

module _ {D : Type 0} (s : Scheme D) where
  -- of no leaves nothing is computed
  pub no_expression : (E : Plan → Expression D) (n k : ℕ) → n ≡ 0 → option_map E (root_plan s.bagging k (peaks_of s.rule n)) ≡ None
  no_expression E n k e = ap (λ m. option_map E (root_plan s.bagging k (peaks_of s.rule m))) e ∙ ap (option_map E) (no_plan s s.bagging k)

  -- the same root string alone
  same_alone : EqDecides s.hashing → (n k : ℕ) → first_collision s.hashing (all_inputs s n k None) (all_inputs s n k None) ≡ None
  same_alone laws n k =
      let xs = all_inputs s n k None in
      found_none s.hashing xs xs (first_collision s.hashing xs xs) (finds_first s.hashing laws xs xs)
      (no_collision s.hashing (string_of s n k None) (string_of s n k None) [] [] refl (λ i m. m) (λ x y m. elim m [ ]) (λ z m. m))

  roots_alone : EqDecides s.hashing → (n n' k k' : ℕ) (e e' : Option (Expression D)) → n ≡ n' → k ≡ k' → e ≡ None → e' ≡ None
      → first_collision s.hashing (all_inputs s n k e) (all_inputs s n' k' e') ≡ None
  roots_alone laws n n' k k' e e' p q a b =
      ap₂ (λ x y. first_collision s.hashing (all_inputs s n k x) (all_inputs s n' k' y)) a b
      ∙ ap₂ (λ x y. first_collision s.hashing (all_inputs s n k None) (all_inputs s x y None)) (sym p) (sym q)
      ∙ same_alone laws n k

pub honest_range_is_clear : {D : Type 0} → HonestRangeIsClear D
honest_range_is_clear {D = D} s laws xs k r h = elim h.1 [
  | inl some ↦ verdicts.clear s laws xs k r (some_of_range s xs k r some h)
  | inr none ↦
      (let leaves : r.leaves ≡ length xs = ap (λ (q : RangeInput D). q.leaves) h.2 in
      let inactive : r.inactive ≡ k = ap (λ (q : RangeInput D). q.inactive) h.2 in
      roots_alone s laws r.leaves (length xs) r.inactive k _ _ leaves inactive
      (no_expression s (λ p. claim_of s.hashing (chosen r) (leaf_given s.hashing r) p r.digests) r.leaves r.inactive (leaves ∙ ap length none))
      (no_expression s (plan_expression (leaf_of s.hashing xs)) (length xs) k (ap length none)))
]

pub honest_multi_is_clear : {D : Type 0} → HonestMultiIsClear D
honest_multi_is_clear {D = D} s laws xs k r h = elim h.2 [
  | inl some ↦ honest_multi_has_no_collision s laws xs k r (some_of_multi s xs k r some h)
  | inr none ↦
      (let leaves : r.leaves ≡ length xs = ap (λ (q : MultiInput D). q.leaves) h.3 in
      let inactive : r.inactive ≡ k = ap (λ (q : MultiInput D). q.inactive) h.3 in
      roots_alone s laws r.leaves (length xs) r.inactive k _ _ leaves inactive
      (no_expression s (multi_on s r) r.leaves r.inactive (leaves ∙ ap length none))
      (no_expression s (plan_expression (leaf_of s.hashing xs)) (length xs) k (ap length none)))
]

pub honest_pinned_is_clear : {D : Type 0} → HonestPinnedIsClear D
honest_pinned_is_clear {D = D} s laws xs k r pins h = elim h.0.1 [
  | inl some ↦ honest_pinned_has_no_collision s laws xs k r pins (some_of_range s xs k r some h.0) h.1
  | inr none ↦
      (let leaves : r.leaves ≡ length xs = ap (λ (q : RangeInput D). q.leaves) h.0.2 in
      let inactive : r.inactive ≡ k = ap (λ (q : RangeInput D). q.inactive) h.0.2 in
      roots_alone s laws r.leaves (length xs) r.inactive k _ _ leaves inactive
      (no_expression s (pinned_on s r pins) r.leaves r.inactive (leaves ∙ ap length none))
      (no_expression s (plan_expression (leaf_of s.hashing xs)) (length xs) k (ap length none)))
]
