-- The refusals of an input, and the root that it leads to.
use Rattle.std.proofs.Common.{◌≡◌, ◌⊎◌, ℕ, zero, suc, ◌<◌, ◌≤◌, Bool, List, [], ◌∷◌, length, nat_lt, nat_le, cond, Option, Some, None, Result, Ok, Err}
use Rattle.std.proofs.Common.{option_map, refl, ap, ap₂, sym, ◌∙◌, arith, inl, inr, le-leb, lt-ltb}
use Rattle.std.proofs.lemmas.Bool.{lt-leb, le-ltb, ltb-false}
use Rattle.merkle_base.proofs.FirstCases.{first_case-true, first_case-false, first_case-none}
use Rattle.merkle_base.specs.Cases.{first_case}
use Rattle.merkle_base.specs.Places.{peaks_of}
use Rattle.merkle_base.specs.Scheme.{Scheme}
use Rattle.merkle_base.specs.declared.error.ReconstructionError.{ReconstructionError}
use Rattle.merkle_base.specs.declared.error.ReconstructionError.TheVariants.{InvalidProof, MissingDigests, ExtraDigests, InvalidStartLoc, InvalidEndLoc, MissingElements, InvalidSize}
use Rattle.merkle_root_theory.specs.Check.{RangeInput, chosen, leaf_given, root_of, range_expression}
use Rattle.merkle_root_theory.proofs.RangeChecks.{no_plan}
use Rattle.merkle_root_theory.proofs.RangeDigests.{digest_count_is}
use Rattle.merkle_root_theory.specs.Claim.{claim_of}
use Rattle.merkle_root_theory.specs.Plan.{root_plan}
use Rattle.merkle_root_theory.specs.Range.{end_of, digest_count, Accepts, IsEmptyInput}
use Rattle.merkle_root_theory.specs.Reconstruction.{empty_refusals, range_refusals, reconstructed, HasShape, LeadsIsAccepted}

-- the root that an input leads to, unless it is refused
abbrev pub root_unless : {D : Type 0} → Scheme D → RangeInput D → Option ReconstructionError → Result D ReconstructionError
root_unless s r (Some e) = Err e
root_unless s r None = Ok (root_of s r.leaves r.inactive (range_expression s r))

module _ {D : Type 0} (s : Scheme D) (r : RangeInput D) where
  -- the refusals from each one on
  abbrev extra : List (Bool × ReconstructionError)
  extra = (nat_lt (digest_count s r) (length r.digests), ExtraDigests) ∷ []

  abbrev missing : List (Bool × ReconstructionError)
  missing = (nat_lt (length r.digests) (digest_count s r), MissingDigests) ∷ extra

  abbrev inactive : List (Bool × ReconstructionError)
  inactive = (nat_lt (length (peaks_of s.rule r.leaves)) r.inactive, InvalidSize) ∷ missing

  abbrev leaves : List (Bool × ReconstructionError)
  leaves = (nat_lt s.max_leaves r.leaves, InvalidSize) ∷ inactive

  abbrev ends : List (Bool × ReconstructionError)
  ends = (nat_lt r.leaves (end_of r), InvalidEndLoc) ∷ leaves

  abbrev limits : List (Bool × ReconstructionError)
  limits = (nat_lt s.max_leaves (end_of r), InvalidEndLoc) ∷ ends

  abbrev refusal : Option ReconstructionError
  refusal = first_case (range_refusals s r)

  after_start : r.start < s.max_leaves → refusal ≡ first_case limits
  after_start start = first_case-false (nat_le s.max_leaves r.start) InvalidStartLoc limits (lt-leb s.max_leaves r.start start)

  after_limits : r.start < s.max_leaves → end_of r ≤ s.max_leaves → refusal ≡ first_case ends
  after_limits start end = after_start start ∙ first_case-false (nat_lt s.max_leaves (end_of r)) InvalidEndLoc ends (le-ltb s.max_leaves (end_of r) end)

  after_ends : r.start < s.max_leaves → end_of r ≤ s.max_leaves → end_of r ≤ r.leaves → refusal ≡ first_case leaves
  after_ends start end within = after_limits start end ∙ first_case-false (nat_lt r.leaves (end_of r)) InvalidEndLoc leaves (le-ltb r.leaves (end_of r) within)

  -- each refusal, where those before it don't apply
  pub refusal-start : s.max_leaves ≤ r.start → refusal ≡ Some InvalidStartLoc
  refusal-start at = first_case-true (nat_le s.max_leaves r.start) InvalidStartLoc limits (le-leb s.max_leaves r.start at)

  pub refusal-end_past_limit : r.start < s.max_leaves → s.max_leaves < end_of r → refusal ≡ Some InvalidEndLoc
  refusal-end_past_limit start past = after_start start ∙ first_case-true (nat_lt s.max_leaves (end_of r)) InvalidEndLoc ends (lt-ltb s.max_leaves (end_of r) past)

  pub refusal-end : r.start < s.max_leaves → end_of r ≤ s.max_leaves → r.leaves < end_of r → refusal ≡ Some InvalidEndLoc
  refusal-end start end past = after_limits start end ∙ first_case-true (nat_lt r.leaves (end_of r)) InvalidEndLoc leaves (lt-ltb r.leaves (end_of r) past)

  pub refusal-leaves : r.start < s.max_leaves → end_of r ≤ s.max_leaves → end_of r ≤ r.leaves → s.max_leaves < r.leaves → refusal ≡ Some InvalidSize
  refusal-leaves start end within many = after_ends start end within ∙ first_case-true (nat_lt s.max_leaves r.leaves) InvalidSize inactive (lt-ltb s.max_leaves r.leaves many)

  module _ (some : 0 < length r.elements) (within : end_of r ≤ r.leaves) (fits : r.leaves ≤ s.max_leaves) where
    after_leaves : refusal ≡ first_case inactive
    after_leaves = after_ends (omega (arith, some, within, fits)) (omega (arith, within, fits)) within
        ∙ first_case-false (nat_lt s.max_leaves r.leaves) InvalidSize inactive (le-ltb s.max_leaves r.leaves fits)

    pub refusal-inactive : length (peaks_of s.rule r.leaves) < r.inactive → refusal ≡ Some InvalidSize
    refusal-inactive many = after_leaves ∙ first_case-true (nat_lt (length (peaks_of s.rule r.leaves)) r.inactive) InvalidSize missing (lt-ltb (length (peaks_of s.rule r.leaves)) r.inactive many)

    module _ (low : r.inactive ≤ length (peaks_of s.rule r.leaves)) where
      after_inactive : refusal ≡ first_case missing
      after_inactive = after_leaves ∙ first_case-false (nat_lt (length (peaks_of s.rule r.leaves)) r.inactive) InvalidSize missing (le-ltb (length (peaks_of s.rule r.leaves)) r.inactive low)

      pub refusal-missing : length r.digests < digest_count s r → refusal ≡ Some MissingDigests
      refusal-missing few = after_inactive ∙ first_case-true (nat_lt (length r.digests) (digest_count s r)) MissingDigests extra (lt-ltb (length r.digests) (digest_count s r) few)

      after_missing : digest_count s r ≤ length r.digests → refusal ≡ first_case extra
      after_missing enough = after_inactive ∙ first_case-false (nat_lt (length r.digests) (digest_count s r)) MissingDigests extra (le-ltb (length r.digests) (digest_count s r) enough)

      pub refusal-extra : digest_count s r < length r.digests → refusal ≡ Some ExtraDigests
      refusal-extra many = after_missing (omega (arith, many)) ∙ first_case-true (nat_lt (digest_count s r) (length r.digests)) ExtraDigests [] (lt-ltb (digest_count s r) (length r.digests) many)

  -- none applies exactly to inputs of the right shape
  pub refusal-none : HasShape s r → refusal ≡ None
  refusal-none h = after_missing h.nonempty h.within h.leaves h.inactive (omega (arith, h.counts))
      ∙ first_case-false (nat_lt (digest_count s r) (length r.digests)) ExtraDigests [] (le-ltb (digest_count s r) (length r.digests) (omega (arith, h.counts)))

  pub shape_of_none : 0 < length r.elements → refusal ≡ None → HasShape s r
  shape_of_none some e =
      let limit = first_case-none (nat_le s.max_leaves r.start) InvalidStartLoc limits e in
      let end = first_case-none (nat_lt s.max_leaves (end_of r)) InvalidEndLoc ends limit.1 in
      let size = first_case-none (nat_lt r.leaves (end_of r)) InvalidEndLoc leaves end.1 in
      let count = first_case-none (nat_lt s.max_leaves r.leaves) InvalidSize inactive size.1 in
      let few = first_case-none (nat_lt (length (peaks_of s.rule r.leaves)) r.inactive) InvalidSize missing count.1 in
      let many = first_case-none (nat_lt (length r.digests) (digest_count s r)) MissingDigests extra few.1 in
      let none = first_case-none (nat_lt (digest_count s r) (length r.digests)) ExtraDigests [] many.1 in
      record {
        nonempty = some;
        within = ltb-false r.leaves (end_of r) size.0;
        leaves = ltb-false s.max_leaves r.leaves count.0;
        inactive = ltb-false (length (peaks_of s.rule r.leaves)) r.inactive few.0;
        counts = omega (arith, ltb-false (length r.digests) (digest_count s r) many.0, ltb-false (digest_count s r) (length r.digests) none.0);
      }

  -- with elements and without
  pub reconstructed-some : 0 < length r.elements → reconstructed s r ≡ root_unless s r refusal
  reconstructed-some some = ap (λ b. root_unless s r (first_case (cond b (range_refusals s r) (empty_refusals r)))) (lt-ltb 0 (length r.elements) some)

  pub reconstructed-none : length r.elements ≡ 0 → reconstructed s r ≡ root_unless s r (first_case (empty_refusals r))
  reconstructed-none none = ap (λ b. root_unless s r (first_case (cond b (range_refusals s r) (empty_refusals r)))) (le-ltb 0 (length r.elements) (omega (arith, none)))

  -- an input without elements
  abbrev empty_leaves : List (Bool × ReconstructionError)
  empty_leaves = (nat_lt 0 r.leaves, MissingElements) ∷ (nat_lt 0 (length r.digests), ExtraDigests) ∷ []

  abbrev empty_inactive : List (Bool × ReconstructionError)
  empty_inactive = (nat_lt 0 r.inactive, InvalidProof) ∷ empty_leaves

  pub empty_refusal-start : 0 < r.start → first_case (empty_refusals r) ≡ Some MissingElements
  empty_refusal-start l = first_case-true (nat_lt 0 r.start) MissingElements empty_inactive (lt-ltb 0 r.start l)

  after_empty_start : r.start ≡ 0 → first_case (empty_refusals r) ≡ first_case empty_inactive
  after_empty_start e = first_case-false (nat_lt 0 r.start) MissingElements empty_inactive (le-ltb 0 r.start (omega (arith, e)))

  pub empty_refusal-inactive : r.start ≡ 0 → 0 < r.inactive → first_case (empty_refusals r) ≡ Some InvalidProof
  empty_refusal-inactive e l = after_empty_start e ∙ first_case-true (nat_lt 0 r.inactive) InvalidProof empty_leaves (lt-ltb 0 r.inactive l)

  after_empty_inactive : r.start ≡ 0 → r.inactive ≡ 0 → first_case (empty_refusals r) ≡ first_case empty_leaves
  after_empty_inactive e f = after_empty_start e ∙ first_case-false (nat_lt 0 r.inactive) InvalidProof empty_leaves (le-ltb 0 r.inactive (omega (arith, f)))

  pub empty_refusal-leaves : r.start ≡ 0 → r.inactive ≡ 0 → 0 < r.leaves → first_case (empty_refusals r) ≡ Some MissingElements
  empty_refusal-leaves e f l = after_empty_inactive e f ∙ first_case-true (nat_lt 0 r.leaves) MissingElements ((nat_lt 0 (length r.digests), ExtraDigests) ∷ []) (lt-ltb 0 r.leaves l)

  after_empty_leaves : r.start ≡ 0 → r.inactive ≡ 0 → r.leaves ≡ 0 → first_case (empty_refusals r) ≡ first_case ((nat_lt 0 (length r.digests), ExtraDigests) ∷ [])
  after_empty_leaves e f i = after_empty_inactive e f ∙ first_case-false (nat_lt 0 r.leaves) MissingElements ((nat_lt 0 (length r.digests), ExtraDigests) ∷ []) (le-ltb 0 r.leaves (omega (arith, i)))

  pub empty_refusal-digests : r.start ≡ 0 → r.inactive ≡ 0 → r.leaves ≡ 0 → 0 < length r.digests → first_case (empty_refusals r) ≡ Some ExtraDigests
  empty_refusal-digests e f i l = after_empty_leaves e f i ∙ first_case-true (nat_lt 0 (length r.digests)) ExtraDigests [] (lt-ltb 0 (length r.digests) l)

  pub empty_refusal-none : r.start ≡ 0 → r.inactive ≡ 0 → r.leaves ≡ 0 → length r.digests ≡ 0 → first_case (empty_refusals r) ≡ None
  empty_refusal-none e f i d = after_empty_leaves e f i ∙ first_case-false (nat_lt 0 (length r.digests)) ExtraDigests [] (le-ltb 0 (length r.digests) (omega (arith, d)))

  nothing_in : {A : Type 0} (xs : List A) → length xs ≡ 0 → xs ≡ []
  nothing_in [] e = refl
  nothing_in (x ∷ xs) e = absurd (omega (arith, e))

  is_empty : length r.elements ≡ 0 → first_case (empty_refusals r) ≡ None → IsEmptyInput r
  is_empty none e =
      let start = first_case-none (nat_lt 0 r.start) MissingElements empty_inactive e in
      let count = first_case-none (nat_lt 0 r.inactive) InvalidProof empty_leaves start.1 in
      let leaf = first_case-none (nat_lt 0 r.leaves) MissingElements ((nat_lt 0 (length r.digests), ExtraDigests) ∷ []) count.1 in
      let digest = first_case-none (nat_lt 0 (length r.digests)) ExtraDigests [] leaf.1 in
      record {
        elements = nothing_in r.elements none;
        start = omega (arith, ltb-false 0 r.start start.0);
        leaves = omega (arith, ltb-false 0 r.leaves leaf.0);
        inactive = omega (arith, ltb-false 0 r.inactive count.0);
        digests = nothing_in r.digests (omega (arith, ltb-false 0 (length r.digests) digest.0));
      }

  -- its root
  no_expression : r.leaves ≡ 0 → range_expression s r ≡ None
  no_expression e = ap (option_map (λ p. claim_of s.hashing (chosen r) (leaf_given s.hashing r) p r.digests))
      (ap (λ n. root_plan s.bagging r.inactive (peaks_of s.rule n)) e ∙ no_plan s s.bagging r.inactive)

  pub empty_root_of : r.leaves ≡ 0 → r.inactive ≡ 0 → root_of s r.leaves r.inactive (range_expression s r) ≡ root_of s 0 0 None
  empty_root_of e f = ap (root_of s r.leaves r.inactive) (no_expression e) ∙ ap₂ (λ n k. root_of s n k None) e f

  -- what a refusal or its lack says of the root
  no_error : (root : D) (o : Option ReconstructionError) → root_unless s r o ≡ Ok root → (o ≡ None) × (root_of s r.leaves r.inactive (range_expression s r) ≡ root)
  no_error root None e = (refl, let f : ◌≡◌ {A = Result D ReconstructionError} (Ok (root_of s r.leaves r.inactive (range_expression s r))) (Ok root) = e in cc)
  no_error root (Some x) e = absurd (let f : ◌≡◌ {A = Result D ReconstructionError} (Err x) (Ok root) = e in cc)

none_or_some : (n : ℕ) → (n ≡ 0) ⊎ (0 < n)
none_or_some zero = inl refl
none_or_some (suc n) = inr (omega arith)

pub leads_is_accepted : {D : Type 0} → LeadsIsAccepted D
leads_is_accepted {D} s r root = (to, from)
  where
    to : reconstructed s r ≡ Ok root → Accepts s r root
    to e = elim (none_or_some (length r.elements)) [
      | inr some ↦
          let w = no_error s r root (first_case (range_refusals s r)) (sym (reconstructed-some s r some) ∙ e) in
          let h = shape_of_none s r some w.0 in
          inl (record { nonempty = h.nonempty; within = h.within; leaves = h.leaves; inactive = h.inactive; counts = h.counts ∙ digest_count_is s r; root_is = w.1 })
      | inl none ↦
          let w = no_error s r root (first_case (empty_refusals r)) (sym (reconstructed-none s r none) ∙ e) in
          let h = is_empty s r none w.0 in
          inr (h, sym (empty_root_of s r h.leaves h.inactive) ∙ w.1)
    ]

    from : Accepts s r root → reconstructed s r ≡ Ok root
    from (inl a) =
        reconstructed-some s r a.nonempty
        ∙ ap (root_unless s r) (refusal-none s r (record { nonempty = a.nonempty; within = a.within; leaves = a.leaves; inactive = a.inactive; counts = a.counts ∙ sym (digest_count_is s r) }))
        ∙ ap Ok a.root_is
    from (inr a) =
        let h = a.0 in
        reconstructed-none s r (ap length h.elements)
        ∙ ap (root_unless s r) (empty_refusal-none s r h.start h.inactive h.leaves (ap length h.digests))
        ∙ ap Ok (empty_root_of s r h.leaves h.inactive ∙ a.1)

-- without elements a root is reached with no leaves alone
pub leaves_of_empty : {D : Type 0} (s : Scheme D) (r : RangeInput D) (root : D) → length r.elements ≡ 0 → reconstructed s r ≡ Ok root → r.leaves ≡ 0
leaves_of_empty s r root none e = (is_empty s r none (no_error s r root (first_case (empty_refusals r)) (sym (reconstructed-none s r none) ∙ e)).0).leaves
