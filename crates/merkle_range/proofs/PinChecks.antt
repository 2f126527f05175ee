-- The answers of the pinned check from those of the range check and of the comparison with the pins.
use Rattle.std.proofs.Common.{◌≡◌, ℕ, ◌<◌, ◌≤◌, ◌+◌, Bool, List, [], length, IsTrue, ◌↔◌, inl, inr, ap, sym, subst, arith}
use Rattle.std.proofs.lemmas.List.{length-map}
use Rattle.merkle_base.specs.Hashing.{Hashing}
use Rattle.merkle_base.specs.Places.{peaks_of, peak_positions}
use Rattle.merkle_base.specs.Scheme.{Scheme, scheme_of}
use Rattle.merkle_base.specs.Tree.{position}
use Rattle.merkle_base.specs.declared.family.Bagging.{Bagging}
use Rattle.merkle_root_theory.specs.Check.{RangeInput}
use Rattle.merkle_root_theory.specs.Range.{Accepts, AcceptsNonempty, end_of, range_parts, range_siblings}
use Rattle.merkle_claim_theory.specs.Pinned.{AcceptsPinnedCases}
use Rattle.merkle_claim_theory.specs.Rebuilt.{IsRebuilt}
use Rattle.merkle_base.specs.Table.{digest_for}
use Rattle.merkle_claim_theory.proofs.RebuiltPins.{pinned_is_rebuilt}
use Rattle.merkle_range.specs.Input.{digest_input}
use Rattle.merkle_range.specs.PinnedParts.{IsBeforeRebuilt}

module _ {D : Type 0} (s : Scheme D) (r : RangeInput D) (pins : List D) (root : D) where
  -- what is accepted with pins is accepted without
  pub range_accepted : AcceptsPinnedCases s r pins root → Accepts s r root
  range_accepted (inl x) = inl ((pinned_is_rebuilt s r pins root).0 x).0
  range_accepted (inr x) = inr (x.0.0, x.1)

  -- no elements
  pub empty_accepted : length r.elements ≡ 0 → Accepts s r root → (bit : Bool) → (IsTrue bit ↔ (pins ≡ [])) → IsTrue bit ↔ AcceptsPinnedCases s r pins root
  empty_accepted e (inl x) bit k = absurd (omega (arith, e, x.nonempty))
  empty_accepted e (inr x) bit k = ((λ y. inr ((x.0, k.0 y), x.1)), none)
    where
      none : AcceptsPinnedCases s r pins root → IsTrue bit
      none (inl y) = absurd (omega (arith, e, y.nonempty))
      none (inr y) = k.1 y.0.1

  -- some elements
  pub some_accepted : 0 < length r.elements → Accepts s r root → AcceptsNonempty s r root
  some_accepted l (inl x) = x
  some_accepted l (inr x) = absurd (omega (arith, l, ap length x.0.elements))

  pub pins_counted : 0 < length r.elements → AcceptsPinnedCases s r pins root → length pins ≡ length (peaks_of s.rule r.start)
  pins_counted l (inl x) = x.pinned
  pins_counted l (inr x) = absurd (omega (arith, l, ap length x.0.0.elements))

  pub rebuilt_accepted : AcceptsNonempty s r root → (bit : Bool) → (IsTrue bit ↔ IsRebuilt s r pins) → IsTrue bit ↔ AcceptsPinnedCases s r pins root
  rebuilt_accepted ok bit k = ((λ y. inl ((pinned_is_rebuilt s r pins root).1 (ok, k.0 y))), back)
    where
      back : AcceptsPinnedCases s r pins root → IsTrue bit
      back (inl y) = k.1 ((pinned_is_rebuilt s r pins root).0 y).1
      back (inr y) = absurd (omega (arith, ok.nonempty, ap length y.0.0.elements))

pub length-peak_positions : (rule : List ℕ → List ℕ) (n : ℕ) → length (peak_positions rule n) ≡ length (peaks_of rule n)
length-peak_positions rule n = length-map (peaks_of rule n) position

-- what an accepted input with elements keeps, under the scheme of a hasher
pub record IsFitting (bagging : Bagging) (rule : List ℕ → List ℕ) (max_leaves leaves inactive count a e : ℕ) : Type 0 where
  pub within : e ≤ leaves
  pub leaves_fit : leaves ≤ max_leaves
  pub inactive_few : inactive ≤ length (peaks_of rule leaves)
  pub counted : count ≡ length (range_parts bagging inactive a e (peaks_of rule leaves)) + length (range_siblings a e (peaks_of rule leaves))

module _ {D : Type 0} (h : Hashing D) (bagging : Bagging) (rule : List ℕ → List ℕ) (max_leaves domain leaves inactive a : ℕ) (ds ls : List D) where
  abbrev input : RangeInput D
  input = digest_input leaves inactive ds a ls

  abbrev hasher_scheme : Scheme D
  hasher_scheme = scheme_of h bagging rule max_leaves domain

  pub fitting : (s : Scheme D) → s ≡ hasher_scheme → (root : D) → AcceptsNonempty s input root → (e : ℕ) → e ≡ a + length ls → IsFitting bagging rule max_leaves leaves inactive (length ds) a e
  fitting s is root ok e e_is = step (subst (λ z. AcceptsNonempty z input root) is ok)
    where
      step : AcceptsNonempty hasher_scheme input root → IsFitting bagging rule max_leaves leaves inactive (length ds) a e
      step ok = record {
        within = omega (arith, ok.within, e_is);
        leaves_fit = ok.leaves;
        inactive_few = ok.inactive;
        counted = subst (λ z. length ds ≡ length (range_parts bagging inactive a z (peaks_of rule leaves)) + length (range_siblings a z (peaks_of rule leaves))) (sym e_is) ok.counts;
      }

  -- what lies before the range is what is compared
  before_is : (pins : List D) → length pins ≡ length (peaks_of rule a)
      → IsBeforeRebuilt h bagging inactive a (end_of input) (peaks_of rule leaves) (digest_for (peak_positions rule a) pins) ds ↔ IsRebuilt hasher_scheme input pins
  before_is pins long = ((λ v. record { pinned = long; parts = v.parts; nodes = v.nodes }), (λ v. record { parts = v.parts; nodes = v.nodes }))

  pub before_rebuilt : (s : Scheme D) → s ≡ hasher_scheme → (pins qs : List D) (ps : List ℕ) → ps ≡ peak_positions rule a → qs ≡ pins → length ps ≡ length pins → (e : ℕ) → e ≡ a + length ls
      → IsBeforeRebuilt h bagging inactive a e (peaks_of rule leaves) (digest_for ps qs) ds ↔ IsRebuilt s input pins
  before_rebuilt s is pins qs ps ps_is qs_is same e e_is =
      let long : length pins ≡ length (peaks_of rule a) = omega (arith, same, ap length ps_is, length-peak_positions rule a) in
      let Before = λ (z : ℕ) (us : List ℕ) (vs : List D). IsBeforeRebuilt h bagging inactive a z (peaks_of rule leaves) (digest_for us vs) ds in
      let x = before_is pins long in
      let y = subst (λ z. Before z (peak_positions rule a) pins ↔ IsRebuilt hasher_scheme input pins) (sym e_is) x in
      let z = subst (λ us. Before e us pins ↔ IsRebuilt hasher_scheme input pins) (sym ps_is) y in
      let v = subst (λ vs. Before e ps vs ↔ IsRebuilt hasher_scheme input pins) (sym qs_is) z in
      subst (λ w. Before e ps qs ↔ IsRebuilt w input pins) (sym is) v
