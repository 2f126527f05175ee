-- A held pin whose value is replaced.
use Rattle.std.proofs.Common.{◌≡◌, ℕ, ◌<◌, List, [], ◌∷◌, Bool, true, false, Option, Some, None, cond, arith, refl, sym, ap, ◌∙◌, subst, nat_eq}
use Rattle.std.specs.BTreeMap.{is_at}
use Rattle.std.specs.Cmp.{unsigned_tied}
use Rattle.std.specs.FinMap.{get}
use Rattle.std.specs.Map.{lookup, set_value}
use Rattle.std.specs.Ordering.{nat_cmp}
use Rattle.std.proofs.lemmas.Bool.{eqb-true}
use Rattle.merkle_base.proofs.Cases.{by_test}
use Rattle.merkle_batch_theory.specs.Held.{PinsBefore, overwritten_by}
use Rattle.merkle_batch_theory.specs.MemModel.{stored_of}
use Rattle.merkle_batch_theory.proofs.HeldNodes.{replaced}
use Rattle.merkle_batch_theory.proofs.MapFacts.{eqb_comm}
use Rattle.merkle_batch_theory.proofs.Stored.{held_before, lookup_at}

module _ {D : Type 0} (at : ℕ) (d : D) (p : ℕ) where
  none_set : (b : Bool) → None ≡ cond b (overwritten_by (Some d) None) None
  none_set true = refl
  none_set false = refl

  set_here : (b : Bool) (x : D) (o : Option D) → cond b (Some d) o ≡ cond b (overwritten_by (Some d) (cond b (Some x) o)) (cond b (Some x) o)
  set_here true x o = refl
  set_here false x o = refl

  pub lookup_set : (es : List (ℕ × D)) → lookup (nat_eq p) (set_value (is_at (nat_cmp at)) es d) ≡ cond (nat_eq p at) (overwritten_by (Some d) (lookup (nat_eq p) es)) (lookup (nat_eq p) es)
  lookup_set [] = none_set (nat_eq p at)
  lookup_set (e ∷ es) = by_test
      (λ b. lookup (nat_eq p) (cond b ((e.0, d) ∷ es) (e ∷ set_value (is_at (nat_cmp at)) es d))
      ≡ cond (nat_eq p at) (overwritten_by (Some d) (lookup (nat_eq p) (e ∷ es))) (lookup (nat_eq p) (e ∷ es)))
      (is_at (nat_cmp at) e.0)
      (λ t. let here : at ≡ e.0 = eqb-true at e.0 (sym (unsigned_tied at e.0) ∙ t) in
      subst (λ k. cond (nat_eq p e.0) (Some d) (lookup (nat_eq p) es) ≡ cond (nat_eq p k) (overwritten_by (Some d) (lookup (nat_eq p) (e ∷ es))) (lookup (nat_eq p) (e ∷ es))) (sym here)
      (set_here (nat_eq p e.0) e.1 (lookup (nat_eq p) es)))
      (λ f. by_test
      (λ b. cond b (Some e.1) (lookup (nat_eq p) (set_value (is_at (nat_cmp at)) es d))
      ≡ cond (nat_eq p at) (overwritten_by (Some d) (cond b (Some e.1) (lookup (nat_eq p) es))) (cond b (Some e.1) (lookup (nat_eq p) es)))
      (nat_eq p e.0)
      (λ t. let apart : nat_eq at e.0 ≡ false = sym (unsigned_tied at e.0) ∙ f in
      let other : nat_eq p at ≡ false = ap (λ k. nat_eq k at) (eqb-true p e.0 t) ∙ eqb_comm e.0 at ∙ apart in
      sym (ap (λ b. cond b (overwritten_by (Some d) (Some e.1)) (Some e.1)) other))
      (λ t. lookup_set es))

-- no pin comes where none was
pub set_before : {D : Type 0} (at : ℕ) (d : D) (start : ℕ) (es fs : List (ℕ × D)) → PinsBefore start es → fs ≡ set_value (is_at (nat_cmp at)) es d → PinsBefore start fs
set_before at d start es fs before e p l = ap (λ xs. lookup (nat_eq p) xs) e ∙ lookup_set at d p es
    ∙ ap (λ o. cond (nat_eq p at) (overwritten_by (Some d) o) o) (before p l) ∙ sym (none_set at d p (nat_eq p at))

-- there is no pin to replace
pub unset_pin : {D : Type 0} (at : ℕ) (d : D) (es : List (ℕ × D)) (start : ℕ) (nodes : List D) → at < start → lookup (is_at (nat_cmp at)) es ≡ None
    → (p : ℕ) → get (stored_of es start nodes) p ≡ replaced at d p (get (stored_of es start nodes) p)
unset_pin at d es start nodes below none p =
    by_test (λ b. get (stored_of es start nodes) p ≡ cond b (overwritten_by (Some d) (get (stored_of es start nodes) p)) (get (stored_of es start nodes) p)) (nat_eq p at)
    (λ t. let here : p ≡ at = eqb-true p at t in
    let gone : get (stored_of es start nodes) p ≡ None = held_before es start nodes p (omega (arith, here, below)) ∙ ap (λ k. lookup (nat_eq k) es) here ∙ sym (lookup_at at es) ∙ none in
    gone ∙ sym (ap (overwritten_by (Some d)) gone))
    (λ t. refl)
