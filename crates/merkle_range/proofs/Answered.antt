-- What a check answers, by what is reconstructed.
use Rattle.std.proofs.Common.{◌≡◌, ◌≢◌, ◌<◌, ◌↔◌, ◌⊎◌, inl, inr, ℕ, List, Bool, Some, length, IsTrue, IfOk, IfErr, Result, Ok, Err, ap, sym, ◌∙◌, subst}
use Rattle.std.specs.Result.{IsOkAnd}
use Rattle.std.proofs.lemmas.Result.{IfErr-weaker, IfOk-weaker}
use Rattle.merkle_base.specs.Cases.{first_case}
use Rattle.merkle_base.specs.Scheme.{Scheme}
use Rattle.merkle_base.specs.declared.error.Error.{Error}
use Rattle.merkle_base.specs.declared.error.Error.TheVariants.{InvalidProof, RootMismatch}
use Rattle.merkle_base.specs.declared.error.Error.TheVariants as error
use Rattle.merkle_base.specs.declared.error.ReconstructionError.{ReconstructionError}
use Rattle.merkle_base.specs.declared.error.ReconstructionError.TheVariants.{OutOfMemory}
use Rattle.merkle_claim_theory.specs.CheckAnswers.{IsExactForRange, IsReconstructionRefusal}
use Rattle.merkle_root_theory.specs.Check.{RangeInput}
use Rattle.merkle_root_theory.specs.Extract.{extracted}
use Rattle.merkle_root_theory.specs.Reconstruction.{range_refusals, reconstructed}
use Rattle.merkle_root_theory.proofs.Reconstruction.{root_unless, reconstructed-some, refusal-none}
use Rattle.merkle_range.specs.Extracting.{RefusesExtraction}
use Rattle.merkle_range.specs.Input.{IsComputed}

pub err_is_no_ok : {A E : Type 0} (a : A) (e : E) → ◌≡◌ {A = Result A E} (Err e) (Ok a) → ⊥
err_is_no_ok a e f = cc

-- what holds of a value, and what holds of the value that is there
both_ok : {A E : Type 0} (x : Result A E) (P Q : A → Type 0) → IfOk x P → IsOkAnd x Q → (a : A) × P a × Q a
both_ok (Ok a) P Q p q = (a, p, q)
both_ok (Err e) P Q p q = absurd q

module _ {D : Type 0} (s : Scheme D) (r : RangeInput D) where
  -- an input with elements leads to the root that is computed, or is refused as the first refusal says
  pub computed_leads : 0 < length r.elements → (x : Result D ReconstructionError) → IfOk x (λ d. IsComputed s r d) → IfOk x (λ d. reconstructed s r ≡ Ok d)
  computed_leads some x = IfOk-weaker x _ _ (λ d k. reconstructed-some s r some ∙ ap (root_unless s r) (refusal-none s r k.0) ∙ ap Ok (sym k.1))

  pub refused_first : 0 < length r.elements → (e : ReconstructionError) → first_case (range_refusals s r) ≡ Some e → reconstructed s r ≡ Err e
  refused_first some e first = reconstructed-some s r some ∙ ap (root_unless s r) first

  pub refusal_leads : 0 < length r.elements → (x : Result D ReconstructionError) → IfErr x (λ e. e ≢ OutOfMemory → first_case (range_refusals s r) ≡ Some e) → IfErr x (IsReconstructionRefusal s r)
  refusal_leads some x = IfErr-weaker x _ _ (λ e w other. refused_first some e (w other))

  -- what is compared with the root is what the input leads to
  pub compared : {E : Type 0} (root : D) (x : Result D ReconstructionError) (y : Result Bool E) → IfOk x (λ d. reconstructed s r ≡ Ok d) → IfErr x (IsReconstructionRefusal s r)
      → IfOk y (λ yes. IsTrue yes ↔ (x ≡ Ok root)) → IfOk y (λ _. x ≢ Err OutOfMemory) → IfOk y (IsExactForRange s root r)
  compared root (Ok d) (Ok b) led refused exact memory = ((λ t. led ∙ exact.0 t), (λ e. exact.1 (sym led ∙ e)))
  compared root (Err x) (Ok b) led refused exact memory =
      ((λ t. absurd (err_is_no_ok _ _ (exact.0 t))), (λ e. absurd (err_is_no_ok _ _ (sym (refused (λ same. memory (ap Err same))) ∙ e))))
  compared root x (Err e) led refused exact memory = tt

  -- the error for the pairs of an outcome says why none are extracted
  pub extraction_refused : {F V : Type 0} (items : V → List (ℕ × D)) (root : D) (x : Result (D × V) ReconstructionError) (y : Result V (Error F))
      → IfOk x (λ found. (reconstructed s r ≡ Ok found.0) × (items found.1 ≡ extracted s r))
      → IfErr x (λ e. e ≢ OutOfMemory → reconstructed s r ≡ Err e)
      → IfErr y (λ e. e ≢ error.OutOfMemory → ((z : ReconstructionError) × (z ≢ OutOfMemory) × (x ≡ Err z) × (e ≡ InvalidProof))
      ⊎ IsOkAnd x (λ found. (found.0 ≢ root) × (e ≡ RootMismatch))) → IfErr y (RefusesExtraction s r root)
  extraction_refused items root x y led refused = IfErr-weaker y _ _ (λ e w other. elim (w other) [
    | inl a ↦ inl (a.0, subst (λ z. IfErr z (λ u. u ≢ OutOfMemory → reconstructed s r ≡ Err u)) a.2 refused a.1, a.3)
    | inr b ↦ let f = both_ok x _ _ led b in inr (f.0.0, f.1.0, f.2.0, f.2.1)
  ])
