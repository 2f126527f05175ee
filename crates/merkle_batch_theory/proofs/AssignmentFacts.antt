-- Lists of the digests that positions must have.
use Rattle.std.proofs.Common.{◌≡◌, ℕ, suc, ◌+◌, Some, slice_get, arith, ap, sym, ◌∙◌, zero}
use Rattle.merkle_batch_theory.specs.Assignment.{digests_from}

module _ {D : Type 0} (truth : ℕ → D) where
  pub digests_from_get : (p n i : ℕ) (d : D) → slice_get (digests_from truth p n) i ≡ Some d → d ≡ truth (p + i)
  digests_from_get p zero i d e = absurd (cc)
  digests_from_get p (suc n) zero d e = (let f : truth p ≡ d = cc in let z : p ≡ p + 0 = omega arith in sym f ∙ ap truth z)
  digests_from_get p (suc n) (suc i) d e = (let z : p + 1 + i ≡ p + suc i = omega arith in digests_from_get (p + 1) n i d e ∙ ap truth z)
