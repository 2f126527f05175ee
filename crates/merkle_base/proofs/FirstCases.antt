-- The first case that applies.
use Rattle.std.proofs.Common.{◌≡◌, Bool, true, false, List, ◌∷◌, Option, Some, None, cond, refl, ap}
use Rattle.merkle_base.specs.Cases.{first_case}

pub first_case-true : {A : Type 0} (b : Bool) (a : A) (cs : List (Bool × A)) → b ≡ true → first_case ((b, a) ∷ cs) ≡ Some a
first_case-true b a cs e = ap (λ z. cond z (Some a) (first_case cs)) e

pub first_case-false : {A : Type 0} (b : Bool) (a : A) (cs : List (Bool × A)) → b ≡ false → first_case ((b, a) ∷ cs) ≡ first_case cs
first_case-false b a cs e = ap (λ z. cond z (Some a) (first_case cs)) e

-- where none applies, the first doesn't, nor do the others
pub first_case-none : {A : Type 0} (b : Bool) (a : A) (cs : List (Bool × A)) → first_case ((b, a) ∷ cs) ≡ None → (b ≡ false) × (first_case cs ≡ None)
first_case-none true a cs e = absurd (let f : ◌≡◌ {A = Option _} (Some a) None = e in cc)
first_case-none false a cs e = (refl, e)
