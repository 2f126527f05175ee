-- Options: there or not, one or else another.
use Rattle.std.proofs.Common.{◌≡◌, ◌⊎◌, Option, Some, None, true, false, refl, inl, inr}
use Rattle.std.specs.Prelude.{is_some}
use Rattle.std.specs.Option.{option_or}
use Rattle.merkle_batch_theory.specs.Held.{overwritten_by}

pub none_or_some : {D : Type 0} (o : Option D) → (o ≡ None) ⊎ ((d : D) × (o ≡ Some d))
none_or_some None = inl refl
none_or_some (Some d) = inr (d, refl)

pub none_of : {D : Type 0} (o : Option D) → is_some o ≡ false → o ≡ None
none_of None e = refl
none_of (Some d) e = absurd (cc)

pub or_some : {D : Type 0} (a b : Option D) → is_some a ≡ true → option_or a b ≡ a
or_some None b e = absurd (cc)
or_some (Some d) b e = refl

pub or_second : {D : Type 0} (a b : Option D) → a ≡ None → option_or a b ≡ b
or_second None b e = refl
or_second (Some d) b e = absurd (cc)

pub or_nothing : {D : Type 0} (a : Option D) → option_or a None ≡ a
or_nothing None = refl
or_nothing (Some d) = refl

pub or_assoc : {D : Type 0} (a b c : Option D) → option_or (option_or a b) c ≡ option_or a (option_or b c)
or_assoc None b c = refl
or_assoc (Some d) b c = refl

pub both_none : {D : Type 0} (a b : Option D) → option_or a b ≡ None → (a ≡ None) × (b ≡ None)
both_none None b e = (refl, e)
both_none (Some d) b e = absurd (cc)

pub over_none : {D : Type 0} (o : Option D) → overwritten_by None o ≡ o
over_none None = refl
over_none (Some d) = refl
