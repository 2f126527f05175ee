-- The byte of a bagging.
use Rattle.std.specs.Prelude.{ℕ}
use Rattle.merkle_base.specs.declared.family.Bagging.{Bagging}
use Rattle.merkle_base.specs.declared.family.Bagging.TheVariants.{ForwardFold, BackwardFold}

-- forward is 0, backward is 1
abbrev pub bagging_byte : Bagging → ℕ
bagging_byte ForwardFold = 0
bagging_byte BackwardFold = 1
