-- What an iterator over the peaks of the Mountain Belt shows.
use Rattle.std.specs.Prelude.{ℕ, List}

-- What an iterator over the peaks of some leaves shows: how many leaves there are, and the peaks that are left.
pub record PeaksLeft : Type 0 where
  pub leaves : ℕ
  pub left : List (ℕ × ℕ)
