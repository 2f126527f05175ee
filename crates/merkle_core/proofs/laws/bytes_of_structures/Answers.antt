use Rattle.merkle_core.proofs.MadeAgain.{makes_again}
use Rattle.merkle_core.proofs.laws.bytes_of_structures.Goals as goal

pub returns : goal.returns
returns g c = record { again = makes_again }
