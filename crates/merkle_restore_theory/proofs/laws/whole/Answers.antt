use Rattle.merkle_restore_theory.proofs.WholeStructures.{agrees_is_whole, whole_agrees}
use Rattle.merkle_restore_theory.proofs.laws.whole.Goals as goal

pub returns : goal.returns
returns g c = record { listed = agrees_is_whole; by_root = whole_agrees }
