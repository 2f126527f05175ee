use Rattle.merkle_restore_theory.proofs.OneStructure.{one_structure}
use Rattle.merkle_restore_theory.proofs.laws.structures.Goals as goal

pub returns : goal.returns
returns g c = record { one_structure = one_structure }
