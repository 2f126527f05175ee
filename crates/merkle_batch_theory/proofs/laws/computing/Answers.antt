use Rattle.merkle_batch_theory.proofs.ReadThroughRecords.{made, unchanged}
use Rattle.merkle_batch_theory.proofs.NeededNodes.{used_kept}
use Rattle.merkle_batch_theory.proofs.laws.computing.Goals as goal

pub returns : goal.returns
returns g c = record { made = made; unchanged = unchanged; used = used_kept }
