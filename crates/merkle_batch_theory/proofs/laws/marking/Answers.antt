use Rattle.merkle_batch_theory.proofs.NeededNodes.{dirty_leaf}
use Rattle.merkle_batch_theory.proofs.ShownLists.{under_touches, sources}
use Rattle.merkle_batch_theory.proofs.laws.marking.Goals as goal

pub returns : goal.returns
returns g c = record { over = under_touches; under = dirty_leaf; sources = sources }
