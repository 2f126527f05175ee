use Rattle.merkle_batch_theory.proofs.ShownLists.{agrees_empty, agrees_shows, batch_shows, taken}
use Rattle.merkle_batch_theory.proofs.laws.showing.Goals as goal

pub returns : goal.returns
returns g c = record { empty = agrees_empty; agrees = agrees_shows; batch = batch_shows; taken = taken }
