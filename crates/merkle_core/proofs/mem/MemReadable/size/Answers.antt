use Rattle.merkle_batch_theory.specs.MemModel.{contents}
use Rattle.merkle_batch_theory.proofs.ShownLists.{agrees_shows}
use Rattle.merkle_core.proofs.mem.MemReadable.size.Goals as goal

pub returns-clause-shows : goal.returns-clause-shows
returns-clause-shows g c = λ h X agrees. agrees_shows h g.F.Family.rule (contents c.args.self.now) X agrees
