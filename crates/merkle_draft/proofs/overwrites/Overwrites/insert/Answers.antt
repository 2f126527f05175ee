use Rattle.std.proofs.Common.{◌∙◌, ap}
use Rattle.std.specs.FinMap.{insert}
use Rattle.merkle_batch_theory.proofs.MapFacts.{put_entry}
use Rattle.merkle_draft.proofs.overwrites.Overwrites.insert.Goals as goal

pub returns-clause-inserted : goal.returns-clause-inserted
returns-clause-inserted g c =
    put_entry c.self.inside.nodes.entries c.insert.new.self.entries c.args.position c.args.digest c.in_ok-insert.ensures.updates.0
    ∙ ap (λ m. insert m c.args.position c.args.digest) c.self.view_is
