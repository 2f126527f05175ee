use Rattle.std.proofs.Common.{◌∙◌, ap, ◌==◌}
use Rattle.std.specs.FinMap.{len}
use Rattle.merkle_batch_theory.proofs.MapFacts.{is_none_entered}
use Rattle.merkle_draft.proofs.overwrites.Overwrites.is_empty.Goals as goal

pub returns : goal.returns
returns g c = is_none_entered c.is_empty.result c.self.inside.nodes.entries c.is_empty.ensures ∙ ap (λ m. len m == 0) c.self.view_is
