use Rattle.std.proofs.Common.{◌∙◌}
use Rattle.merkle_leaves.proofs.standard.StandardClone.clone.Goals as goal

pub returns : goal.returns
returns g c = record { cases = c.new.ensures ∙ c.self.view_is }
