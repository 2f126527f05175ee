use Rattle.std.proofs.Common.{rules}
use Rattle.merkle_draft.proofs.held_nodes.HeldNodes.size.Goals as goal

pub returns : goal.returns
returns g c = search rules depth 2
