use Rattle.std.proofs.Common.{rules}
use Rattle.merkle_base.proofs.position.Position+F.saturating_add.Goals as goal

pub returns-in-Some : goal.returns-in-Some
returns-in-Some g c = search rules depth 2

pub returns-in_default : goal.returns-in_default
returns-in_default g c = search rules depth 2
