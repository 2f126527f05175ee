use Rattle.std.proofs.Common.{rules}
use Rattle.merkle_base.proofs.position.Position+F.is_valid_index.Goals as goal

pub returns : goal.returns
returns g c = search rules depth 2
