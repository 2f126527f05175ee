use Rattle.std.proofs.Common.{rules}
use Rattle.merkle_base.proofs.number.NumberPartialEq.eq.Goals as goal

pub returns : goal.returns
returns g c = search rules depth 2
