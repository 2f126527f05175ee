use Rattle.std.proofs.Common.{arith}
use Rattle.merkle_base.proofs.number.NumberAddU64.add.Goals as goal

pub returns : goal.returns
returns g c = omega arith
