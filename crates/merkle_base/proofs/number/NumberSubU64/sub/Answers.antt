use Rattle.std.proofs.Common.{arith}
use Rattle.merkle_base.proofs.number.NumberSubU64.sub.Goals as goal

pub returns : goal.returns
returns g c = omega arith
