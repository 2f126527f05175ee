use Rattle.std.proofs.Common.{arith}
use Rattle.merkle_base.proofs.number.U64FromNumber.from.Goals as goal

pub returns : goal.returns
returns g c = omega arith
