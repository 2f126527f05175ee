use Rattle.std.proofs.Common.{rules}
use Rattle.merkle_base.proofs.family.Bagging.domain.Goals as goal

pub returns-in-ForwardFold : goal.returns-in-ForwardFold
returns-in-ForwardFold c = search rules depth 2

pub returns-in-BackwardFold : goal.returns-in-BackwardFold
returns-in-BackwardFold c = search rules depth 2
