use Rattle.std.proofs.Common.{rules}
use Rattle.merkle_base.proofs.number.Number.checked_sub.Goals as goal

pub returns-then-rhs-self : goal.returns-then-rhs-self
returns-then-rhs-self g c = search rules depth 2

pub returns-else-rhs-self : goal.returns-else-rhs-self
returns-else-rhs-self g c = search rules depth 2
