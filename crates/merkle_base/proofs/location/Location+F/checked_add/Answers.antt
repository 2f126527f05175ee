use Rattle.std.proofs.Common.{rules}
use Rattle.merkle_base.proofs.location.Location+F.checked_add.Goals as goal

pub returns-then-rhs-maximum : goal.returns-then-rhs-maximum
returns-then-rhs-maximum g c = search rules depth 2

pub returns-else-self-maximum : goal.returns-else-self-maximum
returns-else-self-maximum g c = search rules depth 2
