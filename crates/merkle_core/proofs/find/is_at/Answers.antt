use Rattle.std.proofs.Common.{rules}
use Rattle.merkle_core.proofs.find.is_at.Goals as goal

pub returns-then-eq : goal.returns-then-eq
returns-then-eq g c = search rules depth 2

pub returns-else-eq : goal.returns-else-eq
returns-else-eq g c = search rules depth 2
