use Rattle.std.proofs.Common.{refl}
use Rattle.merkle_leaves.proofs.standard.Standard.new.Goals as goal

pub returns : goal.returns
returns g c = refl
