use Rattle.std.proofs.Common.{append-nil}
use Rattle.merkle_leaves.proofs.standard.Standard.digest.Goals as goal

pub returns : goal.returns
returns g c = rw append-nil at c.hash.ensures
