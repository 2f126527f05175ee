use Rattle.std.proofs.Common.{append-nil}
use Rattle.merkle_leaves.proofs.standard.StandardHasher.fold.Goals as goal

pub returns : goal.returns
returns g c = rw (c.as_bytes.ensures, c.as_bytes-2.ensures, append-nil) at c.hash.ensures
