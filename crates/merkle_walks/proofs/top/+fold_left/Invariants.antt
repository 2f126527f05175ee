use Rattle.std.proofs.Common.{length}
use Rattle.merkle_walks.proofs.top.+fold_left.Given as goal

abbrev pub decreases-fold_left : goal.decreases-fold_left
decreases-fold_left g l = length l.digests.now
