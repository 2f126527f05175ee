use Rattle.std.proofs.Common.{length}
use Rattle.merkle_walks.proofs.top.+fold_right.Given as goal

abbrev pub decreases-fold_right : goal.decreases-fold_right
decreases-fold_right g l = length l.others.now
