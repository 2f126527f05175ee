use Rattle.std.proofs.Common.{length}
use Rattle.merkle_walks.proofs.top.+first_fold.Given as goal

abbrev pub decreases-first_fold : goal.decreases-first_fold
decreases-first_fold g l = length l.listed.now
