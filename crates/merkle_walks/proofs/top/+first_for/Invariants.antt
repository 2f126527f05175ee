use Rattle.std.proofs.Common.{length}
use Rattle.merkle_walks.proofs.top.+first_for.Given as goal

abbrev pub decreases-first_for : goal.decreases-first_for
decreases-first_for g l = length l.claimed.now
