use Rattle.std.proofs.Common.{length}
use Rattle.merkle_walks.proofs.nodes.+first_below.Given as goal

abbrev pub decreases-first_below : goal.decreases-first_below
decreases-first_below g l = length l.peaks.now
