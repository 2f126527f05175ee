use Rattle.std.proofs.Common.{length}
use Rattle.merkle_walks.proofs.range.+walk_all.Given as goal

abbrev pub decreases-walk_all : goal.decreases-walk_all
decreases-walk_all g l = length l.nodes.now
