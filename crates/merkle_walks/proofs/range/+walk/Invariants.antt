use Rattle.merkle_walks.proofs.range.+walk.Given as goal

abbrev pub decreases-walk : goal.decreases-walk
decreases-walk g l = l.node.now.height
