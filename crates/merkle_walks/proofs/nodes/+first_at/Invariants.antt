use Rattle.merkle_walks.proofs.nodes.+first_at.Given as goal

abbrev pub decreases-first_at : goal.decreases-first_at
decreases-first_at g l = l.node.now.height
