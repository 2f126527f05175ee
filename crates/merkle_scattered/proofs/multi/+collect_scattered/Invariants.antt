use Rattle.merkle_scattered.proofs.multi.+collect_scattered.Given as goal

abbrev pub decreases-collect_scattered : goal.decreases-collect_scattered
decreases-collect_scattered g l = l.subtree.now.height
