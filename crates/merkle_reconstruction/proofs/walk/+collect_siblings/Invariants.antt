use Rattle.merkle_reconstruction.proofs.walk.+collect_siblings.Given as goal

abbrev pub decreases-collect_siblings : goal.decreases-collect_siblings
decreases-collect_siblings g l = l.subtree.now.height
