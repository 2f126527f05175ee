use Rattle.merkle_reconstruction.proofs.walk.+reconstruct_digest.Given as goal

abbrev pub decreases-reconstruct_digest : goal.decreases-reconstruct_digest
decreases-reconstruct_digest g l = l.subtree.now.height
