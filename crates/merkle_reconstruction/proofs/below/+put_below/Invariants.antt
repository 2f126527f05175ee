use Rattle.merkle_reconstruction.proofs.below.+put_below.Given as goal

abbrev pub decreases-put_below : goal.decreases-put_below
decreases-put_below g l = l.subtree.now.height
