use Rattle.merkle_reconstruction.proofs.below.+put_levels.Given as goal

abbrev pub decreases-put_levels : goal.decreases-put_levels
decreases-put_levels g l = l.height
