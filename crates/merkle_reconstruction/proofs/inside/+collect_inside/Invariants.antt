use Rattle.merkle_reconstruction.proofs.inside.+collect_inside.Given as goal

abbrev pub decreases-collect_inside : goal.decreases-collect_inside
decreases-collect_inside g l = l.subtree.now.height
