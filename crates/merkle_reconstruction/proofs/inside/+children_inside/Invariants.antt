use Rattle.merkle_reconstruction.proofs.inside.+children_inside.Given as goal

abbrev pub decreases-children_inside : goal.decreases-children_inside
decreases-children_inside g l = l.subtree.now.height
