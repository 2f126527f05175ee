use Rattle.merkle_range.proofs.pins.+rebuilt_digest.Given as goal

abbrev pub decreases-rebuilt_digest : goal.decreases-rebuilt_digest
decreases-rebuilt_digest g l = l.subtree.now.height
