use Rattle.merkle_range.proofs.pins.+are_siblings_rebuilt.Given as goal

abbrev pub decreases-are_siblings_rebuilt : goal.decreases-are_siblings_rebuilt
decreases-are_siblings_rebuilt g l = l.subtree.now.height
