use Rattle.merkle_walks.proofs.range.+walk_pins.Given as goal

abbrev pub decreases-walk_pins : goal.decreases-walk_pins
decreases-walk_pins g l = l.node.now.height
