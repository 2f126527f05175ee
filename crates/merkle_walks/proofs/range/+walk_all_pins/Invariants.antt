use Rattle.std.proofs.Common.{length}
use Rattle.merkle_walks.proofs.range.+walk_all_pins.Given as goal

abbrev pub decreases-walk_all_pins : goal.decreases-walk_all_pins
decreases-walk_all_pins g l = length l.nodes.now
