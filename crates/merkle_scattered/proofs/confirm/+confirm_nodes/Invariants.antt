use Rattle.merkle_scattered.specs.Confirmed.{tallest}
use Rattle.merkle_scattered.proofs.confirm.+confirm_nodes.Given as goal

abbrev pub decreases-confirm_nodes : goal.decreases-confirm_nodes
decreases-confirm_nodes g l = tallest l.nodes.now
