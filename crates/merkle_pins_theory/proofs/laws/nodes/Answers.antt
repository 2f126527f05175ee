use Rattle.merkle_pins_theory.proofs.PinnedNodes.{pinned_is_seen}
use Rattle.merkle_pins_theory.proofs.laws.nodes.Goals as goal

pub returns : goal.returns
returns g c = pinned_is_seen
