use Rattle.merkle_root_theory.proofs.OutsideNodes.{outside_is_layout}
use Rattle.merkle_claim_theory.proofs.laws.outside_nodes.Goals as goal

pub returns : goal.returns
returns c = outside_is_layout
