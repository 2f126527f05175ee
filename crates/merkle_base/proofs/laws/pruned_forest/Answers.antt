use Rattle.merkle_base.proofs.Held.{children_held}
use Rattle.merkle_base.proofs.Paths.{leaf_under, peak_holding}
use Rattle.merkle_base.proofs.laws.pruned_forest.Goals as goal

pub returns : goal.returns
returns c = record { held = children_held; leaf_below = leaf_under; holding = peak_holding }
