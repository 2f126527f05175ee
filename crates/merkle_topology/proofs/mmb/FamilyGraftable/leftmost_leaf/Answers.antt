use Rattle.std.proofs.Common.{◌∙◌}
use Rattle.merkle_base.proofs.Chunks.{first_leaf_once}
use Rattle.merkle_forest_theory.specs.Mmb.{mmb_merges, mmb_position, mmb_birth_leaf_count}
use Rattle.merkle_forest_theory.proofs.Coordinates.{mmb_coordinates}
use Rattle.merkle_forest_theory.proofs.MountainBelt.{mmb_equal}
use Rattle.merkle_topology.proofs.mmb.FamilyGraftable.leftmost_leaf.Goals as goal

pub returns-clause-node : goal.returns-clause-node
returns-clause-node c = λ t k.
    c.new.ensures ∙ first_leaf_once mmb_merges 4611686018427387934 (mmb_equal 4611686018427387934) mmb_position mmb_birth_leaf_count mmb_coordinates
    c.first_below.result c.args.position c.args.height t (c.first_below.ensures ∙ c.as_u64.ensures) k
