use Rattle.std.proofs.Common.{◌∙◌}
use Rattle.merkle_base.proofs.Chunks.{first_leaf_once}
use Rattle.merkle_forest_theory.specs.Mmr.{mmr_merges, mmr_position, mmr_birth_leaf_count}
use Rattle.merkle_forest_theory.proofs.Coordinates.{mmr_coordinates}
use Rattle.merkle_forest_theory.proofs.MountainRange.{mmr_equal}
use Rattle.merkle_topology.proofs.mmr.FamilyGraftable.leftmost_leaf.Goals as goal

pub returns-clause-node : goal.returns-clause-node
returns-clause-node c = λ t k.
    c.new.ensures ∙ first_leaf_once mmr_merges 4611686018427387904 (mmr_equal 4611686018427387904) mmr_position mmr_birth_leaf_count mmr_coordinates
    c.first_below.result c.args.position c.args.height t (c.first_below.ensures.root ∙ c.as_u64.ensures) k
