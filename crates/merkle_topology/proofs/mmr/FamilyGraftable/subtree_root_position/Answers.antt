use Rattle.std.proofs.Common.{sym, ◌∙◌}
use Rattle.merkle_base.proofs.Chunks.{root_node}
use Rattle.merkle_forest_theory.specs.Mmr.{mmr_merges, mmr_position, mmr_birth_leaf_count}
use Rattle.merkle_forest_theory.proofs.Coordinates.{mmr_coordinates}
use Rattle.merkle_forest_theory.proofs.MountainRange.{mmr_equal}
use Rattle.merkle_topology.proofs.mmr.FamilyGraftable.subtree_root_position.Goals as goal

pub returns-clause-node : goal.returns-clause-node
returns-clause-node c = λ p t k e.
    c.new.ensures ∙ c.root_position.ensures
    ∙ root_node mmr_merges 4611686018427387904 (mmr_equal 4611686018427387904) mmr_position mmr_birth_leaf_count mmr_coordinates c.as_u64.result p
    c.args.height t k (e ∙ sym c.as_u64.ensures)
