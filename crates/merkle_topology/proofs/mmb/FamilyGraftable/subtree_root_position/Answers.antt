use Rattle.std.proofs.Common.{sym, ◌∙◌}
use Rattle.merkle_base.proofs.Chunks.{root_node}
use Rattle.merkle_forest_theory.specs.Mmb.{mmb_merges, mmb_position, mmb_birth_leaf_count}
use Rattle.merkle_forest_theory.proofs.Coordinates.{mmb_coordinates}
use Rattle.merkle_forest_theory.proofs.MountainBelt.{mmb_equal}
use Rattle.merkle_topology.proofs.BeltRoots.{birth_within}
use Rattle.merkle_topology.proofs.mmb.FamilyGraftable.subtree_root_position.Goals as goal

pub root_position-requires : goal.root_position-requires
root_position-requires c = rw (c.as_u64.ensures) (birth_within c.args.leaf_start c.args.height c.requires.within)

pub returns-clause-node : goal.returns-clause-node
returns-clause-node c = λ p t k e.
    c.new.ensures ∙ c.root_position.ensures
    ∙ root_node mmb_merges 4611686018427387934 (mmb_equal 4611686018427387934) mmb_position mmb_birth_leaf_count mmb_coordinates c.as_u64.result p
    c.args.height t k (e ∙ sym c.as_u64.ensures)
