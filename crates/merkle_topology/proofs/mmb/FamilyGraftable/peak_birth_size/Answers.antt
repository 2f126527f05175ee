use Rattle.std.proofs.Common.{◌≡◌, ◌+◌, arith, subst, sym, ◌∙◌}
use Rattle.merkle_base.specs.Grafting.{IsBirthSize}
use Rattle.merkle_base.proofs.Chunks.{birth_least}
use Rattle.merkle_forest_theory.specs.Mmb.{mmb_merges, mmb_position, mmb_birth_leaf_count}
use Rattle.merkle_forest_theory.proofs.Coordinates.{mmb_coordinates}
use Rattle.merkle_forest_theory.proofs.MountainBelt.{mmb_equal}
use Rattle.merkle_topology.proofs.mmb.FamilyGraftable.peak_birth_size.Goals as goal

pub returns-clause-node : goal.returns-clause-node
returns-clause-node c = λ t k.
    let s = c.requires.is_root in
    let told = c.birth_leaf_of.ensures.birth s.0 (s.1 ∙ sym c.as_u64.ensures) in
    let same : mmb_birth_leaf_count s.0 c.args.height ≡ c.birth_leaf_of.result + 1 = omega (arith, told) in
    subst (IsBirthSize mmb_merges c.args.position) same
    (birth_least mmb_merges 4611686018427387934 (mmb_equal 4611686018427387934) mmb_position mmb_birth_leaf_count mmb_coordinates s.0
    c.args.position c.args.height t s.1 k)
