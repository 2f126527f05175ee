use Rattle.std.proofs.Common.{◌≡◌, ◌+◌, ◌*◌, ◌%◌, ◌^◌, arith, sym, ◌∙◌, subst}
use Rattle.std.proofs.lemmas.Nat.{one_shl}
use Rattle.merkle_base.specs.Grafting.{IsBirthSize}
use Rattle.merkle_base.proofs.Chunks.{birth_least}
use Rattle.merkle_forest_theory.specs.Mmr.{mmr_merges, mmr_position, mmr_birth_leaf_count}
use Rattle.merkle_forest_theory.proofs.Coordinates.{mmr_coordinates}
use Rattle.merkle_forest_theory.proofs.MountainRange.{mmr_equal}
use Rattle.merkle_topology.proofs.mmr.FamilyGraftable.peak_birth_size.Goals as goal

pub returns-clause-formula : goal.returns-clause-formula
returns-clause-formula c = λ s e.
    let same = mmr_coordinates.injective c.first_below.result s c.args.height (c.first_below.ensures.root ∙ c.as_u64.ensures ∙ sym e) in
    omega (arith, same, one_shl c.args.height 64 (omega (arith, c.requires.low)))

pub returns-clause-node : goal.returns-clause-node
returns-clause-node c = λ t k.
    let wide : mmr_birth_leaf_count c.first_below.result c.args.height ≡ c.first_below.result + 1 * 2 ^ c.args.height % 2 ^ 64 =
    omega (arith, one_shl c.args.height 64 (omega (arith, c.requires.low))) in
    subst (IsBirthSize mmr_merges c.args.position) wide
    (birth_least mmr_merges 4611686018427387904 (mmr_equal 4611686018427387904) mmr_position mmr_birth_leaf_count mmr_coordinates c.first_below.result
    c.args.position c.args.height t (c.first_below.ensures.root ∙ c.as_u64.ensures) k)
