-- Nodes of small forests, with leaves under them.
use Rattle.std.proofs.Common.{◌≡◌, ℕ, ◌<◌, Some, slice_get, refl, arith}
use Rattle.merkle_base.specs.Tree.{Tree, leaf, join}
use Rattle.merkle_base.specs.Forest.{forest}
use Rattle.merkle_leaves.specs.Path.{IsNodeAbove}
use Rattle.merkle_forest_theory.specs.Mmr.{mmr_merges}
use Rattle.merkle_forest_theory.specs.Mmb.{mmb_merges}
use Rattle.merkle_fixtures.specs.Pairs.{pairing}

abbrev first_pair : Tree
first_pair = join 2 (leaf 0 0) (leaf 1 1)

abbrev pub second_pair : Tree
second_pair = join 5 (leaf 3 2) (leaf 4 3)

abbrev pub six : Tree
six = join 6 first_pair second_pair

pub six_at : slice_get (forest mmr_merges 4).nodes 6 ≡ Some six
unfolding forest
six_at = refl

pub over_six : (k : ℕ) → k < 4 → IsNodeAbove mmr_merges 4611686018427387904 6 2 0 k
over_six k l = record { leaves = 4; node = six; bounded = omega arith; stands = record { at = six_at; height_is = refl; first_is = refl }; after = omega arith; before = l }

ten_at : slice_get (forest mmr_merges 7).nodes 10 ≡ Some (leaf 10 6)
unfolding forest
ten_at = refl

pub over_ten : IsNodeAbove mmr_merges 4611686018427387904 10 0 6 6
over_ten = record { leaves = 7; node = leaf 10 6; bounded = omega arith; stands = record { at = ten_at; height_is = refl; first_is = refl }; after = omega arith; before = omega arith }

abbrev thirteen : Tree
thirteen = join 13 (join 9 (leaf 7 4) (leaf 8 5)) (join 12 (leaf 10 6) (leaf 11 7))

thirteen_at : slice_get (forest mmr_merges 8).nodes 13 ≡ Some thirteen
unfolding forest
thirteen_at = refl

pub over_thirteen : IsNodeAbove mmr_merges 4611686018427387904 13 2 4 6
over_thirteen = record { leaves = 8; node = thirteen; bounded = omega arith; stands = record { at = thirteen_at; height_is = refl; first_is = refl }; after = omega arith; before = omega arith }

pair_at : slice_get (forest pairing 4).nodes 5 ≡ Some second_pair
unfolding forest
pair_at = refl

pub over_pair : IsNodeAbove pairing 100 5 1 2 3
over_pair = record { leaves = 4; node = second_pair; bounded = omega arith; stands = record { at = pair_at; height_is = refl; first_is = refl }; after = omega arith; before = omega arith }

abbrev pub seven : Tree
seven = join 7 first_pair second_pair

pub seven_at : slice_get (forest mmb_merges 5).nodes 7 ≡ Some seven
unfolding forest
seven_at = refl

pub over_seven : IsNodeAbove mmb_merges 4611686018427387934 7 2 0 3
over_seven = record { leaves = 5; node = seven; bounded = omega arith; stands = record { at = seven_at; height_is = refl; first_is = refl }; after = omega arith; before = omega arith }
