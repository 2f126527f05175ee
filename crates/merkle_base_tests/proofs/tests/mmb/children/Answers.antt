use Rattle.std.proofs.Common.{◌≡◌, Some, slice_get, refl, arith, subst, sym, ℕ}
use Rattle.merkle_base.specs.Tree.{height}
use Rattle.merkle_base.specs.Forest.{forest}
use Rattle.merkle_forest_theory.specs.Mmb.{mmb_merges}
use Rattle.merkle_base_tests.proofs.PathCases.{second_pair, seven, seven_at}
use Rattle.merkle_base_tests.proofs.tests.mmb.children.Goals as goal

high : height seven ≡ 2
high = refl

right_at : slice_get (forest mmb_merges 5).nodes 5 ≡ Some second_pair
unfolding forest
right_at = refl

right_high : height second_pair ≡ 1
right_high = refl

pub children-left-requires : goal.children-left-requires
children-left-requires g c = (5, seven, omega arith, subst (λ (p : ℕ). slice_get (forest mmb_merges 5).nodes p ≡ Some seven) (sym c.new.ensures) seven_at, high, omega arith)

pub children-left-requires-2 : goal.children-left-requires-2
children-left-requires-2 g c = (5, second_pair, omega arith, subst (λ (p : ℕ). slice_get (forest mmb_merges 5).nodes p ≡ Some second_pair) (sym c.new-2.ensures) right_at, right_high, omega arith)
