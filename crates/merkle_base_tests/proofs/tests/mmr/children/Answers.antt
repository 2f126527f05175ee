use Rattle.std.proofs.Common.{◌≡◌, Some, slice_get, refl, arith, subst, sym, ℕ}
use Rattle.merkle_base.specs.Tree.{height}
use Rattle.merkle_base.specs.Forest.{forest}
use Rattle.merkle_forest_theory.specs.Mmr.{mmr_merges}
use Rattle.merkle_base_tests.proofs.PathCases.{six, six_at}
use Rattle.merkle_base_tests.proofs.tests.mmr.children.Goals as goal

high : height six ≡ 2
high = refl

pub children-left-requires : goal.children-left-requires
children-left-requires g c = (4, six, omega arith, subst (λ (p : ℕ). slice_get (forest mmr_merges 4).nodes p ≡ Some six) (sym c.new.ensures) six_at, high, omega arith)
