use Rattle.std.proofs.Common.{arith}
use Rattle.merkle_base.proofs.Births.{size_peaks}
use Rattle.merkle_base.proofs.Lookup.{size_zero}
use Rattle.merkle_forest_theory.specs.Mmr.{mmr_merges}
use Rattle.merkle_forest_theory.proofs.RangeLawful.{mmr_lawful}
use Rattle.merkle_base_tests.proofs.tests.mmr.roots.Goals as goal

pub root_of-requires-clause-within : goal.root_of-requires-clause-within
root_of-requires-clause-within g c = omega (arith, size_peaks mmr_merges 0)

pub root_of-requires-2-clause-within : goal.root_of-requires-2-clause-within
root_of-requires-2-clause-within g c = omega (arith, size_peaks mmr_merges 4)

pub root_of-requires-3-clause-within : goal.root_of-requires-3-clause-within
root_of-requires-3-clause-within g c = omega (arith, size_peaks mmr_merges 1)

pub root_of-requires-4-clause-within : goal.root_of-requires-4-clause-within
root_of-requires-4-clause-within g c = omega (arith, size_zero mmr_merges)

pub root_of-requires-5-clause-within : goal.root_of-requires-5-clause-within
root_of-requires-5-clause-within g c = omega (arith, mmr_lawful.size_at_limit)
