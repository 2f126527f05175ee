use Rattle.std.proofs.Common.{arith}
use Rattle.merkle_forest_theory.proofs.BeltLawful.{mmb_lawful}
use Rattle.merkle_topology.proofs.BeltRoots.{root_within}
use Rattle.merkle_base_tests.proofs.tests.mmb.roots.Goals as goal

pub root_of-requires-clause-within : goal.root_of-requires-clause-within
root_of-requires-clause-within g c = root_within 0 0 (omega arith)

pub root_of-requires-2-clause-within : goal.root_of-requires-2-clause-within
root_of-requires-2-clause-within g c = root_within 4 2 (omega arith)

pub root_of-requires-3-clause-within : goal.root_of-requires-3-clause-within
root_of-requires-3-clause-within g c = root_within 0 3 (omega arith)

pub root_of-requires-4-clause-within : goal.root_of-requires-4-clause-within
root_of-requires-4-clause-within g c = root_within 1 1 (omega arith)

pub root_of-requires-5-clause-within : goal.root_of-requires-5-clause-within
root_of-requires-5-clause-within g c = root_within 0 61 (omega arith)

pub root_of-requires-6-clause-within : goal.root_of-requires-6-clause-within
root_of-requires-6-clause-within g c = omega (arith, mmb_lawful.size_at_limit)
