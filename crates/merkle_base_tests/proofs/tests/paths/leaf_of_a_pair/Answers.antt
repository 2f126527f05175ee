use Rattle.merkle_base_tests.proofs.PathCases.{over_pair}
use Rattle.merkle_base_tests.proofs.tests.paths.leaf_of_a_pair.Goals as goal

pub new-path-requires : goal.new-path-requires
new-path-requires g c = rw (c.new-node.ensures, c.new-first.ensures, c.new-target.ensures) over_pair
