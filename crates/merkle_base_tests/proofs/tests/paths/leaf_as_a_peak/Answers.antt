use Rattle.merkle_base_tests.proofs.PathCases.{over_ten}
use Rattle.merkle_base_tests.proofs.tests.paths.leaf_as_a_peak.Goals as goal

pub new-path-requires : goal.new-path-requires
new-path-requires g c = rw (c.new-node.ensures, c.new-location.ensures) over_ten
