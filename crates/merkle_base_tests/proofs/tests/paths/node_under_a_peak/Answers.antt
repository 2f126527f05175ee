use Rattle.merkle_base_tests.proofs.PathCases.{over_thirteen}
use Rattle.merkle_base_tests.proofs.tests.paths.node_under_a_peak.Goals as goal

pub new-path-requires : goal.new-path-requires
new-path-requires g c = rw (c.new-node.ensures, c.new-first.ensures, c.new-target.ensures) over_thirteen
