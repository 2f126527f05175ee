use Rattle.merkle_base_tests.proofs.PathCases.{over_six}
use Rattle.merkle_base_tests.proofs.tests.paths.under_six.Goals as goal

pub new-requires-4 : goal.new-requires-4
new-requires-4 c = rw (c.new.ensures, c.new-2.ensures, c.new-3.ensures) (over_six c.args.target c.requires)
