use Rattle.std.proofs.Common.{◌-◌}
use Rattle.merkle_codec.proofs.number.+read_groups.Given as goal

abbrev pub decreases-read_groups : goal.decreases-read_groups
decreases-read_groups l = 9 - l.before
