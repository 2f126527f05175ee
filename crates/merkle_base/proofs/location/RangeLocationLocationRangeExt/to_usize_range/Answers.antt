use Rattle.std.proofs.Common.{rules}
use Rattle.merkle_base.proofs.location.RangeLocationLocationRangeExt.to_usize_range.Goals as goal

pub returns-clause-start : goal.returns-clause-start
returns-clause-start g c = search rules depth 2

pub returns-clause-end : goal.returns-clause-end
returns-clause-end g c = search rules depth 2
