use Rattle.std.proofs.Common.{arith}
use Rattle.merkle_range.proofs.RangeRoot.{outside_count}
use Rattle.merkle_range.proofs.groups.PeakGroups.after.Goals as goal

pub overflow_sub-result : goal.overflow_sub-result
overflow_sub-result g c = let w = c.requires in omega (arith, outside_count w.0 w.1 c.args.self.now w.2 w.3, w.3.before, c.len.ensures)

pub returns : goal.returns
returns g c = λ a b ts held. omega (arith, outside_count a b c.args.self.now ts held, held.before, c.len.ensures)
