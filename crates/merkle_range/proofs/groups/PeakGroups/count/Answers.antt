use Rattle.std.proofs.Common.{arith}
use Rattle.merkle_range.proofs.RangeRoot.{group_count}
use Rattle.merkle_range.proofs.groups.PeakGroups.count.Goals as goal

pub returns : goal.returns
returns g c = λ a b n l held. omega (arith, group_count g.F.Family.rule a b n c.args.self.now l held, c.len.ensures, c.len-2.ensures)
