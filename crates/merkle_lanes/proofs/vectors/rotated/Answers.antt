use Rattle.std.proofs.Common.{◌-◌, arith}
use Rattle.std.proofs.lemmas.Simd.{shifts_fit_splat}
use Rattle.merkle_lanes.proofs.LaneLemmas.{shifts_rotate}
use Rattle.merkle_lanes.proofs.vectors.rotated.Goals as goal

pub overflow_shr-result : goal.overflow_shr-result
overflow_shr-result g c = shifts_fit_splat 32 c.args.x g.row.N c.args.count c.requires.1

pub overflow_shl-result : goal.overflow_shl-result
overflow_shl-result g c = shifts_fit_splat 32 c.args.x g.row.N (32 - c.args.count) (omega arith)

pub returns : goal.returns
returns g c = shifts_rotate c.args.count g.row.N c.requires.0 c.requires.1 c.args.x c.fits-x.0
