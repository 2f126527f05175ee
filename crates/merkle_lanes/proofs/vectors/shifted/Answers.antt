use Rattle.std.proofs.lemmas.Simd.{shifts_fit_splat}
use Rattle.merkle_lanes.proofs.LaneLemmas.{zip2_splat_lane}
use Rattle.merkle_lanes.proofs.vectors.shifted.Goals as goal

pub overflow_shr-result : goal.overflow_shr-result
overflow_shr-result g c = shifts_fit_splat 32 c.args.x g.row.N c.args.count c.requires

pub returns : goal.returns
returns g c j h = zip2_splat_lane _ g.row.N c.args.x c.args.count j c.fits-x.0 h
