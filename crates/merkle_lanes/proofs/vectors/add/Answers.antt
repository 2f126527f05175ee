use Rattle.merkle_lanes.proofs.LaneLemmas.{zip2_lane}
use Rattle.merkle_lanes.proofs.vectors.add.Goals as goal

pub returns : goal.returns
returns g c j h = zip2_lane _ g.row.N c.args.a c.args.b j c.fits-a.0 c.fits-b.0 h
