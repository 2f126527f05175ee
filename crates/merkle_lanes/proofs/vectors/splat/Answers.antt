use Rattle.merkle_lanes.proofs.LaneLemmas.{splat_lane}
use Rattle.merkle_lanes.proofs.vectors.splat.Goals as goal

pub returns : goal.returns
returns g c j h = splat_lane g.row.N j c.args.x h
