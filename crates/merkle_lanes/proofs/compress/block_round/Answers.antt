use Rattle.std.proofs.Common.{refl, sym}
use Rattle.sha2.proofs.Schedule256.{rounds_first}
use Rattle.merkle_lanes.specs.Lanes.{lane, state_lane}
use Rattle.merkle_lanes.proofs.LaneLemmas.{slice_index-lane}
use Rattle.merkle_lanes.proofs.compress.block_round.Goals as goal

pub returns : goal.returns
returns g c j h = λ b i window held.
    rounds_first b i (lane j c.args.w.now) (state_lane j c.args.v.now) c.args.t _ _ _ c.requires window held refl
    (sym (slice_index-lane j c.args.w.now c.args.t)) (c.round.ensures j h)
