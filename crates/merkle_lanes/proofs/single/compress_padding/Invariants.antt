use Rattle.std.proofs.Common.{◌≡◌, ◌*◌}
use Rattle.sha2.specs.Sha256.{padding, rounds, schedule}
use Rattle.merkle_lanes.specs.Lanes.{state_lane}
use Rattle.merkle_lanes.proofs.single.compress_padding.Given as goal

abbrev pub invariant-loop-turn : goal.invariant-loop-turn
invariant-loop-turn l = state_lane 0 l.v ≡ rounds (state_lane 0 l.state) (schedule (padding 64) 48) (8 * l.turn)
