use Rattle.std.proofs.Common.{◌≡◌, ℕ, List, ◌<◌, ◌*◌, slice_index}
use Rattle.sha2.specs.Sha256.{IsRoundsAt, word_at}
use Rattle.merkle_lanes.specs.Lanes.{lane, state_lane}
use Rattle.merkle_lanes.proofs.compress.compress.Given as goal

abbrev pub invariant-loop-turn : goal.invariant-loop-turn
invariant-loop-turn g l = (j : ℕ) → j < g.row.N → (b : List ℕ)
    → ((k : ℕ) → k < 16 → slice_index (lane j l.block) k ≡ word_at b (4 * k))
    → IsRoundsAt b (state_lane j l.state) (lane j l.w) (state_lane j l.v) (16 * l.turn)
