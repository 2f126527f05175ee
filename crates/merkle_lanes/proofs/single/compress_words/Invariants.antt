use Rattle.std.proofs.Common.{◌≡◌, ℕ, List, ◌+◌, ◌*◌, ◌<◌, slice_index}
use Rattle.sha2.specs.Sha256.{rounds, schedule, word_at}
use Rattle.merkle_lanes.specs.Lanes.{StandAt, state_lane}
use Rattle.merkle_lanes.proofs.single.compress_words.Given as goal

abbrev pub invariant-loop-turn : goal.invariant-loop-turn
invariant-loop-turn l = (block : List ℕ) → ((j : ℕ) → j < 4 → slice_index l.fn.first j ≡ word_at block (4 * j))
    → ((j : ℕ) → j < 4 → slice_index l.fn.second j ≡ word_at block (4 * (4 + j))) → ((j : ℕ) → j < 4 → slice_index l.fn.third j ≡ word_at block (4 * (8 + j)))
    → ((j : ℕ) → j < 4 → slice_index l.fn.fourth j ≡ word_at block (4 * (12 + j)))
    → StandAt l.a (schedule block 48) (8 * l.turn) × StandAt l.b (schedule block 48) (8 * l.turn + 4) × StandAt l.c (schedule block 48) (8 * l.turn + 8)
    × StandAt l.d (schedule block 48) (8 * l.turn + 12) × (state_lane 0 l.v ≡ rounds (state_lane 0 l.state) (schedule block 48) (8 * l.turn))
