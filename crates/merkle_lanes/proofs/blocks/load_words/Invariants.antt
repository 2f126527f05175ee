use Rattle.std.proofs.Common.{◌≡◌, ℕ, ◌+◌, ◌*◌, ◌<◌, slice_index, length}
use Rattle.sha2.specs.Sha256.{word_at}
use Rattle.merkle_lanes.specs.Lanes.{lane, message}
use Rattle.merkle_lanes.proofs.blocks.load_words.Given as goal

abbrev pub invariant-loop-i : goal.invariant-loop-i
invariant-loop-i g l = (length l.block ≡ 16)
    × ((j : ℕ) → j < g.row.N → (k : ℕ) → k < l.place → slice_index (lane j l.block) k ≡ slice_index (lane j l.initial.block) k)
    × ((j : ℕ) → j < g.row.N → (k : ℕ) → k < l.i → slice_index (lane j l.block) (l.place + k) ≡ word_at (message l.messages j) (l.start + 4 * k))
