use Rattle.std.proofs.Common.{◌≡◌, ℕ, ◌<◌, slice_index, length}
use Rattle.sha2.specs.Sha256.{word_at}
use Rattle.merkle_lanes.specs.Lanes.{message}
use Rattle.merkle_lanes.proofs.blocks.words.Given as goal

abbrev pub invariant-loop-j : goal.invariant-loop-j
invariant-loop-j g l = (length l.words ≡ g.row.N) × ((k : ℕ) → k < l.j → slice_index l.words k ≡ word_at (message l.messages k) l.i)
