use Rattle.std.proofs.Common.{ℕ, ◌<◌, get_or}
use Rattle.merkle_scattered.proofs.supplied.SuppliedDigests.index_near.Given as goal

abbrev pub invariant-loop-index : goal.invariant-loop-index
invariant-loop-index g l = (k : ℕ) → k < l.index → get_or l.self.positions.now k 0 < l.position
