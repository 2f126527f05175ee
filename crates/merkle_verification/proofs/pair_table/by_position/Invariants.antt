use Rattle.std.proofs.Common.{◌≤◌, length, drop}
use Rattle.merkle_verification.specs.PairReads.{AnswersPairs}
use Rattle.merkle_verification.proofs.pair_table.by_position.Given as goal

abbrev pub invariant-loop-index : goal.invariant-loop-index
invariant-loop-index g l = (l.index ≤ length l.pairs) × AnswersPairs l.digests.entries (drop l.index l.pairs)

abbrev pub decreases-loop-index : goal.decreases-loop-index
decreases-loop-index g l = l.index
