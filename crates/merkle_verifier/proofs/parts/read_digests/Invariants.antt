use Rattle.std.proofs.Common.{◌≡◌, ◌++◌, length}
use Rattle.merkle_verifier.specs.Inputs.{joined_digests}
use Rattle.merkle_verifier.proofs.parts.read_digests.Given as goal

abbrev pub invariant-loop-rest : goal.invariant-loop-rest
invariant-loop-rest l = joined_digests l.digests.items ++ l.rest ≡ l.bytes

abbrev pub decreases-loop-rest : goal.decreases-loop-rest
decreases-loop-rest l = length l.rest
