use Rattle.std.proofs.Common.{take}
use Rattle.sha2.specs.Hashers.{Holds256}
use Rattle.merkle_lanes.specs.Lanes.{joined_parts}
use Rattle.merkle_lanes.proofs.hash_long.Given as goal

abbrev pub invariant-loop-part : goal.invariant-loop-part
invariant-loop-part l = Holds256 l.hasher (joined_parts (take l.part-index l.parts))
