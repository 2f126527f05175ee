use Rattle.std.proofs.Common.{◌≡◌, ◌-◌, ◌^◌, length, min, take}
use Rattle.merkle_lanes.specs.Lanes.{joined_parts}
use Rattle.merkle_lanes.proofs.count_blocks.Given as goal

abbrev pub invariant-loop-part : goal.invariant-loop-part
invariant-loop-part l = l.length ≡ min (length (joined_parts (take l.part-index l.parts))) (2 ^ 64 - 1)
