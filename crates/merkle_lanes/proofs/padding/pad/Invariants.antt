use Rattle.std.proofs.Common.{◌≡◌, ◌-◌, ◌+◌, ◌≤◌, ◌++◌, length, take, replicate}
use Rattle.merkle_lanes.specs.Lanes.{joined_parts}
use Rattle.merkle_lanes.proofs.padding.pad.Given as goal

abbrev pub invariant-loop-part : goal.invariant-loop-part
invariant-loop-part l = let m = joined_parts (take l.part-index l.parts) in
    (length m ≡ l.used) × (l.used + 9 ≤ length l.initial.bytes) × (l.bytes ≡ m ++ replicate (length l.initial.bytes - l.used) 0)
