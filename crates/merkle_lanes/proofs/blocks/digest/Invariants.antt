use Rattle.std.proofs.Common.{◌≡◌, ◌*◌, length, take}
use Rattle.sha2.specs.Sha256.{digest_bytes}
use Rattle.merkle_lanes.specs.Lanes.{state_lane}
use Rattle.merkle_lanes.proofs.blocks.digest.Given as goal

abbrev pub invariant-loop-i : goal.invariant-loop-i
invariant-loop-i g l = (length l.out ≡ 32) × (take (4 * l.i) l.out ≡ digest_bytes (state_lane l.j l.state) l.i)
