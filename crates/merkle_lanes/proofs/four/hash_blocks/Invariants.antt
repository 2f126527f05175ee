use Rattle.std.proofs.Common.{◌≡◌, ℕ, ◌<◌, ◌≤◌}
use Rattle.sha2.specs.Sha256.{digest_bytes, hash_after, initial_hash_256}
use Rattle.merkle_lanes.specs.Lanes.{message, state_lane}
use Rattle.merkle_lanes.proofs.four.hash_blocks.Given as goal

abbrev pub invariant-loop-i : goal.invariant-loop-i
invariant-loop-i l = ((j : ℕ) → j < 4 → state_lane j l.state ≡ hash_after initial_hash_256 (message l.messages j) l.i)
    × (l.a ≤ l.i → l.first ≡ digest_bytes (hash_after initial_hash_256 (message l.messages 0) l.a) 8)
    × (l.b ≤ l.i → l.second ≡ digest_bytes (hash_after initial_hash_256 (message l.messages 1) l.b) 8)
    × (l.c ≤ l.i → l.third ≡ digest_bytes (hash_after initial_hash_256 (message l.messages 2) l.c) 8)
    × (l.d ≤ l.i → l.fourth ≡ digest_bytes (hash_after initial_hash_256 (message l.messages 3) l.d) 8)
