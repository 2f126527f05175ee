-- Sums of words in another order.
use Rattle.std.proofs.Common.{◌≡◌, ℕ, arith}
use Rattle.sha2.specs.Sha256.{add32}

-- the first temporary word of a round, where the constant and the word of the schedule are added first
pub temp1_by_constant_and_word : (h k w s c : ℕ) → add32 (add32 (add32 h (add32 k w)) s) c ≡ add32 (add32 (add32 (add32 h s) c) k) w
temp1_by_constant_and_word h k w s c = omega arith

-- the next word of the schedule, where the word two places before is added last
pub next_by_sum : (x z y s : ℕ) → add32 (add32 (add32 x z) y) s ≡ add32 (add32 (add32 s y) z) x
next_by_sum x z y s = omega arith
