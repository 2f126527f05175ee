-- The numbers of a chunk of leaves, in 64 bits.
use Rattle.std.proofs.Common.{◌≡◌, ℕ, ◌+◌, ◌*◌, ◌%◌, ◌^◌, ◌<◌, ◌≤◌, arith, pow_pos}
use Rattle.merkle_base.proofs.Limits.{log_below}

-- What holds of chunk i of 2 ^ h leaves each, of n leaves.
pub record IsWithin (n i h : ℕ) : Type 0 where
  pub low : h < 63
  pub first : i * 2 ^ h % 18446744073709551616 ≡ i * 2 ^ h
  pub end : i * 2 ^ h + 2 ^ h ≤ n

pub chunk_within : (n i h : ℕ) → n < 9223372036854775808 → (i + 1) * 2 ^ h ≤ n → IsWithin n i h
chunk_within n i h l w =
    let end : i * 2 ^ h + 2 ^ h ≤ n = omega (arith, w) in
    record { low = log_below h 63 n (omega arith) (omega arith); first = omega (arith, pow_pos h); end = end }
