-- Which messages are hashed together.
use Rattle.std.specs.Prelude.{ℕ, ◌+◌, ◌*◌, ◌/◌, ◌≤◌, min, max}

-- the number of blocks of 64 bytes of a message of that many bytes with its padding, where all numbers above 16 count as 17
abbrev pub block_count : ℕ → ℕ
block_count length = min ((length + 8) / 64 + 1) 17

-- four messages of that many blocks each are hashed together: none has more than 16, and all have at least twice as many as the longest
abbrev pub AreHashedTogether : (a b c d : ℕ) → Type 0
AreHashedTogether a b c d = let most = max (max (max a b) c) d in (most ≤ 16) × (2 * most ≤ a + b + c + d)
