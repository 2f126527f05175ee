-- What the hasher over a plain hash function computes.
use Rattle.std.specs.Prelude.{ℕ, Bool, List, ◌++◌}
use Rattle.std.specs.Int.{to_be_bytes, w64}
use Rattle.merkle_base.specs.Hashing.{Hashing}

-- the hash of the joined bytes, with a position as 8 bytes, the most significant first
abbrev pub standard : {D : Type 0} → (List ℕ → D) → (D → List ℕ) → (D → D → Bool) → D → Hashing D
standard hash bytes same empty = record {
  leaf = λ p element. hash (to_be_bytes w64 p ++ element);
  node = λ p left right. hash (to_be_bytes w64 p ++ bytes left ++ bytes right);
  fold = λ acc peak. hash (bytes acc ++ bytes peak);
  hash = hash;
  bytes = bytes;
  same = same;
  empty = empty;
}
