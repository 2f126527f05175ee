-- What the hasher with a key computes.
use Rattle.std.specs.Prelude.{ℕ, ◌∷◌}
use Rattle.merkle_base.specs.Hashing.{Hashing}

-- the digest of the key and a digest's bytes
abbrev pub masked : {D : Type 0} → Hashing D → ℕ → D → D
masked h key d = h.hash (key ∷ h.bytes d)

-- the functions of a hasher, each digest taken behind the key
abbrev pub keyed : {D : Type 0} → Hashing D → ℕ → Hashing D
keyed h key = record {
  leaf = λ p element. masked h key (h.leaf p element);
  node = λ p left right. masked h key (h.node p left right);
  fold = λ acc peak. masked h key (h.fold acc peak);
  hash = λ bytes. masked h key (h.hash bytes);
  bytes = h.bytes;
  same = h.same;
  empty = h.empty;
}
