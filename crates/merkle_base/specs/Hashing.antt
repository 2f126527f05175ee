-- What a hasher computes.
use Rattle.std.specs.Prelude.{◌≡◌, ℕ, Bool, List, Decides}

-- the functions of a hasher and of its digests; `empty` is the digest where a list has no entry
pub record Hashing (D : Type 0) : Type 0 where
  pub leaf : ℕ → List ℕ → D  -- of a leaf: its position and its element
  pub node : ℕ → D → D → D  -- of a merged node: its position and its children's digests
  pub fold : D → D → D  -- of what is folded so far and the next peak
  pub hash : List ℕ → D  -- of bytes
  pub bytes : D → List ℕ  -- the bytes of a digest
  pub same : D → D → Bool  -- whether two digests are equal
  pub empty : D

-- `same` says of any two digests whether they are equal
abbrev pub EqDecides : {D : Type 0} → Hashing D → Type 0
EqDecides {D} h = (a b : D) → Decides (h.same a b) (a ≡ b)

-- the digests of a hashing have these bytes, this equality and this empty digest
pub record IsOver {D : Type 0} (h : Hashing D) (spelled : D → List ℕ) (equal : D → D → Bool) (none : D) : Type 0 where
  pub bytes : h.bytes ≡ spelled
  pub same : h.same ≡ equal
  pub empty : h.empty ≡ none
