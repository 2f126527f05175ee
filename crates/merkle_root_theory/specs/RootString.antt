-- What the string of a root determines.
use Rattle.std.specs.Prelude.{◌≡◌, ℕ, ◌<◌, ◌^◌, Option, Some, None, length}
use Rattle.merkle_base.specs.declared.family.Bagging.{Bagging}
use Rattle.merkle_base.specs.Root.{root_string}
use Rattle.merkle_base.specs.Hashing.{Hashing}

-- digests are told apart by their bytes, which all have one length
pub record ByteLaws {D : Type 0} (h : Hashing D) (size : ℕ) : Type 0 where
  pub length : (d : D) → length (h.bytes d) ≡ size
  pub nonempty : 0 < size
  pub differ : (a b : D) → h.bytes a ≡ h.bytes b → a ≡ b

-- two root strings have one inactive count and one folded digest, or neither has any
abbrev pub SameFolded : {D : Type 0} → ℕ → Option D → ℕ → Option D → Type 0
SameFolded k None k' None = Unit {0}
SameFolded k None k' (Some d') = ⊥
SameFolded k (Some d) k' None = ⊥
SameFolded k (Some d) k' (Some d') = (k ≡ k') × (d ≡ d')

-- one string has one family, one bagging, one leaf count, one inactive count and one folded digest
abbrev pub RootStringTellsAll : Type 0 → Type 0
RootStringTellsAll D = (h : Hashing D) (size : ℕ) → ByteLaws h size
    → (domain domain' : ℕ) (bagging bagging' : Bagging) (n n' k k' : ℕ) (o o' : Option D)
    → n < 2 ^ 64 → n' < 2 ^ 64 → k < 2 ^ 64 → k' < 2 ^ 64
    → root_string h domain bagging n k o ≡ root_string h domain' bagging' n' k' o' → (domain ≡ domain') × (bagging ≡ bagging') × (n ≡ n') × SameFolded k o k' o'
