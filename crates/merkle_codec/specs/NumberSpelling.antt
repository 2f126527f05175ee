-- The bytes that spell a number below 2 ^ 64, and what is wrong with bytes that begin with no such spelling.
use Rattle.std.specs.Prelude.{◌≡◌, ◌≢◌, ℕ, zero, suc, ◌+◌, ◌/◌, ◌%◌, ◌^◌, ◌<◌, ◌≤◌, ◌⊎◌, List, [], ◌∷◌, ◌++◌, if◌then◌else◌, nat_lt}
use Rattle.merkle_base.specs.declared.error.DecodeError.{DecodeError}
use Rattle.merkle_base.specs.declared.error.DecodeError.TheVariants.{EndOfBuffer, InvalidVarint}

-- the groups of 7 bits of a number, lowest first, a byte each: the top bit is set on all but the last. At most `more` groups follow the first
abbrev pub number_groups : (more : ℕ) → ℕ → List ℕ
number_groups zero n = n ∷ []
number_groups (suc more) n = if nat_lt n 128 then n ∷ [] else (128 + n % 128) ∷ number_groups more (n / 128)

-- the bytes of a number below 2 ^ 64: at most ten
unfoldable pub number_spelling : ℕ → List ℕ
number_spelling n = number_groups 9 n

-- bytes go on with no groups of a number, of which `before` are read: there is none, the tenth isn't 1, a later one than the first
-- is 0, or one says that more follow, and those are refused
abbrev pub IsGroupRefusal : (before : ℕ) → List ℕ → DecodeError → Type 0
IsGroupRefusal before [] e = e ≡ EndOfBuffer
IsGroupRefusal before (group ∷ rest) e =
    ((before ≡ 9) × (group ≢ 1) × (e ≡ InvalidVarint))
    ⊎ ((1 ≤ before) × (group ≡ 0) × (e ≡ InvalidVarint))
    ⊎ ((before < 9) × (128 ≤ group) × IsGroupRefusal (suc before) rest e)

-- bytes begin with no number
unfoldable pub IsNumberRefusal : List ℕ → DecodeError → Type 0
IsNumberRefusal b e = IsGroupRefusal 0 b e

-- bytes begin with a number, and P holds of it and of the bytes after it
abbrev pub BeginsWithNumber : (ℕ → List ℕ → Type 0) → List ℕ → Type 0
BeginsWithNumber P b = (n : ℕ) × (rest : List ℕ) × (n < 2 ^ 64) × (b ≡ number_spelling n ++ rest) × P n rest

-- bytes begin with no number up to a greatest one: they begin with none, or with a greater one, which has an error of its own
abbrev pub IsRefusalUpTo : (greatest : ℕ) → (above : DecodeError) → List ℕ → DecodeError → Type 0
IsRefusalUpTo greatest above b e = IsNumberRefusal b e ⊎ (BeginsWithNumber (λ n _. greatest < n) b × (e ≡ above))

-- bytes are refused where they should begin with a number up to a greatest one, or else after it
abbrev pub IsRefusalFrom : (greatest : ℕ) → (above : DecodeError) → (after : ℕ → List ℕ → DecodeError → Type 0) → List ℕ → DecodeError → Type 0
IsRefusalFrom greatest above after b e = IsRefusalUpTo greatest above b e ⊎ BeginsWithNumber (λ n rest. (n ≤ greatest) × after n rest e) b
