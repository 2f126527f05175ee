-- The bytes that spell a value, and what is wrong with bytes that begin with no spelling.
use Rattle.std.specs.Prelude.{◌≡◌, ℕ, ◌≤◌, ◌<◌, ◌⊎◌, List, [], ◌∷◌, Option, Some, None, length, take}
use Rattle.merkle_base.specs.declared.error.DecodeError.{DecodeError}
use Rattle.merkle_base.specs.declared.error.DecodeError.TheVariants.{EndOfBuffer, Invalid}

-- an option of a digest: 00 for none, or 01 and the digest's bytes
abbrev pub option_spelling : {D : Type 0} → (D → List ℕ) → Option D → List ℕ
option_spelling bytes None = 0 ∷ []
option_spelling bytes (Some d) = 1 ∷ bytes d

-- bytes begin with no digest, whose size is given with what spells one: too few are left, or the first `size` spell none
abbrev pub IsDigestRefusal : (size : ℕ) → (List ℕ → Type 0) → List ℕ → DecodeError → Type 0
IsDigestRefusal size Spells b e =
    ((length b < size) × (e ≡ EndOfBuffer))
    ⊎ ((size ≤ length b) × (¬ Spells (take size b)) × (e ≡ Invalid))

-- bytes begin with no option of a digest: there is no first byte, or it is neither 00 nor 01, or no digest follows the 01
abbrev pub IsOptionRefusal : (size : ℕ) → (List ℕ → Type 0) → List ℕ → DecodeError → Type 0
IsOptionRefusal size Spells [] e = e ≡ EndOfBuffer
IsOptionRefusal size Spells (first ∷ rest) e =
    ((2 ≤ first) × (e ≡ Invalid))
    ⊎ ((first ≡ 1) × IsDigestRefusal size Spells rest e)
