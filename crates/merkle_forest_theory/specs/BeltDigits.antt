-- The peak heights of the Mountain Belt count in binary: n leaves have the digits of n + 1 without its highest one.
use Rattle.std.specs.Prelude.{ℕ, zero, suc, ◌+◌, ◌*◌, Bool, true, false, cond, List, [], ◌∷◌}

-- one more, for binary digits that are listed lowest first, without the highest one
abbrev pub increment : List Bool → List Bool
increment [] = false ∷ []
increment (false ∷ bs) = true ∷ bs
increment (true ∷ bs) = false ∷ increment bs

-- the binary digits of n + 1, lowest first, without the highest one
unfoldable pub digits_after : ℕ → List Bool
digits_after zero = []
digits_after (suc n) = increment (digits_after n)

-- the number with these binary digits, lowest first, below a highest one
abbrev pub number_of_digits : List Bool → ℕ
number_of_digits [] = 1
number_of_digits (b ∷ bs) = cond b 1 0 + 2 * number_of_digits bs

-- the height k + i at index i, and one more where digit i is set
abbrev pub spread : ℕ → List Bool → List ℕ
spread k [] = []
spread k (b ∷ bs) = cond b (suc k) k ∷ spread (suc k) bs
