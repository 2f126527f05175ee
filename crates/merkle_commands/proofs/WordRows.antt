-- Rows of words with one space between each two.
use Rattle.std.proofs.Common.{◌≡◌, ◌≢◌, ℕ, ◌<◌, List, [], ◌∷◌, ◌++◌, length, Option, None, Some, get_or, arith, false, refl}
use Rattle.std.specs.Borrow.{Bor}
use Rattle.std.specs.Prelude.{◌==◌}
use Rattle.std.specs.List.{All, slice_split}
use Rattle.std.proofs.lemmas.Bool.{ne_eqb}
use Rattle.std.proofs.lemmas.Grind.{common_steps}
use Rattle.std.proofs.lemmas.List.Splits.{slice_split_at, slice_split_none}
use Rattle.std.proofs.lemmas.Str.Pattern.{IsSplitOnceResult, split_parts}
use Rattle.merkle_commands.specs.Commands.{words_in}

-- a word without a space fails the test at each byte
pub no_space : (word : List ℕ) → ((i : ℕ) → i < length word → get_or word i 0 ≢ 32) → All (λ b. (b == 32) ≡ false) word
no_space word none = λ k e l. ne_eqb _ 32 (λ is. let other = none k l in grind (arith, common_steps, is, other))

-- a row without a space is one word
pub words_in_one : (row : List ℕ) → IsSplitOnceResult 32 row None → words_in row ≡ row ∷ []
words_in_one row cut = slice_split_none (λ b. b == 32) row (no_space row (split_parts 32 row None cut (omega arith)))

-- else it is its first word and the words after the space
pub words_in_cut : (row : List ℕ) (first rest : Bor (List ℕ)) → IsSplitOnceResult 32 row (Some (first, rest)) → words_in row ≡ first.now ∷ words_in rest.now
words_in_cut row first rest cut =
    let parts = split_parts 32 row (Some (first, rest)) cut (omega arith) in
    rw parts.0 (slice_split_at (λ b. b == 32) first.now 32 rest.now (no_space first.now parts.1) refl)
