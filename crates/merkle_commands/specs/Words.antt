-- What the words of a line are made of.
use Rattle.std.specs.Prelude.{◌≡◌, ℕ, ◌<◌, ◌%◌, ◌⊎◌, List, length, slice_index}
use Rattle.std.specs.List.{AllPass}
use Rattle.hex.specs.Hex.{is_hex_digit}

-- an even number of hexadecimal digits, in either case
abbrev pub IsHexWord : List ℕ → Type 0
IsHexWord word = (length word % 2 ≡ 0) × AllPass is_hex_digit word

-- a '+' stands first, or a '0' that more follows
abbrev pub IsPadded : List ℕ → Type 0
IsPadded word = (slice_index word 0 ≡ 43) ⊎ ((slice_index word 0 ≡ 48) × (1 < length word))
