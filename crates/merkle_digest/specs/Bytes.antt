-- Bytes in parts.
use Rattle.std.specs.Prelude.{ℕ, List}
use Rattle.std.specs.List.{flat_map}
use Rattle.std.specs.Borrow.{Bor}

-- the bytes of the parts, one after another
abbrev pub joined_parts : List (Bor (List ℕ)) → List ℕ
joined_parts parts = flat_map (λ part. part.now) parts
