-- What is read through kept records, and what lies below them.
use Rattle.std.specs.Prelude.{ℕ, ◌-◌, List, [], ◌∷◌, Option, None, cond, nat_lt, slice_get}
use Rattle.std.specs.Option.{option_or}
use Rattle.std.specs.FinMap.{get}
use Rattle.merkle_batch_theory.specs.Contents.{Contents}
use Rattle.merkle_batch_theory.specs.Records.{RecordModel}

-- what a record has for a position: below its first new node the overwritten node, else the appended one
abbrev pub written : {D : Type 0} → RecordModel D → ℕ → Option D
written r p = cond (nat_lt p r.before) (get r.overwritten p) (slice_get r.appended (p - r.before))

-- the digest for a position of the newest of the records that has one, the oldest record coming first
abbrev pub newest : {D : Type 0} → List (RecordModel D) → ℕ → Option D
newest [] p = None
newest (r ∷ rs) p = option_or (newest rs p) (written r p)

-- the digest for a position of the newest of the records that has one, or else the one that the base holds
abbrev pub read_over : {D : Type 0} → List (RecordModel D) → Contents D → ℕ → Option D
read_over rs base p = option_or (newest rs p) (base.node p)
