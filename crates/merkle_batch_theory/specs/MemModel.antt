-- What a `Mem` is to its callers: where it was pruned to, how many nodes it counts, and which it holds.
use Rattle.std.specs.Prelude.{ℕ, List, ◌++◌, length, zip, refl}
use Rattle.std.specs.List.{range_with_len}
use Rattle.std.specs.Ordering.{nat_cmp}
use Rattle.std.specs.FinMap.{FinMap, get, code, empty, from_entries}
use Rattle.std.specs.Coded.{Coded, code_by, coded×, coded_ℕ}
use Rattle.merkle_batch_theory.specs.Contents.{Contents}

-- what a `Mem` is to a contract: its boundary, its counts and the nodes that it holds
pub record MemModel (D : Type 0) : Type 0 where
  pub boundary : ℕ  -- the location that it was pruned to
  pub leaves : ℕ  -- the number of leaves, the pruned ones counted
  pub size : ℕ  -- the number of nodes, the pruned ones counted
  pub stored : FinMap nat_cmp D  -- the nodes held, by position

-- the code of a `Mem` as a value
abbrev pub mem_model_code : {D : Type 0} → Coded D → Coded (MemModel D)
mem_model_code d =
    code_by _ (coded× coded_ℕ (coded× coded_ℕ (coded× coded_ℕ (code coded_ℕ d))))
    (λ s. (s.boundary, (s.leaves, (s.size, s.stored))))
    (λ p. record { boundary = p.0; leaves = p.1.0; size = p.1.1.0; stored = p.1.1.1 })
    (λ _. refl)

-- the contents of a `Mem`, its held nodes as a function of the position
abbrev pub contents : {D : Type 0} → MemModel D → Contents D
contents s = record { boundary = s.boundary; size = s.size; node = get s.stored }

-- what is held at a position: a pin, or one of the nodes from position start on
abbrev pub stored_of : {D : Type 0} → List (ℕ × D) → ℕ → List D → FinMap nat_cmp D
stored_of pins start nodes = from_entries (pins ++ zip (range_with_len start (length nodes)) nodes)

-- the structure of no leaves
abbrev pub no_leaves : {D : Type 0} → MemModel D
no_leaves = record { boundary = 0; leaves = 0; size = 0; stored = empty }
