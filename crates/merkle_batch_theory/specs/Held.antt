-- The nodes that a structure holds.
use Rattle.std.specs.Prelude.{◌≡◌, ℕ, ◌+◌, ◌≤◌, List, [], ◌∷◌, length, Option, None, ◌==◌, refl}
use Rattle.std.specs.Option.{option_map, unwrap_or}
use Rattle.std.specs.Coded.{Coded, code_by, coded×, coded_ℕ}
use Rattle.std.specs.FinMap.{FinMap, code, get}
use Rattle.std.specs.Map.{lookup}
use Rattle.std.specs.Ordering.{nat_cmp}
use Rattle.merkle_batch_theory.specs.Contents.{Contents}
use Rattle.merkle_batch_theory.specs.Records.{RecordModel}

-- the nodes that a structure holds
pub record Held (D : Type 0) : Type 0 where
  pub start : ℕ  -- the position from which on no node is missing
  pub size : ℕ  -- the number of nodes, those that are not held counted
  pub stored : FinMap nat_cmp D  -- the nodes held, by position
  pub capacity : ℕ  -- how many nodes there can be before more memory is needed

-- the code of held nodes as a value
abbrev pub held_code : {D : Type 0} → Coded D → Coded (Held D)
held_code d =
    code_by _ (coded× coded_ℕ (coded× coded_ℕ (coded× (code coded_ℕ d) coded_ℕ)))
    (λ h. (h.start, (h.size, (h.stored, h.capacity))))
    (λ p. record { start = p.0; size = p.1.0; stored = p.1.1.0; capacity = p.1.1.1 })
    (λ _. refl)

-- a held node takes the newer digest
abbrev pub overwritten_by : {D : Type 0} → Option D → Option D → Option D
overwritten_by newer old = option_map (unwrap_or newer) old

-- no pin has position n or a later one
abbrev pub PinsBefore : {D : Type 0} → ℕ → List (ℕ × D) → Type 0
PinsBefore n pins = (p : ℕ) → n ≤ p → lookup (λ q. p == q) pins ≡ None

-- what a structure is that was pruned to b and holds these nodes
abbrev pub held_contents : {D : Type 0} → ℕ → Held D → Contents D
held_contents b held = record { boundary = b; size = held.size; node = get held.stored }

-- how many nodes the records append
abbrev pub total_appended : {D : Type 0} → List (RecordModel D) → ℕ
total_appended [] = 0
total_appended (r ∷ rs) = length r.appended + total_appended rs
