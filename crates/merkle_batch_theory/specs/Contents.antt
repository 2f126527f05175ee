-- What a `Mem` is to its callers, when it agrees with a list, and what pruning keeps of it.
use Rattle.std.specs.Prelude.{◌≡◌, ℕ, ◌≤◌, List, length, Bool, Option, Some, None, is_some, cond, nat_lt, nat_le, ◌||◌, ◌&&◌, ◌==◌, slice_get, flat_map}
use Rattle.std.specs.List.{list_any}
use Rattle.std.specs.Option.{option_to_list}
use Rattle.merkle_base.specs.Forest.{size}
use Rattle.merkle_base.specs.Hashing.{Hashing}
use Rattle.merkle_base.specs.Digests.{node_digests}
use Rattle.merkle_base.specs.Places.{peak_positions}

-- The value of a `Mem` is a `MemModel`, whose nodes are a finite map, as a value has a code; here they are a function, so that pruning
-- and applying are said position by position, and so that anything that holds nodes can be the base of a batch.
pub record Contents (D : Type 0) : Type 0 where
  pub boundary : ℕ  -- the location that it was pruned to
  pub size : ℕ  -- the number of nodes, the pruned ones counted
  pub node : ℕ → Option D  -- the node at a position, if it is held

-- whether position p is kept when all before location b is pruned: it is that of leaf b or later, or a peak of b leaves
abbrev pub is_kept : (List ℕ → List ℕ) → ℕ → ℕ → Bool
is_kept rule b p = nat_le (size rule b) p || list_any (λ q. p == q) (peak_positions rule b)

-- the structure holds a node exactly where the position is below its size and kept at its boundary
abbrev pub HoldsKept : {D : Type 0} → (List ℕ → List ℕ) → Contents D → Type 0
HoldsKept rule c = (p : ℕ) → is_some (c.node p) ≡ nat_lt p c.size && is_kept rule c.boundary p

-- the structure has as many leaves as the list X and holds exactly the kept positions, each with its digest of X
pub record Agrees {D : Type 0} (h : Hashing D) (rule : List ℕ → List ℕ) (c : Contents D) (X : List D) : Type 0 where
  pub sized : c.size ≡ size rule (length X)
  pub bounded : c.boundary ≤ length X
  pub holds : (p : ℕ) → c.node p ≡ cond (is_kept rule c.boundary p) (slice_get (node_digests h rule X) p) None

-- the structure pruned to b, which changes nothing at or below its boundary
abbrev pub pruned : {D : Type 0} → (List ℕ → List ℕ) → ℕ → Contents D → Contents D
pruned rule b c = cond (nat_lt c.boundary b) (record { boundary = b; size = c.size; node = λ p. cond (is_kept rule b p) (c.node p) None }) c

-- the digests held at the peaks of n leaves, oldest first
abbrev pub held_peaks : {D : Type 0} → (List ℕ → List ℕ) → ℕ → Contents D → List D
held_peaks rule n c = flat_map (λ p. option_to_list (c.node p)) (peak_positions rule n)

-- the structure agrees with one of the lists
abbrev pub AgreesWithOne : {D : Type 0} → Hashing D → (List ℕ → List ℕ) → Contents D → List (List D) → Type 0
AgreesWithOne {D} h rule c ls = (i : ℕ) × (X : List D) × (slice_get ls i ≡ Some X) × Agrees h rule c X
