-- Digests read by position from pairs.
use Rattle.std.specs.Prelude.{◌≡◌, ℕ, List, map, nat_eq, Option, Some}
use Rattle.std.specs.Map.{lookup}
use Rattle.merkle_base.specs.Hashing.{Hashing}
use Rattle.merkle_base.specs.declared.error.Error.{Error}
use Rattle.merkle_base.specs.declared.error.Error.TheVariants.{ElementPruned}
use Rattle.merkle_claim_theory.specs.Store.{read_pair}
use Rattle.merkle_store_theory.specs.StoreProof.{found_at}

-- a map's entries answer as the pairs do
abbrev pub AnswersPairs : {D : Type 0} → List (ℕ × D) → List (ℕ × D) → Type 0
AnswersPairs entries pairs = (p : ℕ) → lookup (nat_eq p) entries ≡ found_at pairs p

-- the digests at positions, read from pairs
abbrev pub read_all : {D : Type 0} → Hashing D → List (ℕ × D) → List ℕ → List D
read_all h pairs ps = map (λ p. read_pair h pairs p) ps

-- a position is given, and the refusal names it as pruned
abbrev pub IsPrunedAt : {F : Type 0} → Option ℕ → Error F → Type 0
IsPrunedAt o e = (p : ℕ) × (e ≡ ElementPruned p) × (o ≡ Some p)
