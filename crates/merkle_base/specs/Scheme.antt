-- What digests, roots and proofs depend on: a family, and a hasher with its bagging.
use Rattle.std.specs.Prelude.{ℕ, List}
use Rattle.merkle_base.specs.declared.family.Bagging.{Bagging}
use Rattle.merkle_base.specs.Hashing.{Hashing}

-- a family's merge rule, greatest leaf count and byte, with a hasher's functions and bagging
pub record Scheme (D : Type 0) : Type 0 where
  pub hashing : Hashing D
  pub bagging : Bagging
  pub rule : List ℕ → List ℕ
  pub max_leaves : ℕ
  pub domain : ℕ

-- the scheme of a hasher's functions and bagging and a family's rule, greatest leaf count and byte
abbrev pub scheme_of : {D : Type 0} → Hashing D → Bagging → (List ℕ → List ℕ) → (max_leaves domain : ℕ) → Scheme D
scheme_of h bagging rule max_leaves domain = record { hashing = h; bagging = bagging; rule = rule; max_leaves = max_leaves; domain = domain }
