-- Small cases of audits: three leaves of which the first two are merged, with the exclusive or in the place of a hash.
use Rattle.std.specs.Prelude.{ℕ, List, [], ◌∷◌}
use Rattle.merkle_base.specs.Scheme.{Scheme}
use Rattle.merkle_root_theory.specs.Expression.{Input}
use Rattle.merkle_root_theory.specs.Check.{RangeInput, range_inputs}
use Rattle.merkle_root_theory.specs.Range.{list_inputs}
use Rattle.merkle_audit_theory.specs.Rows.{toy, paired}

-- the toy hash with up to three leaves, of which the first two are merged
abbrev pub merged : Scheme ℕ
merged = record toy { rule = paired }

-- what is hashed for the leaves 1, 3 and 7
abbrev pub listed : List (Input ℕ)
listed = list_inputs merged (1 ∷ 3 ∷ 7 ∷ []) 0

-- a proof for inactive count 0 with these digests, of these leaves from a location on
abbrev pub proof_of : (leaves start : ℕ) → (digests elements : List ℕ) → RangeInput ℕ
proof_of leaves start digests elements = record { leaves = leaves; inactive = 0; digests = digests; start = start; elements = elements }

-- what is hashed for a proof for inactive count 0 with these digests, of these leaves from a location on
abbrev pub hashed_for : (leaves start : ℕ) → (digests elements : List ℕ) → List (Input ℕ)
hashed_for leaves start digests elements = range_inputs merged (proof_of leaves start digests elements)
