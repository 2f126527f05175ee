-- Small cases of pins: three leaves of which the first two are merged only with the third, with the exclusive or in the place of a hash.
use Rattle.std.specs.Prelude.{ℕ, List, [], ◌∷◌, ◌==◌, cond}
use Rattle.merkle_base.specs.Scheme.{Scheme}
use Rattle.merkle_root_theory.specs.Expression.{Input}
use Rattle.merkle_claim_theory.specs.Verdict.{pinned_inputs}
use Rattle.merkle_audit_theory.specs.Rows.{toy}

-- a merge rule: two peaks of one leaf once a newer leaf is there
abbrev pub late_pairs : List ℕ → List ℕ
late_pairs [] = []
late_pairs (h ∷ []) = []
late_pairs (h ∷ a ∷ []) = []
late_pairs (h ∷ a ∷ b ∷ hs) = cond (a == b) (1 ∷ []) []

-- up to three leaves, of which the first two are merged with the third, at position 3
abbrev pub late : Scheme ℕ
late = record toy { rule = late_pairs }

-- what is hashed for a proof of the last of three leaves, whose digest is 7, with the pins of the first two
abbrev pub hashed_with : (digests pins : List ℕ) → List (Input ℕ)
hashed_with digests pins = pinned_inputs late (record { leaves = 3; inactive = 0; digests = digests; start = 2; elements = 7 ∷ [] }) pins
