-- What is hashed by the checks: SHA-256, by family and bagging.
use Rattle.std.specs.Prelude.{ℕ, Bool, true, false, ◌^◌, ◌+◌}
use Rattle.merkle_forest_theory.specs.Mmb.{mmb_merges}
use Rattle.merkle_forest_theory.specs.Mmr.{mmr_merges}
use Rattle.merkle_sha256.specs.PlainHashings.{sha256_hashing}
use Rattle.merkle_base.specs.Scheme.{Scheme, scheme_of}
use Rattle.merkle_base.specs.declared.family.Bagging.{Bagging}
use Rattle.merkle_base.specs.declared.family.Bagging.TheVariants.{ForwardFold, BackwardFold}
use Rattle.merkle_sha256.specs.declared.sha256.Sha256Digest.{Sha256Digest}

-- the bagging that a flag names
abbrev pub bagging_of : (is_backward : Bool) → Bagging
bagging_of false = ForwardFold
bagging_of true = BackwardFold

-- the greatest leaf count of the family that a flag names: 2^62 of the Range, and 30 more of the Belt
abbrev pub max_leaves_of : (is_belt : Bool) → ℕ
max_leaves_of false = 2 ^ 62
max_leaves_of true = 2 ^ 62 + 30

-- the scheme that two flags name: the Range has the byte 0, and the Belt 1
abbrev pub sha256_scheme : (is_belt is_backward : Bool) → Scheme Sha256Digest
sha256_scheme false is_backward = scheme_of sha256_hashing (bagging_of is_backward) mmr_merges (2 ^ 62) 0
sha256_scheme true is_backward = scheme_of sha256_hashing (bagging_of is_backward) mmb_merges (2 ^ 62 + 30) 1
