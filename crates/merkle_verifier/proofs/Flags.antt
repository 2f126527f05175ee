-- The scheme that two flags name.
use Rattle.std.proofs.Common.{◌≡◌, ◌+◌, ◌^◌, Bool, true, false, sym, subst}
use Rattle.merkle_base.specs.declared.family.Bagging.{Bagging}
use Rattle.merkle_forest_theory.specs.Mmb.{mmb_merges}
use Rattle.merkle_forest_theory.specs.Mmr.{mmr_merges}
use Rattle.merkle_base.specs.Scheme.{Scheme, scheme_of}
use Rattle.merkle_sha256.specs.declared.sha256.Sha256Digest.{Sha256Digest}
use Rattle.merkle_sha256.specs.PlainHashings.{sha256_hashing}
use Rattle.merkle_verifier.specs.Schemes.{bagging_of, sha256_scheme}

pub by_belt : (P : Scheme Sha256Digest → Type 0) (is_belt is_backward : Bool) (bagging : Bagging) → bagging ≡ bagging_of is_backward → is_belt ≡ true
    → P (scheme_of sha256_hashing bagging mmb_merges (2 ^ 62 + 30) 1) → P (sha256_scheme is_belt is_backward)
by_belt P is_belt is_backward bagging e b p =
    subst (λ f. P (sha256_scheme f is_backward)) (sym b) (subst (λ g. P (scheme_of sha256_hashing g mmb_merges (2 ^ 62 + 30) 1)) e p)

pub by_range : (P : Scheme Sha256Digest → Type 0) (is_belt is_backward : Bool) (bagging : Bagging) → bagging ≡ bagging_of is_backward → is_belt ≡ false
    → P (scheme_of sha256_hashing bagging mmr_merges (2 ^ 62) 0) → P (sha256_scheme is_belt is_backward)
by_range P is_belt is_backward bagging e b p =
    subst (λ f. P (sha256_scheme f is_backward)) (sym b) (subst (λ g. P (scheme_of sha256_hashing g mmr_merges (2 ^ 62) 0)) e p)
