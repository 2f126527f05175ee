-- Digests that are read one after another.
use Rattle.std.proofs.Common.{◌≡◌, ℕ, ◌+◌, ◌<◌, List, [], ◌∷◌, ◌++◌, length, arith, sym, ap, ◌∙◌, append-nil, append_assoc, length-append}
use Rattle.std.proofs.lemmas.Grind.{flat_map-append}
use Rattle.merkle_codec.specs.ProofLaws.{length-digests}
use Rattle.merkle_sha256.specs.declared.sha256.Sha256Digest.{Sha256Digest}
use Rattle.merkle_verifier.specs.Inputs.{digest_bytes, joined_digests}

-- one more digest
pub joined_more : (ds : List Sha256Digest) (d : Sha256Digest) (bytes rest front after : List ℕ) → joined_digests ds ++ rest ≡ bytes → rest ≡ front ++ after → digest_bytes d ≡ front
    → joined_digests (ds ++ d ∷ []) ++ after ≡ bytes
joined_more ds d bytes rest front after so_far split is =
    ap (λ b. b ++ after) (flat_map-append digest_bytes ds (d ∷ []))
    ∙ append_assoc (joined_digests ds) (digest_bytes d ++ []) after
    ∙ ap (λ b. joined_digests ds ++ (b ++ after)) (append-nil (digest_bytes d) ∙ is)
    ∙ ap (λ b. joined_digests ds ++ b) (sym split)
    ∙ so_far

-- bytes of which some are left, fewer than a digest has, are those of no digests
pub joined_none : (ds : List Sha256Digest) (bytes rest : List ℕ) → joined_digests ds ++ rest ≡ bytes → 0 < length rest → length rest < 32 → (es : List Sha256Digest) → ¬ (joined_digests es ≡ bytes)
joined_none ds bytes rest so_far some few es e =
    let there = length-digests digest_bytes 32 (λ d. d.sized) ds in
    let other = length-digests digest_bytes 32 (λ d. d.sized) es in
    let all : length (joined_digests ds) + length rest ≡ length (joined_digests es) = sym (length-append (joined_digests ds) rest) ∙ ap length (so_far ∙ sym e) in
    omega (arith, there, other, all, some, few)
