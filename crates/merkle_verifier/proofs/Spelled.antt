-- Bytes that are read as a proof, or refused.
use Rattle.std.proofs.Common.{Bool, true, false, ◌≡◌, ◌≢◌, ◌⊎◌, ℕ, suc, ◌*◌, ◌-◌, ◌^◌, ◌<◌, ◌≤◌, List, [], ◌∷◌, ◌++◌, length, drop, arith, rules, refl, sym, ap}
use Rattle.std.proofs.Common.{◌∙◌, inl, inr, append-nil, length-append}
use Rattle.std.specs.Prelude.{◌==◌}
use Rattle.std.proofs.lemmas.List.{length-take-le, length-drop}
use Rattle.merkle_base.specs.declared.error.DecodeError.{DecodeError}
use Rattle.merkle_base.specs.declared.error.DecodeError.TheVariants.{EndOfBuffer, InvalidVarint, Invalid, TooMany, OutOfMemory}
use Rattle.merkle_codec.specs.NumberSpelling.{IsGroupRefusal, IsNumberRefusal, IsRefusalUpTo}
use Rattle.merkle_codec.specs.NumberLaws.{number_spelling_once, IsRefusalFrom_after}
use Rattle.merkle_codec.specs.NumberSpelling.{number_spelling, IsRefusalFrom}
use Rattle.merkle_codec.specs.ProofLaws.{length-digests, parts}
use Rattle.merkle_codec.specs.ProofSpelling.{parts_spelling, IsDigestsRefusal, IsProofReadRefusal}
use Rattle.merkle_sha256.specs.declared.sha256.Sha256Digest.{Sha256Digest}
use Rattle.merkle_verifier.specs.Answers.{out_of_memory, OfProof}
use Rattle.merkle_verifier.specs.Inputs.{digest_bytes, joined_digests, IsSpelled}
use Rattle.merkle_verifier.specs.Unread.{IsRefused, IsUnread, refused_answer}
use Rattle.merkle_verifier.specs.declared.read.ReadError.{ReadError}
use Rattle.merkle_verifier.specs.declared.read.ReadError.TheVariants as reading

-- a digest has 32 bytes
sized : (d : Sha256Digest) → length (digest_bytes d) ≡ 32
sized d = d.sized

-- so many digests are refused for want of memory alone: 32 bytes are always those of one
digests_refused : (ds : List Sha256Digest) (rest : List ℕ) (e : DecodeError) → IsDigestsRefusal 32 (λ b. length b ≡ 32) (length ds) (joined_digests ds ++ rest) e → e ≡ OutOfMemory
digests_refused ds rest e (inl few) = absurd (omega (arith, few.0, length-append (joined_digests ds) rest, length-digests digest_bytes 32 sized ds))
digests_refused ds rest e (inr (inl full)) = full.1
digests_refused ds rest e (inr (inr none)) =
    let bytes = joined_digests ds ++ rest in
    let (i, below, not) = none.1 in
    let left : length (drop (i * 32) bytes) ≡ length bytes - i * 32 = length-drop (i * 32) bytes in
    absurd (not (length-take-le 32 (drop (i * 32) bytes) (omega (arith, left, none.0, below))))

module _ (max_leaves : ℕ) (fits : max_leaves < 2 ^ 64) (proof : List ℕ) where
  -- bytes that are refused as a proof encode none
  refused_none : (e : DecodeError) → e ≢ OutOfMemory → IsProofReadRefusal 32 (λ b. length b ≡ 32) max_leaves (2 ^ 64 - 1) proof e
      → (n k : ℕ) (ds : List Sha256Digest) → ¬ (IsSpelled max_leaves proof n k ds)
  refused_none e memory h n k ds is =
      let below : 2 ^ 64 - 1 < 2 ^ 64 = omega arith in
      let small : k ≤ 2 ^ 64 - 1 = omega (arith, is.inactive_fits) in
      let few : length ds ≤ 2 ^ 64 - 1 = omega (arith, is.count_fits) in
      let bs = joined_digests ds ++ [] in
      let left = number_spelling (length ds) ++ bs in
      let whole : proof ≡ number_spelling n ++ (number_spelling k ++ left) = is.spelled ∙ sym (append-nil (parts_spelling digest_bytes n k ds)) ∙ parts digest_bytes n k ds [] in
      let at_count = IsRefusalFrom (2 ^ 64 - 1) TooMany (IsDigestsRefusal 32 (λ b. length b ≡ 32)) in
      let at_inactive = IsRefusalFrom (2 ^ 64 - 1) Invalid (λ _. at_count) in
      let first = IsRefusalFrom_after max_leaves Invalid (λ _. at_inactive) proof e h fits n (number_spelling k ++ left) is.leaves_fit whole in
      let second = IsRefusalFrom_after (2 ^ 64 - 1) Invalid (λ _. at_count) (number_spelling k ++ left) e first below k left small refl in
      let third = IsRefusalFrom_after (2 ^ 64 - 1) TooMany (IsDigestsRefusal 32 (λ b. length b ≡ 32)) left e second below (length ds) bs few refl in
      memory (digests_refused ds [] e third)

  -- nor do bytes that follow those of a proof belong to one
  trailing_none : (leaves inactive : ℕ) (digests : List Sha256Digest) (rest : List ℕ) → rest ≢ [] → proof ≡ parts_spelling digest_bytes leaves inactive digests ++ rest
      → (n k : ℕ) (ds : List Sha256Digest) → ¬ (IsSpelled max_leaves proof n k ds)
  trailing_none leaves inactive digests rest some e n k ds is =
      let whole = sym (parts digest_bytes leaves inactive digests rest) ∙ sym e ∙ is.spelled ∙ sym (append-nil (parts_spelling digest_bytes n k ds)) ∙ parts digest_bytes n k ds [] in
      let first = number_spelling_once leaves n _ _ whole in
      let second = number_spelling_once inactive k _ _ first.1 in
      let third = number_spelling_once (length digests) (length ds) _ _ second.1 in
      let same : length (joined_digests digests ++ rest) ≡ length (joined_digests ds ++ []) = ap length third.1 in
      nothing rest some (omega (
        arith,
        same,
        length-append (joined_digests digests) rest,
        length-append (joined_digests ds) [],
        length-digests digest_bytes 32 sized digests,
        length-digests digest_bytes 32 sized ds,
        third.0,
      ))
    where
      nothing : (rest : List ℕ) → rest ≢ [] → ¬ (length rest ≡ 0)
      nothing [] some e = some refl
      nothing (b ∷ bs) some e = search (rules, e)

  -- what is answered of bytes that are not read as a proof
  pub unread : (e : ReadError) → IsUnread max_leaves proof e → (P : (n k : ℕ) → List Sha256Digest → ℕ → Type 0) (answer : ℕ) → answer ≡ refused_answer e
      → (answer ≡ out_of_memory) ⊎ OfProof max_leaves proof P answer
  unread reading.EndOfBuffer h P answer a = inr (inl (a, refused_none EndOfBuffer (λ e. search (rules, e)) h))
  unread reading.InvalidVarint h P answer a = inr (inl (a, refused_none InvalidVarint (λ e. search (rules, e)) h))
  unread reading.Invalid h P answer a = inr (inl (a, refused_none Invalid (λ e. search (rules, e)) h))
  unread reading.OutOfMemory h P answer a = inl a
  unread reading.Trailing h P answer a = let (n, k, ds, rest, x, y, some, e) = h in inr (inl (a, trailing_none n k ds rest some e))

-- a number is never refused as too many
group_refusal : (before : ℕ) (b : List ℕ) (e : DecodeError) → IsGroupRefusal before b e → e ≢ TooMany
group_refusal before [] e is many = search (rules, is, many)
group_refusal before (group ∷ rest) e (inl is) many = search (rules, is.2, many)
group_refusal before (group ∷ rest) e (inr (inl is)) many = search (rules, is.2, many)
group_refusal before (group ∷ rest) e (inr (inr is)) many = group_refusal (suc before) rest e is.2 many

number_refusal : (b : List ℕ) (e : DecodeError) → IsNumberRefusal b e → e ≢ TooMany
unfolding IsNumberRefusal
number_refusal b e is many = group_refusal 0 b e is many

-- nor is one past a greatest number, which is refused as invalid
refusal_up_to : (greatest : ℕ) (b : List ℕ) (e : DecodeError) → IsRefusalUpTo greatest Invalid b e → e ≢ TooMany
refusal_up_to greatest b e (inl is) many = number_refusal b e is many
refusal_up_to greatest b e (inr is) many = search (rules, is.1, many)

-- nor are digests
digests_refusal : (n : ℕ) (b : List ℕ) (e : DecodeError) → IsDigestsRefusal 32 (λ d. length d ≡ 32) n b e → e ≢ TooMany
digests_refusal n b e (inl is) many = search (rules, is.1, many)
digests_refusal n b e (inr (inl is)) many = search (rules, is.1, many)
digests_refusal n b e (inr (inr is)) many = search (rules, is.2, many)

-- nor is a number of digests: none of 64 bits exceeds the greatest
count_refusal : (b : List ℕ) (e : DecodeError) → IsRefusalFrom (2 ^ 64 - 1) TooMany (IsDigestsRefusal 32 (λ d. length d ≡ 32)) b e → e ≢ TooMany
count_refusal b e (inl (inl is)) many = number_refusal b e is many
count_refusal b e (inl (inr is)) many = let (n, rest, small, spelled, above) = is.0 in absurd (omega (arith, small, above))
count_refusal b e (inr is) many = let (n, rest, small, spelled, after) = is in digests_refusal n rest e after.1 many

-- nor is what follows the leaf count: a number of inactive peaks, and the digests after it
inactive_refusal : (b : List ℕ) (e : DecodeError)
    → IsRefusalFrom (2 ^ 64 - 1) Invalid (λ _. IsRefusalFrom (2 ^ 64 - 1) TooMany (IsDigestsRefusal 32 (λ d. length d ≡ 32))) b e → e ≢ TooMany
inactive_refusal b e (inl is) many = refusal_up_to (2 ^ 64 - 1) b e is many
inactive_refusal b e (inr is) many = let (k, rest, small, spelled, after) = is in count_refusal rest e after.1 many

-- bytes of a proof are never refused because of too many digests
pub never_too_many : (max_leaves : ℕ) (proof : List ℕ) → ¬ (IsRefused max_leaves proof TooMany)
never_too_many max_leaves proof (inl is) = refusal_up_to max_leaves proof TooMany is refl
never_too_many max_leaves proof (inr is) = let (n, rest, small, spelled, after) = is in inactive_refusal rest TooMany after.1 refl

-- bytes that are tested for being none
pub no_bytes : (bytes : List ℕ) (test : Bool) → test ≡ (length bytes == 0) → test ≡ true → bytes ≡ []
no_bytes [] test is none = refl
no_bytes (b ∷ bytes) true is none = absurd (search (rules, is))
no_bytes (b ∷ bytes) false is none = absurd (search (rules, none))

pub some_bytes : (bytes : List ℕ) (test : Bool) → test ≡ (length bytes == 0) → test ≡ false → bytes ≢ []
some_bytes [] true is none e = absurd (search (rules, none))
some_bytes [] false is none e = absurd (search (rules, is))
some_bytes (b ∷ bytes) test is none e = search (rules, e)

-- as long as that
pub some_length : (bytes : List ℕ) (test : Bool) → test ≡ (length bytes == 0) → test ≡ false → ¬ (length bytes ≡ 0)
some_length [] true is none e = absurd (search (rules, none))
some_length [] false is none e = absurd (search (rules, is))
some_length (b ∷ bytes) test is none e = search (rules, e)
