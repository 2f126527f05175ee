-- What the answers of the checks mean, of their arguments alone.
use Rattle.std.specs.Prelude.{◌≡◌, ◌≢◌, ◌<◌, ◌≤◌, ◌⊎◌, ℕ, List, [], ◌∷◌, length, take, Ok}
use Rattle.merkle_root_theory.specs.Check.{RangeInput}
use Rattle.merkle_claim_theory.specs.CheckAnswers.{GivesRoot}
use Rattle.merkle_range.specs.Input.{digest_input, leaf_digests}
use Rattle.merkle_proof.specs.Input.{multi_digest_input}
use Rattle.merkle_claim_theory.specs.Multiproof.{MultiInput, AcceptsMulti, IsHonestMulti, MultiCollides}
use Rattle.merkle_claim_theory.specs.Pinned.{AcceptsPinned, IsHonestPinned, PinnedCollides}
use Rattle.merkle_root_theory.specs.Range.{ForRootOf, IsHonestRange, RangeCollides}
use Rattle.merkle_root_theory.specs.Reconstruction.{reconstructed}
use Rattle.merkle_base.specs.Forest.{size}
use Rattle.merkle_base.specs.Places.{peaks_of}
use Rattle.merkle_base.specs.Root.{list_root}
use Rattle.merkle_base.specs.Scheme.{Scheme}
use Rattle.merkle_sha256.specs.declared.sha256.Sha256Digest.{Sha256Digest}
use Rattle.merkle_verifier.specs.Inputs.{digest_bytes, joined_digests, IsSpelled, IsCut, located, leaf_digests_at}

-- the answer to a proof that is accepted: 0, and every other number says that it is not
abbrev pub accepted : ℕ
accepted = 0

-- the answer to a proof that is checked and not accepted
abbrev pub rejected : ℕ
rejected = 1

-- the answer where the bytes of a proof encode none, or others follow
abbrev pub malformed : ℕ
malformed = 2

-- the answer where the bytes of a root, of pins, or of the digests of leaves, are not those of digests
abbrev pub not_a_digest : ℕ
not_a_digest = 3

-- the answer where the lengths of elements do not add up to that of their buffer, or where these, or the digests of leaves, are not as
-- many as the locations
abbrev pub wrong_lengths : ℕ
wrong_lengths = 4

-- the answer where a request for memory is refused; that it comes there alone is not said here
abbrev pub out_of_memory : ℕ
out_of_memory = 5

-- the answer on an input of a check: `accepted` if the check accepts it, and then it is, of each list with the root, the honest one
-- or collides with the list; else `rejected`, and then it is the honest one of no list with the root
abbrev pub Judges : {D : Type 0} → Scheme D → (root : D) → (Accepts : Type 0) → (IsHonest Collides : List D → ℕ → Type 0) → ℕ → Type 0
Judges s root Accepts IsHonest Collides answer =
    ((answer ≡ accepted) × Accepts × ForRootOf s root (λ xs k. IsHonest xs k ⊎ Collides xs k))
    ⊎ ((answer ≡ rejected) × (¬ Accepts) × ForRootOf s root (λ xs k. ¬ (IsHonest xs k)))

-- the answer on an input of the check of a range
abbrev pub JudgesRange : {D : Type 0} → Scheme D → D → RangeInput D → ℕ → Type 0
JudgesRange s root r = Judges s root (reconstructed s r ≡ Ok root) (λ xs k. IsHonestRange s xs k r) (λ xs k. RangeCollides s r xs k)

-- the answer on an input of the check of scattered leaves
abbrev pub JudgesMulti : {D : Type 0} → Scheme D → D → MultiInput D → ℕ → Type 0
JudgesMulti s root r = Judges s root (AcceptsMulti s r root) (λ xs k. IsHonestMulti s xs k r) (λ xs k. MultiCollides s r xs k)

-- a list has at least n leaves, and the first n have this root for j inactive peaks
pub record BeginsWith {D : Type 0} (s : Scheme D) (xs : List D) (n j : ℕ) (old : D) : Type 0 where
  pub long : n ≤ length xs
  pub enough : j ≤ length (peaks_of s.rule n)
  pub root_is : list_root s (take n xs) j ≡ old

-- the answer on an input of the check that a log grew: it is accepted if the pins give the old root and the range after the old
-- leaves is accepted with them; it is honest if the list begins with leaves that have the old root, and range and pins are the list's
abbrev pub JudgesGrowth : {D : Type 0} → Scheme D → (old : D) → (inactive : ℕ) → (pins : List D) → D → RangeInput D → ℕ → Type 0
JudgesGrowth s old inactive pins root r =
    Judges s root (GivesRoot s old r.start inactive pins × AcceptsPinned s r pins root)
    (λ xs k. BeginsWith s xs r.start inactive old × IsHonestPinned s xs k r pins) (λ xs k. PinnedCollides s r pins xs k)

-- the answer by the digest whose bytes are given, as P has it, or `not_a_digest` if they are those of none
abbrev pub OfDigest : List ℕ → (Sha256Digest → ℕ → Type 0) → ℕ → Type 0
OfDigest given P answer =
    ((answer ≡ not_a_digest) × ((d : Sha256Digest) → ¬ (digest_bytes d ≡ given)))
    ⊎ ((d : Sha256Digest) × (digest_bytes d ≡ given) × P d answer)

-- the answer by the digests whose bytes are given one after another, as P has it, or `not_a_digest` if they are those of no digests
abbrev pub OfDigests : List ℕ → (List Sha256Digest → ℕ → Type 0) → ℕ → Type 0
OfDigests given P answer =
    ((answer ≡ not_a_digest) × ((ds : List Sha256Digest) → ¬ (joined_digests ds ≡ given)))
    ⊎ ((ds : List Sha256Digest) × (joined_digests ds ≡ given) × P ds answer)

-- the answer by the elements that are given in one buffer with their lengths, as P has it, or `wrong_lengths` if they do not add up
abbrev pub OfElements : (lengths elements : List ℕ) → (List (List ℕ) → ℕ → Type 0) → ℕ → Type 0
OfElements lengths elements P answer =
    ((answer ≡ wrong_lengths) × ((parts : List (List ℕ)) → ¬ (IsCut lengths elements parts)))
    ⊎ ((parts : List (List ℕ)) × IsCut lengths elements parts × P parts answer)

-- the answer by as many locations as there are parts, as P has it, or `wrong_lengths` if there are not as many
abbrev pub OfAsMany : (locations parts : ℕ) → (ℕ → Type 0) → ℕ → Type 0
OfAsMany locations parts P answer = ((answer ≡ wrong_lengths) × (locations ≢ parts)) ⊎ ((locations ≡ parts) × P answer)

-- the answer by the proof that bytes encode, as P has it, or `malformed` if they encode none
abbrev pub OfProof : (max_leaves : ℕ) → List ℕ → ((leaves inactive : ℕ) → List Sha256Digest → ℕ → Type 0) → ℕ → Type 0
OfProof max_leaves proof P answer =
    ((answer ≡ malformed) × ((leaves inactive : ℕ) (digests : List Sha256Digest) → ¬ (IsSpelled max_leaves proof leaves inactive digests)))
    ⊎ ((leaves inactive : ℕ) × (digests : List Sha256Digest) × IsSpelled max_leaves proof leaves inactive digests × P leaves inactive digests answer)

-- the answer of the check of a range, by the digests of the root and of the leaves from `start` on, and the bytes of the proof
abbrev pub OfRange : Scheme Sha256Digest → Sha256Digest → (proof : List ℕ) → (start : ℕ) → (leaves : List Sha256Digest) → ℕ → Type 0
OfRange s root proof start leaves = OfProof s.max_leaves proof (λ n k ds. JudgesRange s root (digest_input n k ds start leaves))

-- the answer of the check of one element, by the bytes that it is given: first the root's are judged, then the proof's
abbrev pub IsElementAnswer : Scheme Sha256Digest → (root proof : List ℕ) → (location : ℕ) → (element : List ℕ) → ℕ → Type 0
IsElementAnswer s root proof location element answer =
    (answer ≡ out_of_memory)
    ⊎ OfDigest root (λ d. OfRange s d proof location (leaf_digests s.hashing s.rule location (element ∷ []))) answer

-- the answer of the check of one leaf's digest, by the bytes that it is given: first the root's are judged, then the digest's, then the
-- proof's
abbrev pub IsLeafDigestAnswer : Scheme Sha256Digest → (root proof : List ℕ) → (location : ℕ) → (digest : List ℕ) → ℕ → Type 0
IsLeafDigestAnswer s root proof location digest answer =
    (answer ≡ out_of_memory) ⊎ OfDigest root (λ d. OfDigest digest (λ leaf. OfRange s d proof location (leaf ∷ []))) answer

-- the answer of the check of a range, by the bytes that it is given: first the root's are judged, then the elements', then the proof's
abbrev pub IsRangeAnswer : Scheme Sha256Digest → (root proof : List ℕ) → (start : ℕ) → (elements lengths : List ℕ) → ℕ → Type 0
IsRangeAnswer s root proof start elements lengths answer =
    (answer ≡ out_of_memory)
    ⊎ OfDigest root (λ d. OfElements lengths elements (λ es. OfRange s d proof start (leaf_digests s.hashing s.rule start es))) answer

-- the answer of the check of a range of leaf digests, by the bytes that it is given: first the root's are judged, then the leaf digests',
-- then the proof's
abbrev pub IsRangeDigestsAnswer : Scheme Sha256Digest → (root proof : List ℕ) → (start : ℕ) → (digests : List ℕ) → ℕ → Type 0
IsRangeDigestsAnswer s root proof start digests answer =
    (answer ≡ out_of_memory) ⊎ OfDigest root (λ d. OfDigests digests (OfRange s d proof start)) answer

-- the answer of the check of scattered leaves, by the digests of the root and of the leaves at these locations, and the bytes of the proof
abbrev pub OfScattered : Scheme Sha256Digest → Sha256Digest → (proof locations : List ℕ) → (leaves : List Sha256Digest) → ℕ → Type 0
OfScattered s root proof locations leaves =
    OfProof s.max_leaves proof (λ n k ds. JudgesMulti s root (multi_digest_input n k ds (located locations leaves)))

-- the answer of the check of scattered leaves, by the bytes that it is given: first the root's are judged, then how many locations and
-- elements there are, then the elements', then the proof's
abbrev pub IsScatteredAnswer : Scheme Sha256Digest → (root proof locations elements lengths : List ℕ) → ℕ → Type 0
IsScatteredAnswer s root proof locations elements lengths answer =
    (answer ≡ out_of_memory)
    ⊎ OfDigest root (λ d. OfAsMany (length locations) (length lengths) (OfElements lengths elements (λ es.
    OfScattered s d proof locations (leaf_digests_at s.hashing s.rule locations es)))) answer

-- the answer of the check of scattered leaf digests, by the bytes that it is given: first the root's are judged, then the leaf digests',
-- then how many locations and leaf digests there are, then the proof's
abbrev pub IsScatteredDigestsAnswer : Scheme Sha256Digest → (root proof locations digests : List ℕ) → ℕ → Type 0
IsScatteredDigestsAnswer s root proof locations digests answer =
    (answer ≡ out_of_memory)
    ⊎ OfDigest root (λ d. OfDigests digests (λ leaves.
    OfAsMany (length locations) (length leaves) (OfScattered s d proof locations leaves))) answer

-- the answer of the check that a log grew, by the digests of its roots, of its pins and of the leaves that follow, and the bytes of the proof
abbrev pub OfAdded : Scheme Sha256Digest → (start inactive : ℕ) → (old : Sha256Digest) → (pins : List Sha256Digest) → (root : Sha256Digest)
    → (proof : List ℕ) → (leaves : List Sha256Digest) → ℕ → Type 0
OfAdded s start inactive old pins root proof leaves =
    OfProof s.max_leaves proof (λ n k ds. JudgesGrowth s old inactive pins root (digest_input n k ds start leaves))

-- the answer of the check that a log grew, by the digest of its newer root and the bytes of the rest, where memory is granted: first
-- the old root is judged, then the pins, then the elements, then the proof
abbrev pub OfGrowth : Scheme Sha256Digest → (leaves inactive : ℕ) → (old pins : List ℕ) → Sha256Digest
    → (proof elements lengths : List ℕ) → ℕ → Type 0
OfGrowth s leaves inactive old pins root proof elements lengths =
    OfDigest old (λ o. OfDigests pins (λ ps. OfElements lengths elements (λ es.
    OfAdded s leaves inactive o ps root proof (leaf_digests s.hashing s.rule leaves es))))

-- the answer of the check over leaf digests that a log grew, by the digest of its newer root and the bytes of the rest, where memory is
-- granted: first the old root is judged, then the pins, then the leaf digests, then the proof
abbrev pub OfGrowthDigests : Scheme Sha256Digest → (leaves inactive : ℕ) → (old pins : List ℕ) → Sha256Digest
    → (proof digests : List ℕ) → ℕ → Type 0
OfGrowthDigests s leaves inactive old pins root proof digests =
    OfDigest old (λ o. OfDigests pins (λ ps. OfDigests digests (OfAdded s leaves inactive o ps root proof)))

-- the answer of the check that a log grew, by the digest of its newer root and the bytes of the rest
abbrev pub IsPinnedAnswer : Scheme Sha256Digest → (leaves inactive : ℕ) → (old pins : List ℕ) → Sha256Digest
    → (proof elements lengths : List ℕ) → ℕ → Type 0
IsPinnedAnswer s leaves inactive old pins root proof elements lengths answer =
    (answer ≡ out_of_memory) ⊎ OfGrowth s leaves inactive old pins root proof elements lengths answer

-- the answer of the check over leaf digests that a log grew, by the digest of its newer root and the bytes of the rest
abbrev pub IsPinnedDigestsAnswer : Scheme Sha256Digest → (leaves inactive : ℕ) → (old pins : List ℕ) → Sha256Digest
    → (proof digests : List ℕ) → ℕ → Type 0
IsPinnedDigestsAnswer s leaves inactive old pins root proof digests answer =
    (answer ≡ out_of_memory) ⊎ OfGrowthDigests s leaves inactive old pins root proof digests answer

-- the answer of the check that a log grew, by the bytes that it is given: first the newer root's are judged, then the others
abbrev pub IsGrowthAnswer : Scheme Sha256Digest → (leaves inactive : ℕ) → (old pins root proof elements lengths : List ℕ) → ℕ → Type 0
IsGrowthAnswer s leaves inactive old pins root proof elements lengths answer =
    (answer ≡ out_of_memory) ⊎ OfDigest root (λ d. OfGrowth s leaves inactive old pins d proof elements lengths) answer

-- the answer of the check over leaf digests that a log grew, by the bytes that it is given: first the newer root's are judged, then the
-- others
abbrev pub IsGrowthDigestsAnswer : Scheme Sha256Digest → (leaves inactive : ℕ) → (old pins root proof digests : List ℕ) → ℕ → Type 0
IsGrowthDigestsAnswer s leaves inactive old pins root proof digests answer =
    (answer ≡ out_of_memory) ⊎ OfDigest root (λ d. OfGrowthDigests s leaves inactive old pins d proof digests) answer

-- the answer of hashing a leaf where its digest is written: 0
abbrev pub was_hashed : ℕ
was_hashed = 0

-- the answer of hashing a leaf where none of the family has the location
abbrev pub no_location : ℕ
no_location = 32

-- the answer of hashing a leaf, with the bytes that are there after it: `was_hashed`, and those of the digest of the leaf at this location
-- with this element, or else `no_location`
abbrev pub IsHashAnswer : Scheme Sha256Digest → (location : ℕ) → (element written : List ℕ) → ℕ → Type 0
IsHashAnswer s location element written answer =
    ((answer ≡ was_hashed) × (location < s.max_leaves) × (written ≡ digest_bytes (s.hashing.leaf (size s.rule location) element)))
    ⊎ ((answer ≡ no_location) × (s.max_leaves ≤ location))
