-- Statements about each list that a reader of nodes shows, and about ranges whose nodes it holds.
use Rattle.std.specs.Prelude.{◌≡◌, ℕ, ◌<◌, ◌≤◌, List, length, take, Option, Result, IfOk, IsOkUnless}
use Rattle.merkle_base.specs.Forest.{size}
use Rattle.merkle_base.specs.Hashing.{Hashing}
use Rattle.merkle_base.specs.Places.{peaks_of}
use Rattle.merkle_base.specs.Scheme.{Scheme}
use Rattle.merkle_base.specs.Shows.{Shows}
use Rattle.merkle_base.specs.declared.error.Error.{Error}
use Rattle.merkle_base.specs.declared.error.Error.TheVariants.{OutOfMemory}
use Rattle.merkle_claim_theory.specs.Multiproof.{IsHonestMulti, multi_positions}
use Rattle.merkle_scattered.specs.MultiPositions.{AreLocations}
use Rattle.merkle_scattered.specs.Positions.{range_positions}
use Rattle.merkle_proof.specs.RangePlans.{IsHonestProof}
use Rattle.merkle_proof.specs.declared.proof.Proof.{Proof}
use Rattle.merkle_verification.specs.ReaderProofs.{multi_list_input}
use Rattle.merkle_verification.specs.ReaderRefusals.{AreNodesHeld}

-- P of each list that a reader with m nodes shows
abbrev pub ForShown : {D : Type 0} → Hashing D → (rule : List ℕ → List ℕ) → (m : ℕ) → (ℕ → Option D) → (List D → Type 0) → Type 0
ForShown {D} h rule m node P = (X : List D) → Shows h rule m node X → P X

-- where a proof of a range is answered, it is the honest one of a list
abbrev pub IsHonestAnswer : {F D E Peaks Heights : Type 0} → Scheme D → (k a b : ℕ) → Result (Proof F D Peaks Heights) E → List D → Type 0
IsHonestAnswer s k a b answer X = IfOk answer (λ p. IsHonestProof s X k a b p)

-- where a proof of locations is answered, it is the honest one of a list
abbrev pub IsHonestMultiAnswer : {F D E Peaks Heights : Type 0} → Scheme D → (k : ℕ) → List ℕ → Result (Proof F D Peaks Heights) E → List D → Type 0
IsHonestMultiAnswer s k locations answer X = IfOk answer (λ p. IsHonestMulti s X k (multi_list_input p s.hashing X locations))

-- P, where a..b is a range of n leaves that a list may have with k inactive peaks, and each node that its proof reads is held
abbrev pub ForHistoricalRange : {D : Type 0} → (rule : List ℕ → List ℕ) → (max_leaves : ℕ) → (ℕ → Option D) → (n a b k : ℕ) → Type 0 → Type 0
ForHistoricalRange rule max_leaves node n a b k P =
    a < b → b ≤ n → n ≤ max_leaves → k ≤ length (peaks_of rule n) → AreNodesHeld node (range_positions rule n a b) → P

-- P, where a..b is a range of the leaves that m nodes have, a list may have as many with k inactive peaks, and each node that its proof
-- reads is held
abbrev pub ForReadRange : {D : Type 0} → (rule : List ℕ → List ℕ) → (max_leaves m : ℕ) → (ℕ → Option D) → (a b k : ℕ) → Type 0 → Type 0
ForReadRange rule max_leaves m node a b k P = (n : ℕ) → size rule n ≡ m → ForHistoricalRange rule max_leaves node n a b k P

-- P, where these are locations of leaves that m nodes have, a list may have as many with k inactive peaks, and each node that their proof
-- reads is held
abbrev pub ForReadLocations : {D : Type 0} → (rule : List ℕ → List ℕ) → (max_leaves m : ℕ) → (ℕ → Option D) → List ℕ → (k : ℕ) → Type 0 → Type 0
ForReadLocations rule max_leaves m node locations k P = (n : ℕ) → size rule n ≡ m → AreLocations max_leaves n locations
    → k ≤ length (peaks_of rule n) → AreNodesHeld node (multi_positions rule n locations) → P

-- where a proof of a range is answered, it is the honest one of each list that a reader with m nodes shows
abbrev pub IsHonestFor : {F D E Peaks Heights : Type 0} → Hashing D → Scheme D → (rule : List ℕ → List ℕ) → (m : ℕ) → (ℕ → Option D)
    → (k a b : ℕ) → Result (Proof F D Peaks Heights) E → Type 0
IsHonestFor h s rule m node k a b answer = ForShown h rule m node (IsHonestAnswer s k a b answer)

-- where a proof of a range is answered, it is the honest one of the first n leaves of each list that a reader with m nodes shows and that
-- has as many
abbrev pub IsHonestPast : {F D E Peaks Heights : Type 0} → Hashing D → Scheme D → (rule : List ℕ → List ℕ) → (m : ℕ) → (ℕ → Option D)
    → (n k a b : ℕ) → Result (Proof F D Peaks Heights) E → Type 0
IsHonestPast h s rule m node n k a b answer = ForShown h rule m node (λ xs. n ≤ length xs → IsHonestAnswer s k a b answer (take n xs))

-- where a proof of locations is answered, it is the honest one of each list that a reader with m nodes shows
abbrev pub IsHonestMultiFor : {F D E Peaks Heights : Type 0} → Scheme D → (m : ℕ) → (ℕ → Option D) → (k : ℕ) → List ℕ
    → Result (Proof F D Peaks Heights) E → Type 0
IsHonestMultiFor s m node k locations answer = ForShown s.hashing s.rule m node (IsHonestMultiAnswer s k locations answer)

-- a proof of a range of n leaves is answered, unless memory is refused, where the range fits and each node that it reads is held
abbrev pub GrantsHistorical : {F T D : Type 0} → (rule : List ℕ → List ℕ) → (max_leaves : ℕ) → (ℕ → Option D) → (n a b k : ℕ)
    → Result T (Error F) → Type 0
GrantsHistorical rule max_leaves node n a b k answer = ForHistoricalRange rule max_leaves node n a b k (IsOkUnless answer OutOfMemory)

-- a proof of a range of the leaves that m nodes have is answered, unless memory is refused, where the range fits and each node that it
-- reads is held
abbrev pub GrantsRange : {F T D : Type 0} → (rule : List ℕ → List ℕ) → (max_leaves m : ℕ) → (ℕ → Option D) → (a b k : ℕ)
    → Result T (Error F) → Type 0
GrantsRange rule max_leaves m node a b k answer = ForReadRange rule max_leaves m node a b k (IsOkUnless answer OutOfMemory)

-- a proof of locations of the leaves that m nodes have is answered, unless memory is refused, where the locations fit and each node that it
-- reads is held
abbrev pub GrantsLocations : {F T D : Type 0} → (rule : List ℕ → List ℕ) → (max_leaves m : ℕ) → (ℕ → Option D) → List ℕ → (k : ℕ)
    → Result T (Error F) → Type 0
GrantsLocations rule max_leaves m node locations k answer = ForReadLocations rule max_leaves m node locations k (IsOkUnless answer OutOfMemory)
