-- Statements about each list that a structure agrees with, or that a batch ends at.
use Rattle.std.specs.Prelude.{◌≡◌, ℕ, ◌<◌, ◌≤◌, List, [], ◌∷◌, length, Option, Some, Result, Ok, Err, slice_get}
use Rattle.merkle_base.specs.Digests.{node_digests}
use Rattle.merkle_base.specs.Hashing.{Hashing}
use Rattle.merkle_base.specs.Places.{peaks_of}
use Rattle.merkle_base.specs.Root.{list_root, peaks_root}
use Rattle.merkle_base.specs.Scheme.{Scheme}
use Rattle.merkle_base.specs.declared.error.Error.{Error}
use Rattle.merkle_base.specs.declared.error.Error.TheVariants.{InvalidInactivePeaks}
use Rattle.merkle_batch_theory.specs.Contents.{Contents, Agrees, AgreesWithOne}
use Rattle.merkle_batch_theory.specs.History.{IsHistory, last_list}
use Rattle.merkle_batch_theory.specs.Records.{MerkleizedModel, records}

-- P holds of each list that a structure agrees with
abbrev pub ForList : {D : Type 0} → Hashing D → (rule : List ℕ → List ℕ) → Contents D → (List D → Type 0) → Type 0
ForList {D} h rule c P = (X : List D) → Agrees h rule c X → P X

-- P holds of the last of the lists that a batch has as its history
abbrev pub ForHistory : {D : Type 0} → Hashing D → (rule : List ℕ → List ℕ) → MerkleizedModel D → (List D → Type 0) → Type 0
ForHistory {D} h rule b P = (ls : List (List D)) → IsHistory h rule (records b) ls → P (last_list ls)

-- P holds of the last of the lists that a batch has as its history, where the base agrees with one of these lists
abbrev pub ForHistoryOver : {D : Type 0} → Hashing D → (rule : List ℕ → List ℕ) → Contents D → MerkleizedModel D → (List D → Type 0) → Type 0
ForHistoryOver {D} h rule c b P = (ls : List (List D)) → IsHistory h rule (records b) ls → AgreesWithOne h rule c ls → P (last_list ls)

-- P holds where a structure agrees with a list of at least k peaks that has a leaf at i which was not pruned
abbrev pub ForHeldLeaf : {D : Type 0} → Hashing D → (rule : List ℕ → List ℕ) → Contents D → (k i : ℕ) → Type 0 → Type 0
ForHeldLeaf h rule c k i P = ForList h rule c (λ X. c.boundary ≤ i → i < length X → k ≤ length (peaks_of rule (length X)) → P)

-- P holds where a batch ends at a list of at least k peaks that has a leaf at i which its base did not prune
abbrev pub ForHeldLeafOver : {D : Type 0} → Hashing D → (rule : List ℕ → List ℕ) → Contents D → MerkleizedModel D → (k i : ℕ) → Type 0 → Type 0
ForHeldLeafOver h rule c b k i P =
    ForHistoryOver h rule c b (λ X. c.boundary ≤ i → i < length X → k ≤ length (peaks_of rule (length X)) → P)

-- P holds where a structure agrees with a list of at least k peaks that has leaves at a..b, of which none was pruned
abbrev pub ForHeldRange : {D : Type 0} → Hashing D → (rule : List ℕ → List ℕ) → Contents D → (k a b : ℕ) → Type 0 → Type 0
ForHeldRange h rule c k a b P =
    ForList h rule c (λ X. c.boundary ≤ a → a < b → b ≤ length X → k ≤ length (peaks_of rule (length X)) → P)

-- P holds where a batch ends at a list of at least k peaks that has leaves at a..b, of which its base pruned none
abbrev pub ForHeldRangeOver : {D : Type 0} → Hashing D → (rule : List ℕ → List ℕ) → Contents D → MerkleizedModel D → (k a b : ℕ) → Type 0 → Type 0
ForHeldRangeOver h rule c m k a b P =
    ForHistoryOver h rule c m (λ X. c.boundary ≤ a → a < b → b ≤ length X → k ≤ length (peaks_of rule (length X)) → P)

-- the batch has each list that a structure agrees with, twice, as its history: it changes nothing
abbrev pub BeginsAt : {D : Type 0} → (rule : List ℕ → List ℕ) → Contents D → MerkleizedModel D → Type 0
BeginsAt {D} rule c b = (h : Hashing D) (X : List D) → Agrees h rule c X → IsHistory h rule (records b) (X ∷ X ∷ [])

-- what is answered for a position is the digest there of the last of the lists that a batch has as its history
abbrev pub IsNodeAfter : {D : Type 0} → Hashing D → (rule : List ℕ → List ℕ) → MerkleizedModel D → ℕ → Option D → Type 0
IsNodeAfter {D} h rule b p answer =
    (ls : List (List D)) (d : D) → IsHistory h rule (records b) ls → answer ≡ Some d → slice_get (node_digests h rule (last_list ls)) p ≡ Some d

-- the root of n leaves for k inactive peaks, if they have as many, by the digests of their peaks
abbrev pub IsPeaksRoot : {F D : Type 0} → Scheme D → (rule : List ℕ → List ℕ) → (n k : ℕ) → List D → Result D (Error F) → Type 0
IsPeaksRoot s rule n k peaks answer = k ≤ length (peaks_of rule n) → answer ≡ Ok (peaks_root s n k k peaks)

-- the root of a list
abbrev pub IsListRoot : {F D : Type 0} → Scheme D → (rule : List ℕ → List ℕ) → (k : ℕ) → Result D (Error F) → List D → Type 0
IsListRoot s rule k answer X = k ≤ length (peaks_of rule (length X)) → answer ≡ Ok (list_root s X k)

-- the refusal of more inactive peaks than the list has
abbrev pub IsPeaksRefusal : {F D E : Type 0} → (rule : List ℕ → List ℕ) → (k : ℕ) → Result E (Error F) → List D → Type 0
IsPeaksRefusal rule k answer X = let count = length (peaks_of rule (length X)) in count < k → answer ≡ Err (InvalidInactivePeaks k count)
