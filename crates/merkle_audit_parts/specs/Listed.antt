-- What is hashed for a list, as an audit computes it.
use Rattle.std.specs.Prelude.{◌≡◌, ◌≤◌, ◌<◌, ℕ, List, [], ◌∷◌, length, map, Result, Ok, Err, IfOk}
use Rattle.std.specs.Option.{unwrap_or}
use Rattle.merkle_base.specs.Digests.{peak_digests}
use Rattle.merkle_base.specs.Hashing.{Hashing}
use Rattle.merkle_base.specs.Places.{peaks_of}
use Rattle.merkle_base.specs.Root.{list_root}
use Rattle.merkle_base.specs.Scheme.{Scheme}
use Rattle.merkle_base.specs.declared.error.Error.{Error}
use Rattle.merkle_base.specs.declared.error.Error.TheVariants.{InvalidInactivePeaks}
use Rattle.merkle_batch_theory.specs.History.{IsHistory}
use Rattle.merkle_batch_theory.specs.Read.{newest}
use Rattle.merkle_batch_theory.specs.Records.{MerkleizedModel, records}
use Rattle.merkle_hasher.specs.Subtrees.{subtree_of}
use Rattle.merkle_hasher.specs.declared.subtree.Subtree.{Subtree}
use Rattle.merkle_audit_theory.specs.Folds.{top_inputs}
use Rattle.merkle_audit_parts.specs.declared.list.HashedList.{HashedList}
use Rattle.merkle_walks.specs.declared.top.Top.{Top}
use Rattle.merkle_walks.specs.Hashed.{top_of}

-- the digest of a node of a batch, or `none` where it has no such node
abbrev pub digest_in : {D : Type 0} → D → MerkleizedModel D → ℕ → D
digest_in none b p = unwrap_or (newest (records b) p) none

-- the batch has all leaves of a list, and began at the structure without leaves
pub record IsOfList {D : Type 0} (h : Hashing D) (rule : List ℕ → List ℕ) (b : MerkleizedModel D) (X : List D) : Type 0 where
  pub leaves : b.leaves ≡ length X
  pub history : IsHistory h rule (records b) ([] ∷ X ∷ [])

-- P of each list that a batch has all leaves of
abbrev pub ForListed : {D : Type 0} → Scheme D → MerkleizedModel D → (List D → Type 0) → Type 0
ForListed {D} s b P = (X : List D) → IsOfList s.hashing s.rule b X → P X

-- where a list has at least k peaks, what is answered is its root for k inactive peaks
abbrev pub GivesListRoot : {F D : Type 0} → Scheme D → (k : ℕ) → Result D (Error F) → List D → Type 0
GivesListRoot s k answer X = k ≤ length (peaks_of s.rule (length X)) → answer ≡ Ok (list_root s X k)

-- where a list has fewer than k peaks, what is answered is the refusal that tells both numbers
abbrev pub RefusesListRoot : {F D : Type 0} → Scheme D → (k : ℕ) → Result D (Error F) → List D → Type 0
RefusesListRoot s k answer X =
    length (peaks_of s.rule (length X)) < k → answer ≡ Err (InvalidInactivePeaks k (length (peaks_of s.rule (length X))))

-- for the peaks of a list, what is answered is the string of its root and its folds, for k inactive peaks
abbrev pub GivesListTop : {F D E : Type 0} → Scheme D → (k : ℕ) → List (Subtree F) → Result (Top F D) E → List D → Type 0
GivesListTop s k peaks answer X = peaks ≡ map subtree_of (peaks_of s.rule (length X))
    → IfOk answer (λ t. top_of t ≡ top_inputs s (length X) k (peak_digests s.hashing s.rule X))

-- a list's root for k inactive peaks, and all that is hashed for it
pub record IsHashedList {F D P Q : Type 0} (s : Scheme D) (X : List D) (k : ℕ) (l : HashedList F D P Q) : Type 0 where
  pub few : length X ≤ s.max_leaves
  pub low : k ≤ length (peaks_of s.rule (length X))
  pub root : l.root ≡ list_root s X k
  pub top : top_of l.top ≡ top_inputs s (length X) k (peak_digests s.hashing s.rule X)
  pub nodes : IsOfList s.hashing s.rule l.nodes.nodes.value X
  pub peaks : l.peaks.items ≡ map subtree_of (peaks_of s.rule (length X))
