-- How a batch that is not merkleized yet changes, and what its merkleized form is.
use Rattle.std.specs.Prelude.{◌≡◌, ℕ, ◌<◌, ◌≤◌, ◌⊎◌, List, [], ◌∷◌, ◌++◌, length, slice_set, true, is_some}
use Rattle.std.specs.FinMap.{get}
use Rattle.merkle_base.specs.Forest.{size}
use Rattle.merkle_base.specs.Hashing.{Hashing}
use Rattle.merkle_base.specs.Tree.{Tree, position}
use Rattle.merkle_base.specs.declared.error.Error.{Error}
use Rattle.merkle_base.specs.declared.error.Error.TheVariants.{LocationOverflow, MissingNode, OutOfMemory}
use Rattle.merkle_batch_theory.specs.Contents.{Contents, AgreesWithOne}
use Rattle.merkle_batch_theory.specs.History.{IsHistory, last_list}
use Rattle.merkle_batch_theory.specs.Missing.{IsMissing}
use Rattle.merkle_batch_theory.specs.Needed.{computed_nodes}
use Rattle.merkle_batch_theory.specs.Records.{MerkleizedModel, after, records}
use Rattle.merkle_batch_theory.specs.Unmerkleized.{UnmerkleizedModel, kept, kept_lists, leaf_total, pending_list, with_entries}

-- b has these leaves after those of p
abbrev pub AddsLeaves : {D : Type 0} → (rule : List ℕ → List ℕ) → (p : UnmerkleizedModel D) → List D → (b : UnmerkleizedModel D) → Type 0
AddsLeaves {D} rule p digests b = (X : List D) → pending_list rule b X ≡ pending_list rule p X ++ digests

-- b makes the list of p, with the digest d for the leaf at location i
abbrev pub SetsLeaf : {D : Type 0} → (rule : List ℕ → List ℕ) → (p : UnmerkleizedModel D) → (i : ℕ) → D → (b : UnmerkleizedModel D) → Type 0
SetsLeaf {D} rule p i d b = (X : List D) → length X ≡ p.leaves_before → pending_list rule b X ≡ slice_set (pending_list rule p X) i d

-- b makes the list of p, with each of these entries set to its digest, one after another
abbrev pub SetsLeaves : {D : Type 0} → (rule : List ℕ → List ℕ) → (p : UnmerkleizedModel D) → List (ℕ × D) → (b : UnmerkleizedModel D) → Type 0
SetsLeaves {D} rule p us b = (X : List D) → length X ≡ p.leaves_before → pending_list rule b X ≡ with_entries (pending_list rule p X) us

-- why one leaf is not added to n: there are as many as there may be, or memory was refused
abbrev pub IsLeafRefusal : {F : Type 0} → (max_leaves n : ℕ) → Error F → Type 0
IsLeafRefusal max_leaves n e = ((e ≡ LocationOverflow max_leaves) × (n ≡ max_leaves)) ⊎ ((e ≡ OutOfMemory) × (n < max_leaves))

-- why leaves are not added, with which there would be n: these are too many, or memory was refused
abbrev pub IsLeavesRefusal : {F : Type 0} → (max_leaves n : ℕ) → Error F → Type 0
IsLeavesRefusal max_leaves n e = ((e ≡ LocationOverflow max_leaves) × (max_leaves < n)) ⊎ ((e ≡ OutOfMemory) × (n ≤ max_leaves))

-- the merkleized batch b has the base and the kept records of p
abbrev pub IsForkOf : {D : Type 0} → (p : UnmerkleizedModel D) → (b : MerkleizedModel D) → Type 0
IsForkOf p b = (b.base_size ≡ p.parent.base_size) × (b.boundary ≡ p.parent.boundary) × (b.ancestors ≡ kept p)

-- the merkleized batch b begins where the parent of p ends
abbrev pub BeginsAfter : {D : Type 0} → (p : UnmerkleizedModel D) → (b : MerkleizedModel D) → Type 0
BeginsAfter p b = (b.own.before ≡ after p.parent.own) × (b.own.peaks_before ≡ p.parent.own.peaks_after)

-- the merkleized batch b has the leaves of p with the added ones, and as many nodes as these leaves have
abbrev pub HasCounts : {D : Type 0} → (rule : List ℕ → List ℕ) → (p : UnmerkleizedModel D) → (b : MerkleizedModel D) → Type 0
HasCounts rule p b = (b.leaves ≡ leaf_total p) × (after b.own ≡ size rule (leaf_total p))

-- why p is not merkleized over a base: a node is missing, or memory was refused
abbrev pub IsMerkleizeRefusal : {F D : Type 0} → (rule : List ℕ → List ℕ) → (p : UnmerkleizedModel D) → Contents D → Error F → Type 0
IsMerkleizeRefusal rule p c e = (e ≡ OutOfMemory) ⊎ ((t : Tree) × (e ≡ MissingNode (position t)) × IsMissing rule p c t)

-- P holds of the lists that the parent has as its history, where the base agrees with one of those that the kept records start or end at
abbrev pub ForParent : {D : Type 0} → Hashing D → (rule : List ℕ → List ℕ) → (p : UnmerkleizedModel D) → Contents D → (List (List D) → Type 0) → Type 0
ForParent {D} h rule p c P = (ls : List (List D)) → IsHistory h rule (records p.parent) ls → AgreesWithOne h rule c (kept_lists p ls) → P ls

-- where the base agrees with one of the kept lists, these lists and then the last one with the changes of p are a history of b
abbrev pub GoesOn : {D : Type 0} → Hashing D → (rule : List ℕ → List ℕ) → (p : UnmerkleizedModel D) → Contents D → (b : MerkleizedModel D) → Type 0
GoesOn h rule p c b = ForParent h rule p c (λ ls. IsHistory h rule (records b) (kept_lists p ls ++ pending_list rule p (last_list ls) ∷ []))

-- no leaf with a new digest is before the boundary of the structure
abbrev pub AreUpdatesHeld : {D : Type 0} → (rule : List ℕ → List ℕ) → (p : UnmerkleizedModel D) → Contents D → Type 0
AreUpdatesHeld rule p c = (k : ℕ) → is_some (get p.overwritten (size rule k)) ≡ true → c.boundary ≤ k

-- P holds where no leaf with a new digest is before the boundary and the base agrees with one of the kept lists
abbrev pub ForUpdatesHeld : {D : Type 0} → Hashing D → (rule : List ℕ → List ℕ) → (p : UnmerkleizedModel D) → Contents D → Type 0 → Type 0
ForUpdatesHeld h rule p c P = ForParent h rule p c (λ ls. AreUpdatesHeld rule p c → P)

-- how many nodes a merkleize of p computes
abbrev pub computed_count : {D : Type 0} → (rule : List ℕ → List ℕ) → UnmerkleizedModel D → ℕ
computed_count rule p = length (computed_nodes rule (get p.overwritten) p.leaves_before (leaf_total p))
