-- What a batch adds, and what its proofs are.
use Rattle.std.specs.Prelude.{ℕ, List, Option, Result}
use Rattle.merkle_base.specs.Hashing.{Hashing}
use Rattle.merkle_base.specs.Scheme.{Scheme}
use Rattle.merkle_base.specs.declared.error.Error.{Error}
use Rattle.merkle_base.specs.declared.family.Bagging.{Bagging}
use Rattle.merkle_hasher.specs.LeafDigests.{leaf_digests}
use Rattle.merkle_batch_theory.specs.Contents.{Contents}
use Rattle.merkle_batch_theory.specs.ForLists.{ForHistoryOver}
use Rattle.merkle_batch_theory.specs.Read.{read_over}
use Rattle.merkle_batch_theory.specs.Records.{MerkleizedModel, records}
use Rattle.merkle_batch_theory.specs.Unmerkleized.{UnmerkleizedModel, leaf_total}
use Rattle.merkle_proof.specs.ProofRefusals.{RefusesLeaf, RefusesRange}
use Rattle.merkle_proof.specs.RangePlans.{IsBuiltLeaf, IsBuiltRange, IsProvedRange}
use Rattle.merkle_proof.specs.declared.proof.Proof.{Proof}

-- the leaf digests of elements after those of a batch
abbrev pub digests_after : {D : Type 0} → Hashing D → (rule : List ℕ → List ℕ) → UnmerkleizedModel D → List (List ℕ) → List D
digests_after h rule p elements = leaf_digests h rule (leaf_total p) elements

-- the node that a batch has at a position, or that its base has
abbrev pub node_over : {D : Type 0} → Contents D → MerkleizedModel D → ℕ → Option D
node_over c b = read_over (records b) c

-- the proof of leaf i is built from the nodes of a batch and of what it lies on
abbrev pub IsBuiltLeafOver : {F D Peaks Heights : Type 0} → Scheme D → Contents D → MerkleizedModel D → (k i : ℕ) → Proof F D Peaks Heights → Type 0
IsBuiltLeafOver s c m k i = IsBuiltLeaf s (node_over c m) k m.leaves i

-- the proof of the leaves from a on up to b is built from the nodes of a batch and of what it lies on
abbrev pub IsBuiltRangeOver : {F D Peaks Heights : Type 0} → Scheme D → Contents D → MerkleizedModel D → (k a b : ℕ) → Proof F D Peaks Heights → Type 0
IsBuiltRangeOver s c m k a b = IsBuiltRange s (node_over c m) k m.leaves a b

-- why a batch gives no proof of leaf i, memory aside
abbrev pub RefusesLeafOver : {F D : Type 0} → Bagging → (rule : List ℕ → List ℕ) → (max_leaves : ℕ) → Contents D → MerkleizedModel D
    → (i k : ℕ) → Error F → Type 0
RefusesLeafOver bagging rule max_leaves c m i k = RefusesLeaf bagging rule max_leaves m.leaves i k (node_over c m)

-- why a batch gives no proof of the leaves from a on up to b, memory aside
abbrev pub RefusesRangeOver : {F D : Type 0} → Bagging → (rule : List ℕ → List ℕ) → (max_leaves : ℕ) → Contents D → MerkleizedModel D
    → (a b k : ℕ) → Error F → Type 0
RefusesRangeOver bagging rule max_leaves c m a b k = RefusesRange bagging rule max_leaves m.leaves a b k (node_over c m)

-- what is answered for a range is the honest proof of the last list of each history of the batch
abbrev pub IsProvedOver : {F D E Peaks Heights : Type 0} → Hashing D → (rule : List ℕ → List ℕ) → Contents D → MerkleizedModel D
    → Scheme D → (k a b : ℕ) → Result (Proof F D Peaks Heights) E → Type 0
IsProvedOver h rule c m s k a b answer = ForHistoryOver h rule c m (IsProvedRange s k a b answer)
