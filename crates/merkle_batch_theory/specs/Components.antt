-- What a structure is that is made of given components.
use Rattle.std.specs.Prelude.{◌≡◌, ◌≢◌, ℕ, ◌+◌, ◌-◌, ◌^◌, ◌<◌, ◌≤◌, List, length, take, drop, zip, Result, Err}
use Rattle.merkle_base.specs.declared.error.Error.{Error}
use Rattle.merkle_base.specs.declared.error.Error.TheVariants.{InvalidSize, InvalidPinnedNodes}
use Rattle.merkle_base.specs.Forest.{size}
use Rattle.merkle_base.specs.Hashing.{Hashing}
use Rattle.merkle_base.specs.Digests.{node_digests, peak_digests}
use Rattle.merkle_base.specs.Places.{IsSize, peak_positions}
use Rattle.merkle_batch_theory.specs.Contents.{Contents, Agrees}
use Rattle.merkle_batch_theory.specs.MemModel.{MemModel, stored_of}

-- n leaves, pruned to b: the pins at the peaks of b leaves, and the nodes from the position of leaf b on
abbrev pub made_of : {D : Type 0} → (List ℕ → List ℕ) → (b n : ℕ) → (pins nodes : List D) → MemModel D
made_of rule b n pins nodes =
    record { boundary = b; leaves = n; size = size rule b + length nodes; stored = stored_of (zip (peak_positions rule b) pins) (size rule b) nodes }

-- these pins and nodes are the components of the list X at the boundary b
pub record AreComponents {D : Type 0} (h : Hashing D) (rule : List ℕ → List ℕ) (X : List D) (b : ℕ) (pins nodes : List D) : Type 0 where
  pub within : b ≤ length X
  pub peaks_are : pins ≡ peak_digests h rule (take b X)
  pub nodes_are : nodes ≡ drop (size rule b) (node_digests h rule X)

-- components with more nodes than any list has are refused by `InvalidSize` of the greatest number
abbrev pub RefusesTooLarge : {F D E : Type 0} → (rule : List ℕ → List ℕ) → (max_leaves max_nodes b : ℕ) → List D → Result E (Error F) → Type 0
RefusesTooLarge rule max_leaves max_nodes b nodes answer =
    b ≤ max_leaves → max_nodes < size rule b + length nodes → answer ≡ Err (InvalidSize (2 ^ 64 - 1))

-- components of which no list has the number of nodes are refused by `InvalidSize` of that number
abbrev pub RefusesNoSize : {F D E : Type 0} → (rule : List ℕ → List ℕ) → (max_leaves max_nodes b : ℕ) → List D → Result E (Error F) → Type 0
RefusesNoSize rule max_leaves max_nodes b nodes answer =
    let end = size rule b + length nodes in
    b ≤ max_leaves → end ≤ max_nodes → ((n : ℕ) → size rule n ≢ end) → answer ≡ Err (InvalidSize end)

-- components without exactly one pin for each peak of the b leaves before the boundary are refused by `InvalidPinnedNodes`
abbrev pub RefusesPins : {F D E : Type 0} → (rule : List ℕ → List ℕ) → (max_leaves b : ℕ) → (pins nodes : List D) → Result E (Error F) → Type 0
RefusesPins rule max_leaves b pins nodes answer =
    b ≤ max_leaves → IsSize rule max_leaves (size rule b + length nodes) → length pins ≢ length (peak_positions rule b) → answer ≡ Err InvalidPinnedNodes

-- P holds for components to which none of the three refusals applies
abbrev pub ForComponents : {D : Type 0} → (rule : List ℕ → List ℕ) → (max_leaves b : ℕ) → (pins nodes : List D) → Type 0 → Type 0
ForComponents rule max_leaves b pins nodes P =
    b ≤ max_leaves → IsSize rule max_leaves (size rule b + length nodes) → length pins ≡ length (peak_positions rule b) → P

-- the structure agrees with each list whose components at the boundary b these are
abbrev pub AgreesAsGiven : {D : Type 0} → (rule : List ℕ → List ℕ) → (b : ℕ) → (pins nodes : List D) → Contents D → Type 0
AgreesAsGiven {D} rule b pins nodes c = (h : Hashing D) (X : List D) → AreComponents h rule X b pins nodes → Agrees h rule c X
