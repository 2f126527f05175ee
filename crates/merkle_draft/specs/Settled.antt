-- Which nodes have their digest after the changes, while others are still to be computed.
use Rattle.std.specs.Prelude.{◌≡◌, ◌≢◌, ℕ, ◌+◌, ◌<◌, ◌≤◌, ◌⊎◌, List, [], ◌∷◌, ◌++◌, length, true, Option, Some, None, slice_get, cond, nat_lt}
use Rattle.std.specs.List.{Contains}
use Rattle.std.specs.Option.{option_or}
use Rattle.std.specs.FinMap.{get}
use Rattle.merkle_base.specs.Tree.{Tree, join, position, height}
use Rattle.merkle_base.specs.Forest.{forest, size}
use Rattle.merkle_base.specs.Hashing.{Hashing}
use Rattle.merkle_base.specs.Places.{HasInner}
use Rattle.merkle_batch_theory.specs.Contents.{Contents}
use Rattle.merkle_draft.specs.DraftReads.{DraftModel, below, stored_node}
use Rattle.merkle_draft.specs.Levels.{ArePlanned, from_height}
use Rattle.merkle_draft.specs.NewDigests.{AreNewDigests, IsStoredAfter, LacksChild, LacksNeeded, is_written, new_digest, updates_of}
use Rattle.merkle_draft.specs.declared.node_error.NodeError.{NodeError}
use Rattle.merkle_draft.specs.declared.node_error.NodeError.TheVariants.{OutOfMemory}

-- what a draft reads at position p: what it stores or, for old nodes, what lies below
abbrev pub draft_node : {D : Type 0} → DraftModel D → Contents D → ℕ → Option D
draft_node d base p = option_or (stored_node d p) (cond (nat_lt p d.before) (below d base p) None)

-- the other draft has the same old nodes below and as many appended ones
abbrev pub HasSameShape : {D : Type 0} → DraftModel D → DraftModel D → Type 0
HasSameShape old new = (new.before ≡ old.before) × (new.kept ≡ old.kept) × (length new.appended ≡ length old.appended)

-- the other draft overwrites nothing more from the end of the old nodes on
abbrev pub HasSameAfter : {D : Type 0} → DraftModel D → DraftModel D → Type 0
HasSameAfter old new = (p : ℕ) → old.before ≤ p → get new.overwritten p ≡ get old.overwritten p

-- the nodes that aren't still to be computed are stored as the changes have them
abbrev pub AreSettled : {D : Type 0} → Hashing D → (List ℕ → List ℕ) → (m below : ℕ → Option D) → ℕ → List D → List ℕ → (ℕ → Option D) → Type 0
AreSettled h rule m below n ds todo stored =
    (p : ℕ) (t : Tree) → slice_get (forest rule (n + length ds)).nodes p ≡ Some t → Contains todo p ⊎ IsStoredAfter h rule m below n ds stored p t

-- at p is a written parent node of height k, and its children aren't still to be computed
abbrev pub IsReady : {D : Type 0} → (List ℕ → List ℕ) → (ℕ → Option D) → ℕ → ℕ → ℕ → List ℕ → ℕ → Type 0
IsReady rule m n e k todo p =
    (l r : Tree) × (slice_get (forest rule e).nodes p ≡ Some (join p l r)) × (height (join p l r) ≡ k) × (is_written rule m n (join p l r) ≡ true)
    × (Contains todo (position l) → ⊥) × (Contains todo (position r) → ⊥)

-- the changes fit, the nodes at the positions of height k are ready, and all but these and later ones are settled
pub record IsStage {D : Type 0} (h : Hashing D) (rule : List ℕ → List ℕ) (max_leaves : ℕ) (m below : ℕ → Option D) (n : ℕ) (ds : List D)
    (before k : ℕ) (ps later : List ℕ) (stored : ℕ → Option D) : Type 0 where
  pub within : n + length ds ≤ max_leaves
  pub sized : size rule n ≡ before
  pub ready : (p : ℕ) → Contains ps p → IsReady rule m n (n + length ds) k (ps ++ later) p
  pub settled : AreSettled h rule m below n ds (ps ++ later) stored

-- at the positions are parent nodes of height k
abbrev pub AreInner : (List ℕ → List ℕ) → ℕ → ℕ → List ℕ → Type 0
AreInner rule max_leaves k ps = (p : ℕ) → Contains ps p → HasInner rule max_leaves p k

-- the positions are before the draft's end
abbrev pub AreStored : {D : Type 0} → DraftModel D → List ℕ → Type 0
AreStored d ps = (p : ℕ) → Contains ps p → p < d.before + length d.appended

-- from one draft to the other, whatever the changes, the nodes at these positions are settled
abbrev pub SettlesLevel : {D : Type 0} → Hashing D → (List ℕ → List ℕ) → ℕ → Contents D → ℕ → List ℕ → DraftModel D → DraftModel D → Type 0
SettlesLevel h rule max_leaves base k ps old new = (m : ℕ → Option _) (n : ℕ) (ds : List _) (later : List ℕ)
    → IsStage h rule max_leaves m (below old base) n ds old.before k ps later (stored_node old)
    → AreSettled h rule m (below old base) n ds later (stored_node new)

-- whatever the changes, the error names a child of one of a level's nodes that is not there
abbrev pub LacksForLevel : {F D : Type 0} → Hashing D → (List ℕ → List ℕ) → ℕ → Contents D → ℕ → List ℕ → DraftModel D → NodeError F → Type 0
LacksForLevel h rule max_leaves base k ps old e = (m : ℕ → Option _) (n : ℕ) (ds : List _) (later : List ℕ)
    → IsStage h rule max_leaves m (below old base) n ds old.before k ps later (stored_node old)
    → LacksChild rule m (below old base) n (n + length ds) e

-- the changes fit, the levels list the computed nodes from position a on, perhaps others too, and all that are not listed are settled
pub record IsReadyToCompute {D : Type 0} (h : Hashing D) (rule : List ℕ → List ℕ) (max_leaves : ℕ) (m below : ℕ → Option D) (n : ℕ) (ds : List D)
    (before a : ℕ) (ls : List (List ℕ)) (stored : ℕ → Option D) : Type 0 where
  pub within : n + length ds ≤ max_leaves
  pub sized : size rule n ≡ before
  pub planned : ArePlanned rule m n a (n + length ds) ls
  pub settled : AreSettled h rule m below n ds (from_height ls 0) stored

-- parents with the digests of their children as they are read
abbrev pub AreParents : {D : Type 0} → (List ℕ → List ℕ) → (ℕ → Option D) → List ℕ → List (ℕ × D × D) → Type 0
AreParents rule read [] [] = Unit {0}
AreParents rule read [] (g ∷ gs) = ⊥
AreParents rule read (p ∷ ps) [] = ⊥
AreParents rule read (p ∷ ps) (g ∷ gs) =
    (g.0 ≡ p) × ((e : ℕ) (l r : Tree) → slice_get (forest rule e).nodes p ≡ Some (join p l r) → (read (position l) ≡ Some g.1) × (read (position r) ≡ Some g.2))
    × AreParents rule read ps gs

-- the digests are those of the nodes at the positions after the changes, and these are written
abbrev pub AreAnswers : {D : Type 0} → Hashing D → (List ℕ → List ℕ) → (m below : ℕ → Option D) → ℕ → List D → List ℕ → List D → Type 0
AreAnswers h rule m below n ds ps xs =
    (i p : ℕ) (x : _) (t : Tree) → slice_get ps i ≡ Some p → slice_get xs i ≡ Some x → slice_get (forest rule (n + length ds)).nodes p ≡ Some t
    → (is_written rule m n t ≡ true) × (new_digest h rule m below n ds t ≡ Some x)

-- the draft `new` stores what follows from new digests of some of n leaves, and digests of added ones, over what `old` reads
abbrev pub StoresChanges : {D : Type 0} → Hashing D → (List ℕ → List ℕ) → Contents D → ℕ → List (ℕ × D) → List D → DraftModel D → DraftModel D → Type 0
StoresChanges h rule base n entries ds old new = AreNewDigests h rule (updates_of entries) (below old base) n ds (stored_node new)

-- the error names a node that the changes need, up to e leaves, and that is not there, unless memory was refused
abbrev pub LacksForChanges : {F D : Type 0} → (List ℕ → List ℕ) → Contents D → (n e : ℕ) → List (ℕ × D) → DraftModel D → NodeError F → Type 0
LacksForChanges rule base n e entries old error = error ≢ OutOfMemory → LacksNeeded rule (updates_of entries) (below old base) n e error
