-- The digests of nodes after a batch's changes: new digests m of some of n leaves, by position, and digests ds of added leaves.
use Rattle.std.specs.Prelude.{◌≡◌, ℕ, ◌+◌, ◌-◌, ◌<◌, List, length, true, false, Bool, Option, Some, None, is_some, slice_get, cond, nat_le, ◌||◌}
use Rattle.std.specs.FinMap.{from_entries, get}
use Rattle.std.specs.Option.{option_or}
use Rattle.std.specs.Ordering.{nat_cmp}
use Rattle.merkle_base.specs.Tree.{Tree, leaf, join, position}
use Rattle.merkle_base.specs.Forest.{forest, size}
use Rattle.merkle_base.specs.Hashing.{Hashing}
use Rattle.merkle_batch_theory.specs.History.{is_dirty}
use Rattle.merkle_batch_theory.specs.Needed.{IsComputedChild, IsNeeded}
use Rattle.merkle_draft.specs.NodeErrors.{IsGapAt}
use Rattle.merkle_draft.specs.declared.node_error.NodeError.{NodeError}

-- f of two values, where there are both
abbrev pub of_both : {D : Type 0} → (D → D → D) → Option D → Option D → Option D
of_both f (Some a) (Some b) = Some (f a b)
of_both f (Some a) None = None
of_both f None b = None

-- whether the changes give the node a digest: it is new after n leaves, or a leaf under it has a new digest
abbrev pub is_written : {D : Type 0} → (List ℕ → List ℕ) → (ℕ → Option D) → ℕ → Tree → Bool
is_written rule m n t = nat_le (size rule n) (position t) || is_dirty m t

-- the digest of a node after the changes: of a leaf its own, of a merged node that is written what its children's make,
-- and of every other node what is read below
abbrev pub new_digest : {D : Type 0} → Hashing D → (List ℕ → List ℕ) → (m below : ℕ → Option D) → ℕ → List D → Tree → Option D
new_digest h rule m below n ds (leaf p k) = cond (nat_le (size rule n) p) (slice_get ds (k - n)) (option_or (m p) (below p))
new_digest h rule m below n ds (join p l r) =
    cond (is_written rule m n (join p l r)) (of_both (h.node p) (new_digest h rule m below n ds l) (new_digest h rule m below n ds r)) (below p)

-- the node t at position p is stored with its digest after the changes if it is written, and else not
abbrev pub IsStoredAfter : {D : Type 0} → Hashing D → (List ℕ → List ℕ) → (m below : ℕ → Option D) → ℕ → List D → (ℕ → Option D) → ℕ → Tree → Type 0
IsStoredAfter h rule m below n ds stored p t =
    (stored p ≡ cond (is_written rule m n t) (new_digest h rule m below n ds t) None)
    × (is_written rule m n t ≡ true → is_some (new_digest h rule m below n ds t) ≡ true)

-- exactly the written nodes of the forest of the n leaves and the added ones are stored, each with its digest after the changes
abbrev pub AreNewDigests : {D : Type 0} → Hashing D → (List ℕ → List ℕ) → (m below : ℕ → Option D) → ℕ → List D → (ℕ → Option D) → Type 0
AreNewDigests h rule m below n ds stored =
    (p : ℕ) (t : Tree) → slice_get (forest rule (n + length ds)).nodes p ≡ Some t → IsStoredAfter h rule m below n ds stored p t

-- the error names a node that the changes need and that is not there
abbrev pub LacksNeeded : {F D : Type 0} → (List ℕ → List ℕ) → (m below : ℕ → Option D) → ℕ → ℕ → NodeError F → Type 0
LacksNeeded rule m below n e g = (t : Tree) × IsNeeded rule m n e t × IsGapAt below (position t) g

-- the error names a child of a computed node that is old, has no leaf with a new digest, and is not there
abbrev pub LacksChild : {F D : Type 0} → (List ℕ → List ℕ) → (m below : ℕ → Option D) → ℕ → ℕ → NodeError F → Type 0
LacksChild rule m below n e g =
    (t : Tree) × IsComputedChild rule m n e t × (position t < size rule n) × (is_dirty m t ≡ false) × IsGapAt below (position t) g

-- the new digests of leaves that the entries of a map give, by position
abbrev pub updates_of : {D : Type 0} → List (ℕ × D) → ℕ → Option D
updates_of entries = get {R = nat_cmp} (from_entries entries)
