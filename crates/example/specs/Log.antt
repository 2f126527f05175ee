-- Logs: lists of entries, and what a client that trusts a root knows of them.
use Rattle.std.specs.Prelude.{◌≡◌, ◌≢◌, ℕ, ◌+◌, ◌≤◌, ◌⊎◌, Bool, IsTrue, List, length, take, Some, slice_get}
use Rattle.merkle_core.specs.Forest.{size}
use Rattle.merkle_core.specs.Places.{peaks_of}
use Rattle.merkle_core.specs.Root.{list_root}
use Rattle.merkle_core.specs.Scheme.{Scheme}
use Rattle.merkle_core.specs.LeafDigests.{leaf_digests}
use Rattle.merkle_core.specs.Check.{RangeInput}
use Rattle.merkle_core.specs.Range.{range_digests, RangeCollides}
use Rattle.merkle_core.specs.Pinned.{IsHonestPinned, PinnedCollides}

-- the leaf digests of a log's entries
abbrev pub leaves_of : {D : Type 0} → Scheme D → List (List ℕ) → List D
leaves_of s entries = leaf_digests s.hashing s.rule 0 entries

-- a log with this root, for a number of inactive peaks
pub record IsLogOf {D : Type 0} (s : Scheme D) (root : D) (entries : List (List ℕ)) (inactive : ℕ) : Type 0 where
  pub bounded : length entries ≤ s.max_leaves
  pub peaks : inactive ≤ length (peaks_of s.rule (length entries))
  pub root_is : list_root s (leaves_of s entries) inactive ≡ root

-- P of each log with this root
abbrev pub ForLogOf : {D : Type 0} → Scheme D → D → (List (List ℕ) → ℕ → Type 0) → Type 0
ForLogOf s root P = (entries : List (List ℕ)) (inactive : ℕ) → IsLogOf s root entries inactive → P entries inactive

-- the log has the entry at the location
abbrev pub HasEntry : List (List ℕ) → ℕ → List ℕ → Type 0
HasEntry entries location entry = slice_get entries location ≡ Some entry

-- the log has another entry at the location, with the leaf digest of this one
pub record HasTwin {D : Type 0} (s : Scheme D) (entries : List (List ℕ)) (location : ℕ) (entry : List ℕ) : Type 0 where
  pub other : List ℕ
  pub has_other : HasEntry entries location other
  pub differ : other ≢ entry
  pub one_digest : s.hashing.leaf (size s.rule location) other ≡ s.hashing.leaf (size s.rule location) entry

-- two different inputs have one digest at one place: the entry and the log's own, or what the check and the log hash above
abbrev pub EntryCollides : {D : Type 0} → Scheme D → RangeInput D → List ℕ → List (List ℕ) → ℕ → Type 0
EntryCollides s r entry entries inactive = HasTwin s entries r.start entry ⊎ RangeCollides s r (leaves_of s entries) inactive

-- a proof has the log's leaf count and inactive count, and the digests that the log has at what an entry doesn't tell
pub record IsHonestFor {D : Type 0} (s : Scheme D) (r : RangeInput D) (entries : List (List ℕ)) (inactive : ℕ) : Type 0 where
  pub leaves : r.leaves ≡ length entries
  pub inactive_peaks : r.inactive ≡ inactive
  pub digests : r.digests ≡ range_digests s (leaves_of s entries) inactive r.start (r.start + 1)

-- the log begins with `leaves` entries that have the old root, and the added ones, or twins of them, follow
pub record Extends {D : Type 0} (s : Scheme D) (old_root : D) (leaves inactive : ℕ) (added entries : List (List ℕ)) : Type 0 where
  pub long : leaves ≤ length entries
  pub before : IsLogOf s old_root (take leaves entries) inactive
  pub after : (i : ℕ) (entry : List ℕ) → HasEntry added i entry → HasEntry entries (leaves + i) entry ⊎ HasTwin s entries (leaves + i) entry

-- a check of one entry says yes only if each log with the root has the entry at its location, or inputs collide
abbrev pub IsSoundForLogs : {D : Type 0} → Scheme D → D → RangeInput D → (entry : List ℕ) → Bool → Type 0
IsSoundForLogs s root r entry accepts = IsTrue accepts → ForLogOf s root (λ entries k. HasEntry entries r.start entry ⊎ EntryCollides s r entry entries k)

-- a check of one entry says yes for an honest proof, if a log with the root has the entry at its location
abbrev pub IsCompleteForLogs : {D : Type 0} → Scheme D → D → RangeInput D → (entry : List ℕ) → Bool → Type 0
IsCompleteForLogs s root r entry accepts = ForLogOf s root (λ entries k. HasEntry entries r.start entry → IsHonestFor s r entries k → IsTrue accepts)

-- a check of growth says yes only if each log with the newer root begins with the old one, and the added entries follow, or inputs collide
abbrev pub IsSoundForGrowth : {D : Type 0} → Scheme D → (old_root : D) → (leaves inactive : ℕ) → D → RangeInput D → (pins : List D)
    → (added : List (List ℕ)) → Bool → Type 0
IsSoundForGrowth s old_root leaves inactive root r pins added accepts = IsTrue accepts
    → ForLogOf s root (λ entries k. Extends s old_root leaves inactive added entries ⊎ PinnedCollides s r pins (leaves_of s entries) k)

-- a check of growth says yes for an honest proof with honest pins, if a log with the newer root begins with the old one
abbrev pub IsCompleteForGrowth : {D : Type 0} → Scheme D → (old_root : D) → (leaves inactive : ℕ) → D → RangeInput D → (pins : List D)
    → Bool → Type 0
IsCompleteForGrowth s old_root leaves inactive root r pins accepts = ForLogOf s root (λ entries k. IsLogOf s old_root (take leaves entries) inactive
    → IsHonestPinned s (leaves_of s entries) k r pins → IsTrue accepts)
