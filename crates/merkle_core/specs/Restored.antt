-- What a structure is that is restored from components and a root, and why it is not.
use Rattle.std.specs.Prelude.{◌≡◌, ◌≢◌, ℕ, ◌+◌, ◌<◌, ◌≤◌, List, length, ◌⊎◌, Result, Err}
use Rattle.std.specs.FinMap.{get}
use Rattle.merkle_base.specs.Forest.{size}
use Rattle.merkle_base.specs.Places.{peaks_of, peak_positions}
use Rattle.merkle_base.specs.Root.{peaks_root}
use Rattle.merkle_base.specs.Scheme.{Scheme}
use Rattle.merkle_base.specs.declared.error.Error.{Error}
use Rattle.merkle_base.specs.declared.error.Error.TheVariants.{LocationOverflow, InvalidSize, InvalidPinnedNodes, InvalidInactivePeaks}
use Rattle.merkle_batch_theory.specs.Components.{made_of}
use Rattle.merkle_batch_theory.specs.Contents.{Agrees, held_peaks}
use Rattle.merkle_batch_theory.specs.MemModel.{MemModel, contents}
use Rattle.merkle_restore_theory.specs.Damage.{IsWhole}
use Rattle.merkle_restore_theory.specs.HeldRoot.{HeldCollides}
use Rattle.merkle_core.specs.declared.components.Config.{Config}
use Rattle.merkle_core.specs.declared.restore.RestoreError.{RestoreError}
use Rattle.merkle_core.specs.declared.restore.RestoreError.TheVariants as restore

-- the name that restoring gives to an error of making a structure or of its root
abbrev pub restore_error : {F : Type 0} → Error F → RestoreError F
restore_error (LocationOverflow l) = restore.LocationOverflow l
restore_error (InvalidSize m) = restore.InvalidSize m
restore_error InvalidPinnedNodes = restore.InvalidPinnedNodes
restore_error (InvalidInactivePeaks k count) = restore.InvalidInactivePeaks k count
restore_error e = restore.OutOfMemory

-- the structure of n leaves that the components in a configuration make
abbrev pub made_from : {F D Peaks Heights : Type 0} → (rule : List ℕ → List ℕ) → Config F D Peaks Heights → (n : ℕ) → MemModel D
made_from rule c n = made_of rule c.pruning_boundary n c.pinned_nodes.items c.nodes.items

-- P holds of the structure that the components in a configuration make, where they make one
abbrev pub ForMade : {F D Peaks Heights : Type 0} → (rule : List ℕ → List ℕ) → (max_leaves : ℕ) → Config F D Peaks Heights
    → (MemModel D → Type 0) → Type 0
ForMade rule max_leaves c P =
    let b = c.pruning_boundary in
    (n : ℕ) → b ≤ max_leaves → n ≤ max_leaves → size rule n ≡ size rule b + length c.nodes.items
    → length c.pinned_nodes.items ≡ length (peak_positions rule b) → P (made_from rule c n)

-- the root of a structure for k inactive peaks, by the digests that it holds at its peaks
abbrev pub held_root : {D : Type 0} → Scheme D → MemModel D → ℕ → D
held_root s m k = peaks_root s m.leaves k k (held_peaks s.rule m.leaves (contents m))

-- a structure has at least k peaks, no damaged node, and this root for k inactive peaks
pub record HasRootAndIsWhole {D : Type 0} (s : Scheme D) (k : ℕ) (root : D) (m : MemModel D) : Type 0 where
  pub enough : k ≤ length (peaks_of s.rule m.leaves)
  pub whole : IsWhole s.hashing s.rule m.leaves (get m.stored)
  pub root_is : held_root s m k ≡ root

-- a structure agrees with a list, or what it hashes to its root for k inactive peaks collides with the list for j of them
abbrev pub AgreesOrCollides : {D : Type 0} → Scheme D → (k : ℕ) → MemModel D → List D → ℕ → Type 0
AgreesOrCollides s k m X j = Agrees s.hashing s.rule (contents m) X ⊎ HeldCollides s (get m.stored) m.leaves k X j

-- the answer is this error, unless memory is refused
abbrev pub IsErrorUnlessMemory : {F T : Type 0} → Result T (RestoreError F) → RestoreError F → Type 0
IsErrorUnlessMemory answer e = answer ≢ Err restore.OutOfMemory → answer ≡ Err e
