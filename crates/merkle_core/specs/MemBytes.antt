-- The bytes that spell a structure: those of its components.
use Rattle.std.specs.Prelude.{◌≡◌, ℕ, ◌+◌, ◌-◌, List, ◌++◌, length}
use Rattle.std.specs.List.{range_with_len}
use Rattle.merkle_base.specs.Forest.{size}
use Rattle.merkle_base.specs.Places.{peak_positions}
use Rattle.merkle_batch_theory.specs.Components.{made_of}
use Rattle.merkle_batch_theory.specs.HeldPeaks.{held_at}
use Rattle.merkle_batch_theory.specs.MemModel.{MemModel, contents}
use Rattle.merkle_core.specs.ConfigBytes.{components_spelling}

-- the digests that a structure holds of the peaks over the leaves before its boundary
abbrev pub held_pins : {D : Type 0} → (List ℕ → List ℕ) → MemModel D → List D
held_pins rule s = held_at (contents s) (peak_positions rule s.boundary)

-- the digests that a structure holds of the nodes from the position of its boundary on
abbrev pub held_nodes : {D : Type 0} → (List ℕ → List ℕ) → MemModel D → List D
held_nodes rule s = held_at (contents s) (range_with_len (size rule s.boundary) (s.size - size rule s.boundary))

-- the bytes of a structure: its pruning boundary, its counted pins, and its counted nodes
abbrev pub mem_spelling : {D : Type 0} → (List ℕ → List ℕ) → (D → List ℕ) → MemModel D → List ℕ
mem_spelling rule bytes s = components_spelling bytes s.boundary (held_pins rule s) (held_nodes rule s)

-- two structures have the same components
pub record SameComponents {D : Type 0} (rule : List ℕ → List ℕ) (s t : MemModel D) : Type 0 where
  pub boundary : s.boundary ≡ t.boundary
  pub pins : held_pins rule s ≡ held_pins rule t
  pub nodes : held_nodes rule s ≡ held_nodes rule t

-- what is made of components that the bytes of a structure spell is that structure
abbrev pub MakesAgain : {D : Type 0} → (List ℕ → List ℕ) → (D → List ℕ) → MemModel D → Type 0
MakesAgain {D} rule bytes s = (b n : ℕ) (pins nodes : List D) (rest more : List ℕ)
    → components_spelling bytes b pins nodes ++ rest ≡ mem_spelling rule bytes s ++ more → size rule n ≡ size rule b + length nodes
    → made_of rule b n pins nodes ≡ s
