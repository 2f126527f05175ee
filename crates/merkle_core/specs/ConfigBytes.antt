-- The bytes that spell the components of a structure, and what is wrong with bytes that begin with no spelling of them.
use Rattle.std.specs.Prelude.{◌≡◌, ℕ, ◌+◌, ◌*◌, ◌^◌, ◌<◌, ◌≤◌, ◌⊎◌, List, ◌++◌, length}
use Rattle.std.specs.List.{flat_map}
use Rattle.merkle_base.specs.declared.error.DecodeError.{DecodeError}
use Rattle.merkle_base.specs.declared.error.DecodeError.TheVariants.{Invalid, TooMany}
use Rattle.merkle_codec.specs.NumberSpelling.{number_spelling, IsRefusalFrom}
use Rattle.merkle_codec.specs.ProofSpelling.{IsDigestsRefusal}
use Rattle.merkle_core.specs.declared.components.Config.{Config}

-- the bytes of counted digests: their number, and the bytes of each
abbrev pub counted_spelling : {D : Type 0} → (D → List ℕ) → List D → List ℕ
counted_spelling bytes ds = number_spelling (length ds) ++ flat_map bytes ds

-- the bytes of the components of a structure: the pruning boundary, the counted pinned digests, and the counted nodes
abbrev pub components_spelling : {D : Type 0} → (D → List ℕ) → (boundary : ℕ) → (pins nodes : List D) → List ℕ
components_spelling bytes boundary pins nodes = number_spelling boundary ++ counted_spelling bytes pins ++ counted_spelling bytes nodes

-- the number of bytes of n counted digests of `size` bytes
abbrev pub counted_length : (size n : ℕ) → ℕ
counted_length size n = length (number_spelling n) + n * size

-- the number of bytes of components with this many pinned digests and nodes
abbrev pub components_length : (size boundary pins nodes : ℕ) → ℕ
components_length size boundary pins nodes = length (number_spelling boundary) + counted_length size pins + counted_length size nodes

-- the bytes of a configuration: its pruning boundary, its counted pinned digests, and its counted nodes
abbrev pub config_spelling : {F D Peaks Heights : Type 0} → (D → List ℕ) → Config F D Peaks Heights → List ℕ
config_spelling bytes c = components_spelling bytes c.pruning_boundary c.pinned_nodes.items c.nodes.items

-- one configuration, wherever its digests lie in memory
pub record SameConfig {F D Peaks Heights : Type 0} (c d : Config F D Peaks Heights) : Type 0 where
  pub boundary : c.pruning_boundary ≡ d.pruning_boundary
  pub pins : c.pinned_nodes.items ≡ d.pinned_nodes.items
  pub nodes : c.nodes.items ≡ d.nodes.items

-- a configuration is read under limits on the number of pinned digests and on that of nodes, which are of 64 bits
pub record IsReadableConfig {F D Peaks Heights : Type 0} (max_leaves most_pins most_nodes : ℕ) (c : Config F D Peaks Heights) : Type 0 where
  pub boundary : c.pruning_boundary ≤ max_leaves
  pub pins : length c.pinned_nodes.items ≤ most_pins
  pub nodes : length c.nodes.items ≤ most_nodes
  pub most_pins_fits : most_pins < 2 ^ 64
  pub most_nodes_fits : most_nodes < 2 ^ 64

-- bytes are refused where they should begin with n digests, or else after them
abbrev pub IsRefusalFromDigests : {D : Type 0} → (D → List ℕ) → (size : ℕ) → (List ℕ → Type 0) → (after : List ℕ → DecodeError → Type 0)
    → (n : ℕ) → List ℕ → DecodeError → Type 0
IsRefusalFromDigests {D} bytes size Spells after n b e =
    IsDigestsRefusal size Spells n b e ⊎ ((ds : List D) × (rest : List ℕ) × (length ds ≡ n) × (b ≡ flat_map bytes ds ++ rest) × after rest e)

-- bytes begin with no configuration: they are refused at the boundary, after it at the number of pinned digests or at these, or after them
-- at the number of nodes or at these
abbrev pub IsConfigRefusal : {D : Type 0} → (D → List ℕ) → (size : ℕ) → (List ℕ → Type 0) → (max_leaves most_pins most_nodes : ℕ)
    → List ℕ → DecodeError → Type 0
IsConfigRefusal bytes size Spells max_leaves most_pins most_nodes =
    IsRefusalFrom max_leaves Invalid (λ _. IsRefusalFrom most_pins TooMany (IsRefusalFromDigests bytes size Spells
    (IsRefusalFrom most_nodes TooMany (IsDigestsRefusal size Spells))))
