-- A structure has one spelling, and no spelling begins another.
use Rattle.std.proofs.Common.{◌≡◌, ℕ, List, ◌++◌, length}
use Rattle.merkle_batch_theory.specs.MemModel.{MemModel}
use Rattle.merkle_core.specs.ConfigLaws.{components_once}
use Rattle.merkle_core.specs.MemBytes.{held_pins, held_nodes, mem_spelling, SameComponents}

-- structures whose spellings begin the same bytes have the same components, and the same bytes follow
pub mem_spelling_once : {D : Type 0} (bytes : D → List ℕ) (size : ℕ) → ((x : D) → length (bytes x) ≡ size) → ((x y : D) → bytes x ≡ bytes y → x ≡ y)
    → (rule : List ℕ → List ℕ) (s t : MemModel D) (r q : List ℕ)
    → mem_spelling rule bytes s ++ r ≡ mem_spelling rule bytes t ++ q → SameComponents rule s t × (r ≡ q)
mem_spelling_once bytes size sized decide rule s t r q e =
    let same = components_once bytes size sized decide s.boundary t.boundary
    (held_pins rule s) (held_pins rule t) (held_nodes rule s) (held_nodes rule t) r q e in
    (record { boundary = same.0; pins = same.1; nodes = same.2 }, same.3)
