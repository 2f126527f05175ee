-- What is held at a list of positions.
use Rattle.std.specs.Prelude.{ℕ, List, [], ◌∷◌, Some, None, flat_map}
use Rattle.std.specs.Option.{option_to_list}
use Rattle.merkle_batch_theory.specs.Contents.{Contents}

-- the digests held at these positions, in their order
abbrev pub held_at : {D : Type 0} → Contents D → List ℕ → List D
held_at c ps = flat_map (λ p. option_to_list (c.node p)) ps

-- the positions among these that are held, each with its digest, in their order
abbrev pub pins_of : {D : Type 0} → Contents D → List ℕ → List (ℕ × D)
pins_of c ps = flat_map (λ p. elim (c.node p) [ Some d ↦ (p, d) ∷ [] | None ↦ [] ]) ps
