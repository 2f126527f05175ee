-- How many bytes a configuration has, and where its digests are refused.
use Rattle.std.proofs.Common.{◌≡◌, ℕ, ◌+◌, ◌*◌, ◌^◌, ◌<◌, ◌≤◌, List, ◌++◌, length, length-append, arith, inl, inr, refl}
use Rattle.std.specs.List.{flat_map}
use Rattle.std.specs.Prelude.{Result, Ok, Err, OnErr}
use Rattle.merkle_base.specs.declared.error.DecodeError.{DecodeError}
use Rattle.merkle_codec.specs.NumberSpelling.{number_spelling, IsRefusalFrom}
use Rattle.merkle_codec.specs.ProofLaws.{length-digests}
use Rattle.merkle_codec.specs.ProofSpelling.{IsDigestsRefusal}
use Rattle.merkle_core.specs.ConfigBytes.{counted_spelling, components_spelling, counted_length, components_length, IsRefusalFromDigests}

-- what follows from what holds after an error holds after it too
pub OnErr-weaker : {T E : Type 0} (P Q : Type 0) (r : Result T E) → (P → Q) → OnErr r P → OnErr r Q
OnErr-weaker P Q (Ok x) f h = tt
OnErr-weaker P Q (Err e) f h = f h

module _ {D : Type 0} (bytes : D → List ℕ) where
  -- how many bytes counted digests have
  pub length-counted : (size : ℕ) → ((x : D) → length (bytes x) ≡ size) → (ds : List D) → length (counted_spelling bytes ds) ≡ counted_length size (length ds)
  length-counted size sized ds = omega (arith, length-append (number_spelling (length ds)) (flat_map bytes ds), length-digests bytes size sized ds)

  -- how many components have
  pub length-components : (size : ℕ) → ((x : D) → length (bytes x) ≡ size) → (boundary : ℕ) (pins nodes : List D)
      → length (components_spelling bytes boundary pins nodes) ≡ components_length size boundary (length pins) (length nodes)
  length-components size sized boundary pins nodes =
      let p = counted_spelling bytes pins in
      let n = counted_spelling bytes nodes in
      let whole : length (components_spelling bytes boundary pins nodes) ≡ length (number_spelling boundary ++ p) + length n = length-append (number_spelling boundary ++ p) n in
      omega (arith, whole, length-append (number_spelling boundary) p, length-counted size sized pins, length-counted size sized nodes)

  module _ (size : ℕ) (Spells : List ℕ → Type 0) (after : List ℕ → DecodeError → Type 0) (limit : ℕ) (above : DecodeError) where
    -- what is refused at counted digests
    pub refused_at : (b : List ℕ) (e : DecodeError) → IsRefusalFrom limit above (IsDigestsRefusal size Spells) b e → IsRefusalFrom limit above (IsRefusalFromDigests bytes size Spells after) b e
    refused_at b e (inl h) = inl h
    refused_at b e (inr (n, rest, fits, at, h)) = inr (n, rest, fits, at, (h.0, inl h.1))

    -- and after them
    pub refused_after : (b : List ℕ) (e : DecodeError) (ds : List D) (rest : List ℕ) → length ds ≤ limit → length ds < 2 ^ 64
        → b ≡ number_spelling (length ds) ++ (flat_map bytes ds ++ rest) → after rest e
        → IsRefusalFrom limit above (IsRefusalFromDigests bytes size Spells after) b e
    refused_after b e ds rest few fits at h = inr (length ds, flat_map bytes ds ++ rest, fits, at, (few, inr (ds, rest, refl, refl, h)))
