-- The digests that are held at positions, written one by one.
use Rattle.std.proofs.Common.{◌≡◌, ℕ, ◌+◌, ◌<◌, ◌≤◌, List, ◌∷◌, ◌++◌, length, arith, sym, ap, ◌∙◌}
use Rattle.std.proofs.lemmas.Grind.{flat_map-append}
use Rattle.std.proofs.lemmas.List.{append_assoc, length-append}
use Rattle.std.specs.List.{flat_map}
use Rattle.std.specs.Option.{option_to_list}
use Rattle.std.specs.Prelude.{Result, Ok, Err, OnErr}
use Rattle.merkle_batch_theory.specs.Contents.{Contents}
use Rattle.merkle_batch_theory.specs.HeldPeaks.{held_at}
use Rattle.merkle_codec.specs.NumberSpelling.{number_spelling}
use Rattle.merkle_core.specs.ConfigBytes.{counted_spelling}

-- what holds, holds after an error
pub on_err : {T E : Type 0} (r : Result T E) (P : Type 0) → P → OnErr r P
on_err (Ok x) P p = tt
on_err (Err e) P p = p

module _ {D : Type 0} (bytes : D → List ℕ) (c : Contents D) where
  -- the bytes of what is held at positions
  abbrev pub held_bytes : List ℕ → List ℕ
  held_bytes ps = flat_map bytes (held_at c ps)

  -- the bytes of what is held at one of them
  abbrev pub node_bytes : ℕ → List ℕ
  node_bytes q = flat_map bytes (option_to_list (c.node q))

  first_bytes : (q : ℕ) (ps : List ℕ) → held_bytes (q ∷ ps) ≡ node_bytes q ++ held_bytes ps
  first_bytes q ps = flat_map-append bytes (option_to_list (c.node q)) (held_at c ps)

  -- their number is written
  pub begin_with : (old out : List ℕ) (count : ℕ) (ps qs : List ℕ) → out ≡ old ++ number_spelling count → count ≡ length (held_at c qs) → ps ≡ qs
      → out ++ held_bytes ps ≡ old ++ counted_spelling bytes (held_at c qs)
  begin_with old out count ps qs written many same =
      ap (λ rs. out ++ held_bytes rs) same ∙ ap (λ xs. xs ++ held_bytes qs) (written ∙ ap (λ n. old ++ number_spelling n) many)
      ∙ append_assoc old (number_spelling (length (held_at c qs))) (held_bytes qs)

  -- the next one is written
  pub write_on : (out new all : List ℕ) (q : ℕ) (ps : List ℕ) → out ++ held_bytes (q ∷ ps) ≡ all → new ≡ out ++ node_bytes q → new ++ held_bytes ps ≡ all
  write_on out new all q ps whole written =
      ap (λ xs. xs ++ held_bytes ps) written ∙ append_assoc out (node_bytes q) (held_bytes ps) ∙ ap (λ xs. out ++ xs) (sym (first_bytes q ps)) ∙ whole

  -- without room for the next one there is none for all
  pub no_room_on : (old out more : List ℕ) (q : ℕ) (ps : List ℕ) (len capacity later larger : ℕ) → len ≡ length old → later ≡ length out → out ++ held_bytes (q ∷ ps) ≡ old ++ more
      → capacity ≤ larger → larger < later + length (node_bytes q) → capacity < len + length more
  no_room_on old out more q ps len capacity later larger first now whole grown few =
      omega (
        arith,
        first,
        now,
        grown,
        few,
        ap length whole,
        length-append out (held_bytes (q ∷ ps)),
        ap length (first_bytes q ps),
        length-append (node_bytes q) (held_bytes ps),
        length-append old more,
      )

-- without room for the number of digests there is none for all
pub no_room_first : {D : Type 0} (bytes : D → List ℕ) (ds : List D) (len capacity count : ℕ) → count ≡ length ds → capacity < len + length (number_spelling count)
    → capacity < len + length (counted_spelling bytes ds)
no_room_first bytes ds len capacity count many few =
    omega (arith, few, ap (λ n. length (number_spelling n)) many, length-append (number_spelling (length ds)) (flat_map bytes ds))
