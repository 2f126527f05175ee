-- The digests that are held at positions, read one by one.
use Rattle.std.proofs.Common.{◌≡◌, ℕ, suc, ◌+◌, ◌-◌, ◌<◌, List, ◌∷◌, ◌++◌, Option, None, arith, sym, ap, ◌∙◌}
use Rattle.std.proofs.lemmas.List.{append_assoc}
use Rattle.std.specs.List.{range_with_len}
use Rattle.std.specs.Option.{option_to_list}
use Rattle.merkle_batch_theory.specs.Contents.{Contents}
use Rattle.merkle_batch_theory.specs.HeldPeaks.{held_at}

-- the positions from a on are a and those after it
pub next_range : (a n : ℕ) → a < n → range_with_len a (n - a) ≡ a ∷ range_with_len (a + 1) (n - (a + 1))
next_range a n l = let one_more : n - a ≡ suc (n - (a + 1)) = omega (arith, l) in ap (range_with_len a) one_more

-- what is held at the next position is read
pub read_on : {D : Type 0} (c : Contents D) (items : List D) (q : ℕ) (ps : List ℕ) (o : Option D) → c.node q ≡ o
    → (items ++ option_to_list o) ++ held_at c ps ≡ items ++ held_at c (q ∷ ps)
read_on c items q ps o e = append_assoc items (option_to_list o) (held_at c ps) ∙ ap (λ r. items ++ (option_to_list r ++ held_at c ps)) (sym e)

-- nothing is held at the next position
pub skip_on : {D : Type 0} (c : Contents D) (items : List D) (q : ℕ) (ps : List ℕ) → c.node q ≡ None → items ++ held_at c ps ≡ items ++ held_at c (q ∷ ps)
skip_on c items q ps e = ap (λ r. items ++ (option_to_list r ++ held_at c ps)) (sym e)
