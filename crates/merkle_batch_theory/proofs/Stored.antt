-- What a `Mem` holds at a position.
use Rattle.std.specs.Prelude.{Option, Some, None}
use Rattle.std.specs.Option.{option_copied}
use Rattle.std.specs.Slice.{IsItemAt}
use Rattle.std.proofs.lemmas.Option.{slice_get_past, slice_get_read}
use Rattle.std.proofs.Common.{◌≡◌, ℕ, suc, zero, ◌+◌, ◌-◌, ◌<◌, ◌≤◌, List, [], ◌∷◌, ◌++◌, length, Bool, true, false, cond, refl, sym, ◌∙◌, ap, arith, nat_eq, Bor}
use Rattle.std.proofs.lemmas.Bool.Decides.{nat_tests}
use Rattle.std.specs.Option.{option_or}
use Rattle.std.specs.Ordering.{nat_cmp}
use Rattle.std.specs.Cmp.{nat_cmp_total, unsigned_tied}
use Rattle.std.specs.Map.{lookup}
use Rattle.std.specs.List.{slice_get, range_with_len, zip}
use Rattle.std.specs.FinMap.{get, find, get-from_entries}
use Rattle.std.specs.BTreeMap.{is_at}
use Rattle.merkle_batch_theory.specs.MemModel.{stored_of}

-- the positions n, n + 1, .. with the digests
abbrev pub numbered : {D : Type 0} → ℕ → List D → List (ℕ × D)
numbered n ds = zip (range_with_len n (length ds)) ds

module _ {D : Type 0} where
  pub find_lookup : (p : ℕ) (es : List (ℕ × D)) → find nat_cmp p es ≡ lookup (nat_eq p) es
  find_lookup p [] = refl
  find_lookup p (e ∷ es) = λ i. cond (unsigned_tied p e.0 i) (Some e.1) (find_lookup p es i)

  pub lookup_at : (p : ℕ) (es : List (ℕ × D)) → lookup (is_at (nat_cmp p)) es ≡ lookup (nat_eq p) es
  lookup_at p [] = refl
  lookup_at p (e ∷ es) = λ i. cond (unsigned_tied p e.0 i) (Some e.1) (lookup_at p es i)

  pub lookup-append : (test : ℕ → Bool) (es fs : List (ℕ × D)) → lookup test (es ++ fs) ≡ option_or (lookup test es) (lookup test fs)
  lookup-append test [] fs = refl
  lookup-append test (e ∷ es) fs =
      elim (test e.0) as (λ b. cond b (Some e.1) (lookup test (es ++ fs)) ≡ option_or (cond b (Some e.1) (lookup test es)) (lookup test fs)) [
        | true ↦ refl
        | false ↦ lookup-append test es fs
      ]

  pub lookup_before : (p n : ℕ) (ds : List D) → p < n → lookup (nat_eq p) (numbered n ds) ≡ None
  lookup_before p n [] h = refl
  lookup_before p n (d ∷ ds) h = let e : nat_eq p n ≡ false = grind (arith, nat_tests) in rw e (lookup_before p (n + 1) ds (omega arith))

  pub lookup_from : (p n k : ℕ) (ds : List D) → p ≡ n + k → lookup (nat_eq p) (numbered n ds) ≡ slice_get ds k
  lookup_from p n k [] h = refl
  lookup_from p n zero (d ∷ ds) h = let e : nat_eq p n ≡ true = grind (arith, nat_tests) in rw e refl
  lookup_from p n (suc k) (d ∷ ds) h = let e : nat_eq p n ≡ false = grind (arith, nat_tests) in rw e (lookup_from p (n + 1) k ds (omega arith))

  pub held : (pins : List (ℕ × D)) (start : ℕ) (nodes : List D) (p : ℕ) → get (stored_of pins start nodes) p ≡ option_or (lookup (nat_eq p) pins) (lookup (nat_eq p) (numbered start nodes))
  held pins start nodes p = get-from_entries nat_cmp_total _ p ∙ find_lookup p _ ∙ lookup-append (nat_eq p) pins _

  -- before the start only a pin is held
  pub held_before : (pins : List (ℕ × D)) (start : ℕ) (nodes : List D) (p : ℕ) → p < start → get (stored_of pins start nodes) p ≡ lookup (nat_eq p) pins
  held_before pins start nodes p h =
      held pins start nodes p ∙ ap (option_or (lookup (nat_eq p) pins)) (lookup_before p start nodes h) ∙ elim (lookup (nat_eq p) pins) as (λ o. option_or o None ≡ o) [ Some x ↦ refl | None ↦ refl ]

  -- from the start on no pin hides a node
  pub held_from : (pins : List (ℕ × D)) (start : ℕ) (nodes : List D) (p : ℕ) → start ≤ p → lookup (nat_eq p) pins ≡ None → get (stored_of pins start nodes) p ≡ slice_get nodes (p - start)
  held_from pins start nodes p h none =
      held pins start nodes p ∙ ap (λ o. option_or o (lookup (nat_eq p) (numbered start nodes))) none ∙ lookup_from p start (p - start) nodes (omega arith)

pub get_reads : {X : Type 0} (xs : List X) (i : ℕ) (r : Option (Bor X)) → IsItemAt xs i r → option_copied r ≡ slice_get xs i
get_reads xs i None h = sym (slice_get_past xs i h.3)
get_reads xs i (Some x) h = sym (slice_get_read xs (length xs) i x.now refl h.3.0 h.1)
