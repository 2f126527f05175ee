-- Which positions hold a node.
use Rattle.std.proofs.Common.{◌≡◌, ℕ, suc, ◌+◌, ◌-◌, ◌≤◌, List, [], ◌∷◌, ◌++◌, length, Bool, true, false, Option, Some, None, cond, arith, refl, sym, ap, ◌∙◌, zip, inl, inr, ltb, length-append}
use Rattle.std.specs.Prelude.{is_some, nat_lt, slice_get, flat_map, ◌&&◌}
use Rattle.std.specs.FinMap.{get}
use Rattle.std.specs.Option.{option_to_list}
use Rattle.std.proofs.Math.Bool.{and-false, and-true}
use Rattle.std.proofs.lemmas.Bool.{cases_lt, lt-ltb, le-ltb, lt-leb, ltb-true}
use Rattle.std.proofs.lemmas.Option.{slice_get_past, slice_get-get_or}
use Rattle.merkle_base.specs.Forest.{size}
use Rattle.merkle_base.specs.Places.{peak_positions}
use Rattle.merkle_base.proofs.Cases.{by_test}
use Rattle.merkle_base.proofs.Nodes.{size_le}
use Rattle.merkle_batch_theory.specs.Contents.{Contents, HoldsKept, held_peaks, is_kept, pruned}
use Rattle.merkle_batch_theory.specs.Held.{Held, held_contents, overwritten_by}
use Rattle.merkle_batch_theory.specs.Records.{RecordModel}
use Rattle.merkle_batch_theory.specs.Replay.{with_records, with_record}
use Rattle.merkle_batch_theory.specs.MemModel.{stored_of}
use Rattle.merkle_batch_theory.proofs.HeldNodes.{peak_below, stored_at, stored_reads}
use Rattle.merkle_batch_theory.proofs.Kept.{kept_before, kept_from}
use Rattle.merkle_batch_theory.proofs.PinFacts.{lookup_zip, zip_before}
use Rattle.merkle_batch_theory.proofs.Pruning.{peak_kept}

-- an element is there exactly below the length
pub some_below : {X : Type 0} (xs : List X) (i : ℕ) → is_some (slice_get xs i) ≡ nat_lt i (length xs)
some_below {X} [] i = ap (is_some {T = X}) (slice_get_past [] i (omega arith)) ∙ sym (le-ltb i 0 (omega arith))
some_below {X} (x ∷ xs) i = elim (cases_lt i (length (x ∷ xs))) [
  | inl h ↦ ap is_some (slice_get-get_or (x ∷ xs) i x h) ∙ sym (lt-ltb i (length (x ∷ xs)) h)
  | inr h ↦ ap is_some (slice_get_past (x ∷ xs) i h) ∙ sym (le-ltb i (length (x ∷ xs)) h)
]

-- a test of a place from n on
shifted : (n m p : ℕ) → n ≤ p → nat_lt (p - n) m ≡ nat_lt p (n + m)
shifted n m p l = elim (cases_lt p (n + m)) [
  | inl h ↦ lt-ltb (p - n) m (omega (arith, h, l)) ∙ sym (lt-ltb p (n + m) h)
  | inr h ↦ le-ltb (p - n) m (omega (arith, h, l)) ∙ sym (le-ltb p (n + m) h)
]

some_over : {D : Type 0} (newer o : Option D) → is_some (overwritten_by newer o) ≡ is_some o
some_over newer None = refl
some_over newer (Some d) = refl

some_cond : {D : Type 0} (b : Bool) (o : Option D) → is_some (cond b o None) ≡ b && is_some o
some_cond true o = refl
some_cond false o = refl

-- ---- no leaves, and components
pub nothing_held : {D : Type 0} (rule : List ℕ → List ℕ) (c : Contents D) → c.size ≡ 0 → ((p : ℕ) → c.node p ≡ None) → HoldsKept rule c
nothing_held rule c none gone p = ap is_some (gone p) ∙ sym (ap (λ n. nat_lt p n && is_kept rule c.boundary p) none ∙ ap (λ b. b && is_kept rule c.boundary p) (le-ltb p 0 (omega arith)))

module _ {D : Type 0} (rule : List ℕ → List ℕ) (b : ℕ) (pins nodes : List D) (as_many : length pins ≡ length (peak_positions rule b)) where
  part_held : (p : ℕ) → is_some (stored_at (zip (peak_positions rule b) pins) (size rule b) nodes p) ≡ nat_lt p (size rule b + length nodes) && is_kept rule b p
  part_held p = elim (cases_lt p (size rule b)) [
    | inl h ↦ rw (lt-ltb p (size rule b) h, lt-ltb p (size rule b + length nodes) (omega (arith, h)), lt-leb (size rule b) p h) (lookup_zip p (peak_positions rule b) pins as_many)
    | inr h ↦ rw (le-ltb p (size rule b) h, kept_from rule b p h)
        (some_below nodes (p - size rule b) ∙ shifted (size rule b) (length nodes) p h ∙ sym (and-true (nat_lt p (size rule b + length nodes))))
  ]

  -- a structure that is made of pins and nodes holds what is kept
  pub made_held : (held : Held D) → held.size ≡ size rule b + length nodes → held.stored ≡ stored_of (zip (peak_positions rule b) pins) (size rule b) nodes → HoldsKept rule (held_contents b held)
  made_held held sized stored p =
      ap (λ s. is_some (get s p)) stored ∙ ap is_some (stored_reads (zip (peak_positions rule b) pins) (size rule b) nodes (zip_before rule b pins as_many) p) ∙ part_held p
      ∙ ap (λ n. nat_lt p n && is_kept rule b p) (sym sized)

-- ---- pruning
both_kept : (rule : List ℕ → List ℕ) (a b p : ℕ) (t : Bool) → a ≤ b → is_kept rule b p && (t && is_kept rule a p) ≡ t && is_kept rule b p
both_kept rule a b p t l = by_test (λ k. is_kept rule b p ≡ k → k && (t && is_kept rule a p) ≡ t && k) (is_kept rule b p)
    (λ k _. ap (λ u. t && u) (kept_before rule a b p l (size_le rule a b l) k)) (λ k _. sym (and-false t)) refl

module _ {D : Type 0} (rule : List ℕ → List ℕ) where
  pub pruned_held : (b : ℕ) (c : Contents D) → HoldsKept rule c → HoldsKept rule (pruned rule b c)
  pruned_held b c held = by_test (λ t. HoldsKept rule (cond t (record { boundary = b; size = c.size; node = λ p. cond (is_kept rule b p) (c.node p) None }) c)) (ltb c.boundary b)
      (λ e p. some_cond (is_kept rule b p) (c.node p) ∙ ap (λ o. is_kept rule b p && o) (held p) ∙ both_kept rule c.boundary b p (nat_lt p c.size) (omega (arith, ltb-true c.boundary b e)))
      (λ e. held)

  -- ---- records laid over what is held
  with_record_held : (r : RecordModel D) (c : Contents D) → size rule c.boundary ≤ c.size → HoldsKept rule c → HoldsKept rule (with_record r c)
  with_record_held r c above held p = elim (cases_lt p c.size) [
    | inl h ↦ rw (lt-ltb p c.size h, lt-ltb p (c.size + length r.appended) (omega (arith, h)))
        (some_over (get r.overwritten p) (c.node p) ∙ held p ∙ ap (λ b. b && is_kept rule c.boundary p) (lt-ltb p c.size h))
    | inr h ↦ rw (le-ltb p c.size h, kept_from rule c.boundary p (omega (arith, h, above)))
        (some_below r.appended (p - c.size) ∙ shifted c.size (length r.appended) p h ∙ sym (and-true (nat_lt p (c.size + length r.appended))))
  ]

  pub with_records_held : (rs : List (RecordModel D)) (c : Contents D) → size rule c.boundary ≤ c.size → HoldsKept rule c → HoldsKept rule (with_records rs c)
  with_records_held [] c above held = held
  with_records_held (r ∷ rs) c above held = with_records_held rs (with_record r c) (omega (arith, above)) (with_record_held r c above held)

  -- ---- peaks
  one_held : (o : Option D) → is_some o ≡ true → length (option_to_list o) ≡ 1
  one_held None e = absurd (cc)
  one_held (Some d) e = refl

  all_held : (c : Contents D) (ps : List ℕ) → ((i p : ℕ) → slice_get ps i ≡ Some p → is_some (c.node p) ≡ true) → length (flat_map (λ p. option_to_list (c.node p)) ps) ≡ length ps
  all_held c [] there = refl
  all_held c (p ∷ ps) there =
      let rest = flat_map (λ q. option_to_list (c.node q)) ps in
      let many : length (option_to_list (c.node p) ++ rest) ≡ suc (length ps) =
      omega (arith, length-append (option_to_list (c.node p)) rest, one_held (c.node p) (there 0 p refl), all_held c ps (λ i q e. there (suc i) q e)) in many

  -- as many peaks are held as the forest has
  pub many_held : (c : Contents D) (n : ℕ) → HoldsKept rule c → c.boundary ≤ n → c.size ≡ size rule n → length (held_peaks rule n c) ≡ length (peak_positions rule n)
  many_held c n held within sized = all_held c (peak_positions rule n) (λ i p e.
      held p ∙ ap (λ k. nat_lt p c.size && k) (peak_kept rule c.boundary n i p within e)
      ∙ and-true (nat_lt p c.size) ∙ lt-ltb p c.size (omega (arith, sized, peak_below rule n i p e)))
