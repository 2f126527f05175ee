-- A structure is made again of the components that are copied from it.
use Rattle.std.proofs.Common.{◌≡◌, ℕ, zero, suc, ◌+◌, ◌-◌, ◌<◌, ◌≤◌, List, [], ◌∷◌, ◌++◌, length, Bool, true, false, Option, Some, None, cond, arith, refl, sym, ap, ◌∙◌, nat_eq, zip, inl, inr}
use Rattle.std.specs.Prelude.{is_some, nat_lt, slice_get, ◌&&◌, ◌||◌}
use Rattle.std.specs.Cmp.{nat_cmp_total}
use Rattle.std.specs.FinMap.{get, same_map, nat_cmp-IsAntisymmetric}
use Rattle.std.specs.List.{list_any, range_with_len}
use Rattle.std.specs.Map.{lookup}
use Rattle.std.specs.Option.{option_or, option_to_list}
use Rattle.std.proofs.Math.Bool.{and-false, and-true}
use Rattle.std.proofs.lemmas.Bool.{cases_lt, lt-ltb, le-ltb, eq-eqb, lt-leb, or_left, or_right, eqb-true, false≢true}
use Rattle.std.proofs.lemmas.List.FromFn.{length-range_with_len}
use Rattle.merkle_base.specs.Forest.{size}
use Rattle.merkle_base.specs.Places.{peak_positions}
use Rattle.merkle_base.proofs.Cases.{by_test}
use Rattle.merkle_batch_theory.specs.Components.{made_of}
use Rattle.merkle_batch_theory.specs.Contents.{Contents, HoldsKept, is_kept}
use Rattle.merkle_batch_theory.specs.HeldPeaks.{held_at}
use Rattle.merkle_batch_theory.specs.MemModel.{MemModel, contents, stored_of}
use Rattle.merkle_batch_theory.proofs.HeldNodes.{peak_below}
use Rattle.merkle_batch_theory.proofs.Kept.{kept_from}
use Rattle.merkle_batch_theory.proofs.Pruning.{peak_kept}
use Rattle.merkle_batch_theory.proofs.Stored.{held}

-- ---- positions that are all held
AllHeld : {D : Type 0} → Contents D → List ℕ → Type 0
AllHeld c [] = Unit {0}
AllHeld c (p ∷ ps) = (is_some (c.node p) ≡ true) × AllHeld c ps

module _ {D : Type 0} (c : Contents D) where
  by_index : (ps : List ℕ) → ((i p : ℕ) → slice_get ps i ≡ Some p → is_some (c.node p) ≡ true) → AllHeld c ps
  unfolding AllHeld
  by_index [] there = tt
  by_index (p ∷ ps) there = (there 0 p refl, by_index ps (λ i q e. there (suc i) q e))

  one_more : (q : ℕ) (ps : List ℕ) (o : Option D) → c.node q ≡ o → is_some o ≡ true
      → ((p : ℕ) → lookup (nat_eq p) (zip ps (held_at c ps)) ≡ cond (list_any (nat_eq p) ps) (c.node p) None) → length (held_at c ps) ≡ length ps
      → ((p : ℕ) → lookup (nat_eq p) (zip (q ∷ ps) (option_to_list o ++ held_at c ps)) ≡ cond (nat_eq p q || list_any (nat_eq p) ps) (c.node p) None)
      × (length (option_to_list o ++ held_at c ps) ≡ suc (length ps))
  one_more q ps None e is found many = absurd (cc)
  one_more q ps (Some d) e is found many = (
    (λ p. by_test (λ b. cond b (Some d) (lookup (nat_eq p) (zip ps (held_at c ps))) ≡ cond (b || list_any (nat_eq p) ps) (c.node p) None) (nat_eq p q)
        (λ t. sym e ∙ ap c.node (sym (eqb-true p q t)))
        (λ _. found p)),
    omega (arith, many),
  )

  -- what is paired with a position is what is held there, and there are as many
  zipped : (ps : List ℕ) → AllHeld c ps → ((p : ℕ) → lookup (nat_eq p) (zip ps (held_at c ps)) ≡ cond (list_any (nat_eq p) ps) (c.node p) None) × (length (held_at c ps) ≡ length ps)
  unfolding AllHeld
  zipped [] all = ((λ p. refl), refl)
  zipped (q ∷ ps) all = let rest = zipped ps all.1 in one_more q ps (c.node q) refl all.0 rest.0 rest.1

-- ---- positions from a on
in_range : (p a n : ℕ) → a ≤ p → p < a + n → list_any (nat_eq p) (range_with_len a n) ≡ true
in_range p a zero from below = absurd (omega (arith, from, below))
in_range p a (suc n) from below = elim (cases_lt a p) [
  | inl h ↦ or_right (nat_eq p a) (list_any (nat_eq p) (range_with_len (a + 1) n)) (in_range p (a + 1) n (omega (arith, h)) (omega (arith, below)))
  | inr h ↦ or_left (nat_eq p a) (list_any (nat_eq p) (range_with_len (a + 1) n)) (eq-eqb p a (omega (arith, h, from)))
]

module _ {D : Type 0} (rule : List ℕ → List ℕ) (c : Contents D) (kept : HoldsKept rule c) (within : size rule c.boundary ≤ c.size) where
  abbrev peaks : List ℕ
  peaks = peak_positions rule c.boundary

  abbrev start : ℕ
  start = size rule c.boundary

  abbrev later : List ℕ
  later = range_with_len start (c.size - start)

  from_held : (p : ℕ) → start ≤ p → p < c.size → is_some (c.node p) ≡ true
  from_held p from below = kept p ∙ ap (λ k. nat_lt p c.size && k) (kept_from rule c.boundary p from) ∙ and-true (nat_lt p c.size) ∙ lt-ltb p c.size below

  later_held : (a n : ℕ) → start ≤ a → a + n ≤ c.size → AllHeld c (range_with_len a n)
  unfolding AllHeld
  later_held a zero from below = tt
  later_held a (suc n) from below = (from_held a from (omega (arith, below)), later_held (a + 1) n (omega (arith, from)) (omega (arith, below)))

  peaks_held : AllHeld c peaks
  peaks_held = by_index c peaks (λ i p e.
      kept p ∙ ap (λ k. nat_lt p c.size && k) (peak_kept rule c.boundary c.boundary i p (omega arith) e)
      ∙ and-true (nat_lt p c.size) ∙ lt-ltb p c.size (omega (arith, within, peak_below rule c.boundary i p e)))

  pub pins_many : length (held_at c peaks) ≡ length peaks
  pins_many = (zipped c peaks peaks_held).1

  pub nodes_many : start + length (held_at c later) ≡ c.size
  nodes_many =
      let many = (zipped c later (later_held start (c.size - start) (omega arith) (omega (arith, within)))).1 in
      omega (arith, many, length-range_with_len start (c.size - start), within)

  -- what is found at a position among both
  found : (p : ℕ) (o : Option D) (a b : Bool) → (is_some o ≡ true → a ≡ false → b ≡ true) → option_or {T = D} (cond a o None) (cond b o None) ≡ o
  found p None true b there = elim b as (λ t. option_or {T = D} None (cond t None None) ≡ None) [ true ↦ refl | false ↦ refl ]
  found p None false b there = elim b as (λ t. option_or {T = D} None (cond t None None) ≡ None) [ true ↦ refl | false ↦ refl ]
  found p (Some d) true b there = refl
  found p (Some d) false b there = ap (λ t. cond t (Some d) None) (there refl refl)

  is_later : (p : ℕ) → is_some (c.node p) ≡ true → list_any (nat_eq p) peaks ≡ false → list_any (nat_eq p) later ≡ true
  is_later p some none = elim (cases_lt p c.size) [
    | inl h ↦ elim (cases_lt p start) [
      | inl l ↦ (let before : is_kept rule c.boundary p ≡ false = rw (lt-leb start p l) none in
          let gone : is_some (c.node p) ≡ false = kept p ∙ ap (λ k. nat_lt p c.size && k) before ∙ and-false (nat_lt p c.size) in
          absurd (false≢true (sym gone ∙ some)))
      | inr l ↦ in_range p start (c.size - start) l (omega (arith, h, l))
    ]
    | inr h ↦ (let past : is_some (c.node p) ≡ false = kept p ∙ ap (λ t. t && is_kept rule c.boundary p) (le-ltb p c.size h) in absurd (false≢true (sym past ∙ some)))
  ]

  reads : (p : ℕ) → get (stored_of (zip peaks (held_at c peaks)) start (held_at c later)) p ≡ c.node p
  reads p =
      let pins = zipped c peaks peaks_held in
      let nodes = zipped c later (later_held start (c.size - start) (omega arith) (omega (arith, within))) in
      let many : length (held_at c later) ≡ c.size - start = nodes.1 ∙ length-range_with_len start (c.size - start) in
      held (zip peaks (held_at c peaks)) start (held_at c later) p
      ∙ ap (λ n. option_or (lookup (nat_eq p) (zip peaks (held_at c peaks))) (lookup (nat_eq p) (zip (range_with_len start n) (held_at c later)))) many
      ∙ (λ j. option_or (pins.0 p j) (nodes.0 p j))
      ∙ found p (c.node p) (list_any (nat_eq p) peaks) (list_any (nat_eq p) later) (is_later p)

-- what is copied makes the structure again
pub made_again : {D : Type 0} (rule : List ℕ → List ℕ) (s : MemModel D) → HoldsKept rule (contents s) → size rule s.boundary ≤ s.size
    → s ≡ made_of rule s.boundary s.leaves (held_at (contents s) (peak_positions rule s.boundary)) (held_at (contents s) (range_with_len (size rule s.boundary) (s.size - size rule s.boundary)))
made_again rule s kept within =
    let start = size rule s.boundary in
    let pins = zip (peak_positions rule s.boundary) (held_at (contents s) (peak_positions rule s.boundary)) in
    let nodes = held_at (contents s) (range_with_len start (s.size - start)) in
    let stored : s.stored ≡ stored_of pins start nodes = same_map nat_cmp_total nat_cmp-IsAntisymmetric s.stored (stored_of pins start nodes) (λ p. sym (reads rule (contents s) kept within p)) in
    λ j. record { boundary = s.boundary; leaves = s.leaves; size = sym (nodes_many rule (contents s) kept within) j; stored = stored j }
