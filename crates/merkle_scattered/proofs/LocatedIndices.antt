-- Elements at ascending locations by their indices.
use Rattle.std.proofs.Common.{◌≡◌, ℕ, suc, true, false, cond, ◌||◌, ◌+◌, ◌<◌, ◌≤◌, nat_lt, List, [], ◌∷◌, map, drop, get_or, length, Some, unwrap_or, inl, inr, refl, ap, ap₂, sym, ◌∙◌, arith, lt-ltb}
use Rattle.std.proofs.lemmas.Bool.{le-ltb, eq-eqb, ne_eqb, or_right, cases_lt}
use Rattle.std.proofs.lemmas.List.Sums.{prefix_len-le-length}
use Rattle.merkle_base.specs.Hashing.{Hashing}
use Rattle.merkle_forest_theory.specs.Ascending.{AscendsFrom}
use Rattle.merkle_base.specs.Table.{digest_for}
use Rattle.merkle_scattered.specs.Confirmed.{locations_of, is_located, leaf_located, located_before}
use Rattle.merkle_scattered.proofs.ScatteredElements.{unlocated}

module _ {D : Type 0} where
  before_yes : (i : ℕ) (e : ℕ × D) (es : List (ℕ × D)) → e.0 < i → located_before i (e ∷ es) ≡ suc (located_before i es)
  before_yes i e es l = ap (λ b. cond b (1 + located_before i es) 0) (lt-ltb e.0 i l) ∙ (omega arith)

  before_no : (i : ℕ) (e : ℕ × D) (es : List (ℕ × D)) → i ≤ e.0 → located_before i (e ∷ es) ≡ 0
  before_no i e es l = ap (λ b. cond b (1 + located_before i es) 0) (le-ltb e.0 i l)

  pub located_before-within : (i : ℕ) (es : List (ℕ × D)) → located_before i es ≤ length es
  located_before-within i es = prefix_len-le-length (λ e. nat_lt e.0 i) es

  pub located_before-later : (a b : ℕ) → a ≤ b → (es : List (ℕ × D)) → located_before a es ≤ located_before b es
  located_before-later a b l [] = omega arith
  located_before-later a b l (e ∷ es) = elim (cases_lt e.0 a) [
    | inl x ↦ omega (arith, before_yes a e es x, before_yes b e es (omega (arith, x, l)), located_before-later a b l es)
    | inr x ↦ omega (arith, before_no a e es x)
  ]

  -- those before a later location: those before an earlier one, and of the others those before the later
  pub located_before-drop : (a b : ℕ) → a ≤ b → (es : List (ℕ × D)) → located_before b es ≡ located_before a es + located_before b (drop (located_before a es) es)
  located_before-drop a b l [] = refl
  located_before-drop a b l (e ∷ es) = elim (cases_lt e.0 a) [
    | inl x ↦ before_yes b e es (omega (arith, x, l)) ∙ ap suc (located_before-drop a b l es) ∙ (omega arith)
        ∙ sym (ap (λ n. n + located_before b (drop n (e ∷ es))) (before_yes a e es x))
    | inr x ↦ sym (ap (λ n. n + located_before b (drop n (e ∷ es))) (before_no a e es x) ∙ (omega arith))
  ]

  -- no element is in a range of locations
  pub none_between : (a s e : ℕ) (es : List (ℕ × D)) → AscendsFrom a (locations_of es) → located_before e es ≤ located_before s es
      → (i : ℕ) → s ≤ i → i < e → is_located es i ≡ false
  none_between a s e [] u l i from to = refl
  none_between a s e (x ∷ es) u l i from to = elim (cases_lt x.0 s) [
    | inl y ↦ ap₂ (λ b c. b || c) (ne_eqb i x.0 (λ q. absurd (omega (arith, q, y, from))))
        (none_between (suc x.0) s e es u.1 (omega (arith, l, before_yes s x es y, before_yes e x es (omega (arith, y, from, to)))) i from to)
    | inr y ↦ elim (cases_lt x.0 e) [
      | inl z ↦ absurd (omega (arith, l, before_no s x es y, before_yes e x es z))
      | inr z ↦ unlocated e (x ∷ es) (z, u.1) i to
    ]
  ]

  -- one is
  pub some_between : (s e : ℕ) (es : List (ℕ × D)) → located_before s es < located_before e es → (i : ℕ) × (s ≤ i) × (i < e) × (is_located es i ≡ true)
  some_between s e [] l = absurd (omega (arith, l))
  some_between s e (x ∷ es) l = elim (cases_lt x.0 e) [
    | inr y ↦ absurd (omega (arith, l, before_no e x es y))
    | inl y ↦ elim (cases_lt x.0 s) [
      | inl z ↦ (let w = some_between s e es (omega (arith, l, before_yes s x es z, before_yes e x es y)) in (w.0, w.1, w.2, or_right _ (is_located es w.0) w.3))
      | inr z ↦ (x.0, z, y, ap (λ b. b || is_located es x.0) (eq-eqb x.0 x.0 refl))
    ]
  ]

  -- the element at a location by its index
  pub leaf_located_is : (h : Hashing D) (i : ℕ) (es : List (ℕ × D)) (d : ℕ × D) → located_before i es < located_before (i + 1) es
      → (get_or es (located_before i es) d).1 ≡ leaf_located h es i
  leaf_located_is h i [] d l = absurd (omega (arith, l))
  leaf_located_is h i (x ∷ es) d l = elim (cases_lt x.0 i) [
    | inl y ↦ ap (λ n. (get_or (x ∷ es) n d).1) (before_yes i x es y)
        ∙ leaf_located_is h i es d (omega (arith, l, before_yes i x es y, before_yes (i + 1) x es (omega (arith, y))))
        ∙ sym (ap (λ b. unwrap_or (cond b (Some x.1) (digest_for (locations_of es) (map (λ e. e.1) es) i)) h.empty) (ne_eqb x.0 i (λ q. absurd (omega (arith, q, y)))))
    | inr y ↦ elim (cases_lt x.0 (i + 1)) [
      | inl z ↦ ap (λ n. (get_or (x ∷ es) n d).1) (before_no i x es y)
          ∙ sym (ap (λ b. unwrap_or (cond b (Some x.1) (digest_for (locations_of es) (map (λ e. e.1) es) i)) h.empty) (eq-eqb x.0 i (omega (arith, y, z))))
      | inr z ↦ absurd (omega (arith, l, before_no (i + 1) x es z))
    ]
  ]
