-- Listing new parents.
use Rattle.std.proofs.Common.{◌≡◌, ℕ, suc, ◌+◌, ◌-◌, ◌<◌, ◌≤◌, List, [], ◌∷◌, ◌++◌, cond, Bool, true, false, arith, refl, sym, ap, subst, inl, inr, ◌∙◌, Some, slice_get, get_or, length}
use Rattle.std.specs.Prelude.{◌==◌}
use Rattle.std.specs.List.{Contains}
use Rattle.std.proofs.lemmas.Bool.{eq-eqb, cases_lt}
use Rattle.std.proofs.lemmas.Bool.Decides.{eqb_tells}
use Rattle.std.proofs.lemmas.List.Elements.{Contains-append_left, Contains-append_right, Contains-append_cases}
use Rattle.merkle_base.specs.Tree.{leaf, height}
use Rattle.merkle_base.specs.Forest.{forest, size}
use Rattle.merkle_base.specs.Places.{HasInner}
use Rattle.merkle_base.proofs.Lists.{get_front, get_push, one_there}
use Rattle.merkle_base.proofs.Nodes.{leaf_here, same_position}
use Rattle.merkle_draft.specs.Levels.{level_at, AreAdded}

-- ---- lists of at most one element
pub contains_none : {X : Type 0} (x : X) → Contains [] x → ⊥
contains_none x c = (let l : c.0 < 0 = c.1 in omega arith)

pub contains_one : {X : Type 0} (x : X) → Contains (x ∷ []) x
contains_one x = (0, omega arith, refl)

pub contains_single : {X : Type 0} (x y : X) → Contains (x ∷ []) y → y ≡ x
contains_single x y c = (let l : c.0 < 1 = c.1 in let z : c.0 ≡ 0 = omega arith in sym c.2 ∙ ap (λ k. get_or (x ∷ []) k y) z)

pub contains_if : {X : Type 0} (b : Bool) (x y : X) → Contains (cond b (x ∷ []) []) y → (b ≡ true) × (y ≡ x)
contains_if true x y c = (refl, contains_single x y c)
contains_if false x y c = absurd (contains_none y c)

-- a node stands at one height
one_height : (rule : List ℕ → List ℕ) (max p h k : ℕ) → HasInner rule max p h → HasInner rule max p k → h ≡ k
one_height rule max p h k i j = sym i.4 ∙ ap height (same_position rule i.0 j.0 p i.1 j.1 i.3 j.3) ∙ j.4

module _ (rule : List ℕ → List ℕ) (max : ℕ) where
  pub added_nothing : (a : ℕ) (ls : List (List ℕ)) → AreAdded rule max a a ls ls
  added_nothing a ls = record {
    sound = λ h p c. inl c;
    kept = λ h p c. c;
    complete = λ h p l u i. absurd (omega (arith, l, u));
  }

  pub added_append : (a b c : ℕ) → a ≤ b → b ≤ c → (x y z : List (List ℕ)) → AreAdded rule max a b x y → AreAdded rule max b c y z → AreAdded rule max a c x z
  added_append a b c l m x y z v w = record {
    sound = λ h p e. elim (w.sound h p e) [
      | inl o ↦ elim (v.sound h p o) [ inl o ↦ inl o | inr i ↦ inr (i.0, omega (arith, i.1, m), i.2) ]
      | inr i ↦ inr (omega (arith, i.0, l), i.1, i.2)
    ];
    kept = λ h p e. w.kept h p (v.kept h p e);
    complete = λ h p f u i. elim (cases_lt p b) [ inl d ↦ w.kept h p (v.complete h p f d i) | inr d ↦ w.complete h p d u i ];
  }

  -- a leaf is no parent
  pub added_leaf : (n : ℕ) (ls : List (List ℕ)) → AreAdded rule max (size rule n) (suc (size rule n)) ls ls
  added_leaf n ls = record {
    sound = λ h p c. inl c;
    kept = λ h p c. c;
    complete = λ h p l u i.
        (let here : p ≡ size rule n = omega (arith, l, u) in
        let same : i.1 ≡ leaf (size rule n) n =
        same_position rule i.0 (suc n) (size rule n) i.1 (leaf (size rule n) n)
        (subst (λ (q : ℕ). slice_get (forest rule i.0).nodes q ≡ Some i.1) here i.3) (leaf_here rule n (suc n) (omega arith)) in
        absurd (omega (arith, ap height same, i.4, i.5)));
  }

  pub added_parent : (q k : ℕ) → HasInner rule max q k → (old new : List (List ℕ)) → ((h : ℕ) → level_at new h ≡ level_at old h ++ cond (h == k) (q ∷ []) []) → AreAdded rule max q (suc q) old new
  added_parent q k i old new e = record {
    sound = λ h p c. elim (Contains-append_cases (level_at old h) (cond (h == k) (q ∷ []) []) p (subst (λ xs. Contains xs p) (e h) c)) [
      | inl o ↦ inl o
      | inr o ↦ inr (let f = contains_if (h == k) q p o in
          let same : k ≡ h = found h (f.0) in
          (omega (arith, f.1), omega (arith, f.1), subst (λ (x : ℕ). HasInner rule max x h) (sym f.1) (subst (HasInner rule max q) same i)))
    ];
    kept = λ h p c. subst (λ xs. Contains xs p) (sym (e h)) (Contains-append_left (level_at old h) (cond (h == k) (q ∷ []) []) p c);
    complete = λ h p l u j.
        (let here : p ≡ q = omega (arith, l, u) in
        let same : h ≡ k = one_height rule max q h k (subst (λ (x : ℕ). HasInner rule max x h) here j) i in
        subst (λ xs. Contains xs p) (sym (e h))
        (Contains-append_right (level_at old h) (cond (h == k) (q ∷ []) []) p
        (subst (λ b. Contains (cond b (q ∷ []) []) p) (sym (eq-eqb h k same)) (subst (λ (x : ℕ). Contains (q ∷ []) x) (sym here) (contains_one q)))));
  }
    where
      found : (h : ℕ) → (h == k) ≡ true → k ≡ h
      found h t = elim (eqb_tells h k) [ inl s ↦ sym s.1 | inr s ↦ absurd (let x : false ≡ true = sym s.0 ∙ t in cc) ]

-- ---- digests of leaves in their places
-- what stood in their places stays, and the next leaf stands after it
pub places_kept : {D : Type 0} (rule : List ℕ → List ℕ) (n before i : ℕ) (added old new more : List D) (d : D)
    → slice_get added i ≡ Some d → new ≡ old ++ d ∷ more → before + length old ≡ size rule (n + i)
    → ((j : ℕ) (x : D) → j < i → slice_get added j ≡ Some x → slice_get old (size rule (n + j) - before) ≡ Some x)
    → (j : ℕ) (x : D) → j < suc i → slice_get added j ≡ Some x → slice_get new (size rule (n + j) - before) ≡ Some x
places_kept {D = D} rule n before i added old new more d at grown sized f j x l e = elim (cases_lt j i) [
  | inl k ↦ subst (λ xs. slice_get xs (size rule (n + j) - before) ≡ Some x) (sym grown) (get_front old (d ∷ more) (size rule (n + j) - before) x (f j x k e))
  | inr k ↦ (let here : j ≡ i = omega (arith, k, l) in
      let same : d ≡ x = one_there at (ap (slice_get added) (sym here) ∙ e) in
      let place : length old ≡ size rule (n + j) - before = omega (arith, sized, ap (λ (q : ℕ). size rule (n + q)) here) in
      ap (slice_get new) (sym place) ∙ subst (λ xs. slice_get xs (length old) ≡ Some d) (sym grown) (get_push old more d) ∙ ap (λ (z : D). Some z) same)
]
