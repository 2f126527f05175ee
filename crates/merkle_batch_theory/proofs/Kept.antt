-- Which positions are kept.
use Rattle.std.proofs.Common.{◌≡◌, ℕ, ◌≤◌, ◌⊎◌, List, map, reverse, Option, Some, None, true, slice_get, arith, refl, sym, ap, inl, inr, ◌∙◌, subst, leb}
use Rattle.std.specs.Prelude.{◌==◌}
use Rattle.std.specs.List.{list_any}
use Rattle.std.proofs.lemmas.Bool.{le-leb, leb-true, eq-eqb, eqb-true, or_left, or_right, or_cases}
use Rattle.std.proofs.lemmas.Option.{slice_get-map}
use Rattle.std.specs.Option.{option_map}
use Rattle.merkle_base.specs.Tree.{Tree, position}
use Rattle.merkle_base.specs.Forest.{forest, size}
use Rattle.merkle_base.specs.Held.{IsHeld}
use Rattle.merkle_base.proofs.Held.{peaks_held}
use Rattle.merkle_base.proofs.Births.{all_get}
use Rattle.merkle_base.specs.Places.{peak_positions}
use Rattle.merkle_batch_theory.specs.Contents.{is_kept}
use Rattle.merkle_base.proofs.Reversed.{get_reverse, get_reversed}
use Rattle.merkle_batch_theory.proofs.ListFacts.{any_at, any_find}

pub option_map_some : {A B : Type 0} (f : A → B) (o : Option A) (y : B) → option_map f o ≡ Some y → (x : A) × (o ≡ Some x) × (y ≡ f x)
option_map_some f None y e = absurd (cc)
option_map_some f (Some x) y e = (x, refl, cc)

pub get_mapped : {A B : Type 0} (f : A → B) (xs : List A) (i : ℕ) (y : B) → slice_get (map f xs) i ≡ Some y → (x : A) × (slice_get xs i ≡ Some x) × (y ≡ f x)
get_mapped f xs i y e = option_map_some f (slice_get xs i) y (sym (slice_get-map f xs i) ∙ e)

pub get_map : {A B : Type 0} (f : A → B) (xs : List A) (i : ℕ) (x : A) → slice_get xs i ≡ Some x → slice_get (map f xs) i ≡ Some (f x)
get_map f xs i x e = slice_get-map f xs i ∙ ap (option_map f) e

module _ (rule : List ℕ → List ℕ) where
  pub kept_from : (b p : ℕ) → size rule b ≤ p → is_kept rule b p ≡ true
  kept_from b p l = or_left (leb (size rule b) p) (list_any (λ q. p == q) (peak_positions rule b)) (le-leb (size rule b) p l)

  pub kept_peak : (b i : ℕ) (t : Tree) → slice_get (forest rule b).peaks i ≡ Some t → is_kept rule b (position t) ≡ true
  kept_peak b i t e =
      let k = get_reverse (forest rule b).peaks i t e in
      or_right (leb (size rule b) (position t)) (list_any (λ q. position t == q) (peak_positions rule b))
      (any_at (λ q. position t == q) (peak_positions rule b) k.0 (position t) (get_map position (reverse (forest rule b).peaks) k.0 t k.1) (eq-eqb (position t) (position t) refl))

  pub kept_held : (b : ℕ) (t : Tree) → IsHeld (size rule b) (forest rule b).peaks t → is_kept rule b (position t) ≡ true
  kept_held b t h = elim h [ inl l ↦ kept_from b (position t) l | inr k ↦ kept_peak b k.0 t k.1 ]

  pub kept_cases : (b p : ℕ) → is_kept rule b p ≡ true → (size rule b ≤ p) ⊎ ((i : ℕ) × (t : Tree) × (slice_get (forest rule b).peaks i ≡ Some t) × (p ≡ position t))
  kept_cases b p e = elim (or_cases (leb (size rule b) p) (list_any (λ q. p == q) (peak_positions rule b)) e) [
    | inl h ↦ inl (leb-true (size rule b) p h)
    | inr h ↦ (let k = any_find (λ q. p == q) (peak_positions rule b) h in
        let m = get_mapped position (reverse (forest rule b).peaks) k.0 k.1 k.2 in
        let j = get_reversed (forest rule b).peaks k.0 m.0 m.1 in
        inr (j.0, m.0, j.1, eqb-true p k.1 k.3 ∙ m.2))
  ]

  -- what is kept at a later boundary is kept at an earlier one
  pub kept_before : (a b p : ℕ) → a ≤ b → size rule a ≤ size rule b → is_kept rule b p ≡ true → is_kept rule a p ≡ true
  kept_before a b p l m e = elim (kept_cases b p e) [
    | inl h ↦ kept_from a p (omega (arith, h, m))
    | inr h ↦ subst (λ q. is_kept rule a q ≡ true) (sym h.3) (kept_held a h.1 (all_get (IsHeld (size rule a) (forest rule a).peaks) (forest rule b).peaks h.0 h.1 (peaks_held rule a b l) h.2))
  ]
