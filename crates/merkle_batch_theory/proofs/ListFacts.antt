-- The elements of a list.
use Rattle.std.proofs.Common.{◌≡◌, ℕ, zero, suc, ◌+◌, List, [], ◌∷◌, ◌++◌, drop, map, Some, Bool, true, slice_get, arith, refl, ap, inl, inr, ◌∙◌}
use Rattle.std.specs.List.{flat_map, list_any}
use Rattle.std.proofs.lemmas.Bool.{false≢true, or_left, or_right, or_cases}

pub get_drop : {X : Type 0} (k j : ℕ) (xs : List X) → slice_get (drop k xs) j ≡ slice_get xs (k + j)
get_drop zero j xs = let e : 0 + j ≡ j = omega arith in rw e refl
get_drop (suc k) j [] = refl
get_drop (suc k) j (x ∷ xs) = let e : suc k + j ≡ suc (k + j) = omega arith in rw e (get_drop k j xs)

-- ---- an element is found
pub any_at : {X : Type 0} (f : X → Bool) (xs : List X) (i : ℕ) (x : X) → slice_get xs i ≡ Some x → f x ≡ true → list_any f xs ≡ true
any_at f [] i x e t = absurd (cc)
any_at f (y ∷ xs) zero x e t = let d : y ≡ x = cc in or_left (f y) (list_any f xs) (ap f d ∙ t)
any_at f (y ∷ xs) (suc i) x e t = or_right (f y) (list_any f xs) (any_at f xs i x e t)

pub any_find : {X : Type 0} (f : X → Bool) (xs : List X) → list_any f xs ≡ true → (i : ℕ) × (x : X) × (slice_get xs i ≡ Some x) × (f x ≡ true)
any_find f [] e = absurd (false≢true e)
any_find f (y ∷ xs) e = elim (or_cases (f y) (list_any f xs) e) [ inl h ↦ (0, y, refl, h) | inr h ↦ (let k = any_find f xs h in (suc k.0, k.1, k.2, k.3)) ]

-- ---- one element for each
pub flat_single : {A B C : Type 0} (f : B → List C) (g : A → B) (k : A → C) (xs : List A) → ((i : ℕ) (x : A) → slice_get xs i ≡ Some x → f (g x) ≡ k x ∷ []) → flat_map f (map g xs) ≡ map k xs
flat_single f g k [] e = refl
flat_single f g k (x ∷ xs) e = ap (λ ys. ys ++ flat_map f (map g xs)) (e 0 x refl) ∙ ap (λ ys. k x ∷ ys) (flat_single f g k xs (λ i y d. e (suc i) y d))
