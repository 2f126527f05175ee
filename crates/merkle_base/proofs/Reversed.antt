-- The elements of a reversed list.
use Rattle.std.proofs.Common.{◌≡◌, ℕ, zero, suc, List, [], ◌∷◌, ◌++◌, length, reverse, Some, slice_get, refl, ap, ◌∙◌}
use Rattle.std.proofs.lemmas.List.{reverse-append}
use Rattle.merkle_base.proofs.Lists.{get_front, get_push}

pub reverse_push : {X : Type 0} (x : X) (xs : List X) → reverse (x ∷ xs) ≡ reverse xs ++ x ∷ []
reverse_push x xs = reverse-append (x ∷ []) xs

pub get_reverse : {X : Type 0} (xs : List X) (i : ℕ) (x : X) → slice_get xs i ≡ Some x → (j : ℕ) × (slice_get (reverse xs) j ≡ Some x)
get_reverse [] i x e = absurd (cc)
get_reverse (y ∷ xs) zero x e = (length (reverse xs), rw (reverse_push y xs) (get_push (reverse xs) [] y ∙ e))
get_reverse (y ∷ xs) (suc i) x e = (let k = get_reverse xs i x e in (k.0, rw (reverse_push y xs) (get_front (reverse xs) (y ∷ []) k.0 x k.1)))

pub get_reversed : {X : Type 0} (xs : List X) (i : ℕ) (x : X) → slice_get (reverse xs) i ≡ Some x → (j : ℕ) × (slice_get xs j ≡ Some x)
get_reversed xs i x e = (let k = get_reverse (reverse xs) i x e in (k.0, rw (twice xs) at k.1))
  where
    last : {X : Type 0} (y : X) (ys : List X) → reverse (ys ++ y ∷ []) ≡ y ∷ reverse ys
    last y ys = reverse-append ys (y ∷ [])

    twice : {X : Type 0} (xs : List X) → reverse (reverse xs) ≡ xs
    twice [] = refl
    twice (x ∷ xs) = ap reverse (reverse_push x xs) ∙ last x (reverse xs) ∙ ap (λ ys. x ∷ ys) (twice xs)
