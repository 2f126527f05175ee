-- The records that a draft takes over, one after another.
use Rattle.std.proofs.Common.{◌≡◌, ℕ, ◌+◌, ◌-◌, ◌<◌, ◌≤◌, List, [], ◌∷◌, ◌++◌, length, map, take, drop, get_or, Bool, true, false, cond, arith, sym, ap, ◌∙◌, length-drop, append-nil, add-one}
use Rattle.std.specs.Prelude.{not}
use Rattle.std.proofs.Math.ListN.{get_or-map as get_mapped_or}
use Rattle.std.proofs.Math.Seq.{take-suc}
use Rattle.std.proofs.lemmas.List.{length-map, map-append, take_all, drop-map}

module _ {A B : Type 0} (f : A → B) where
  -- one more is taken over
  pub taken_over : (xs kept after : List A) (i : ℕ) (x y : A) → i < length xs → x ≡ get_or xs i x → f y ≡ f x → map f kept ≡ take i (map f xs)
      → after ≡ kept ++ y ∷ [] → map f after ≡ take (i + 1) (map f xs)
  taken_over xs kept after i x y l e same done is =
      ap (map f) is ∙ map-append f kept (y ∷ []) ∙ ap (λ zs. zs ++ f y ∷ []) done ∙ ap (λ z. take i (map f xs) ++ z ∷ []) (same ∙ ap f e ∙ sym (get_mapped_or f xs i x))
      ∙ sym (take-suc (map f xs) i (f x) (omega (arith, l, length-map xs f))) ∙ ap (λ (n : ℕ). take n (map f xs)) (sym (add-one i))

  all_taken : (xs kept : List A) (i : ℕ) → length xs ≤ i → map f kept ≡ take i (map f xs) → map f kept ≡ map f xs
  all_taken xs kept i l done = done ∙ take_all i (map f xs) (omega (arith, l, length-map xs f))

  -- and at last the parent's own, if it has changes
  pub with_own : (xs kept after : List A) (i : ℕ) (own : B) (y : A) (b : Bool) → length xs ≤ i → map f kept ≡ take i (map f xs) → after ≡ kept
      ++ y ∷ [] → f y ≡ own → not b ≡ false → map f after ≡ map f xs ++ cond b (own ∷ []) []
  with_own xs kept after i own y true l done is same e = ap (map f) is ∙ map-append f kept (y ∷ []) ∙ (λ j. all_taken xs kept i l done j ++ same j ∷ [])
  with_own xs kept after i own y false l done is same e = absurd (cc)

  pub without_own : (xs kept after : List A) (i : ℕ) (own : B) (b : Bool) → length xs ≤ i → map f kept ≡ take i (map f xs) → after ≡ kept
      → not b ≡ true → map f after ≡ map f xs ++ cond b (own ∷ []) []
  without_own xs kept after i own true l done is e = absurd (cc)
  without_own xs kept after i own false l done is e = ap (map f) is ∙ all_taken xs kept i l done ∙ sym (append-nil (map f xs))

  -- those from the n-th on
  pub map_from : (xs : List A) (n : ℕ) → map f (take (length xs - n) (drop n xs)) ≡ drop n (map f xs)
  map_from xs n = ap (map f) (take_all (length xs - n) (drop n xs) (omega (arith, length-drop n xs))) ∙ sym (drop-map f n xs)
