-- The digests of the leaves of elements, one after another, and the locations of the elements with them.
use Rattle.std.proofs.Common.{◌≡◌, ℕ, zero, suc, ◌+◌, ◌<◌, List, [], ◌∷◌, ◌++◌, length, map, take, get_or, arith, refl, sym, ap, ap₂, ◌∙◌, append_assoc, add-one}
use Rattle.std.specs.Borrow.{Bor}
use Rattle.std.specs.List.{zip}
use Rattle.std.proofs.lemmas.List.{map-append, take_more}
use Rattle.merkle_base.specs.Forest.{size}
use Rattle.merkle_base.specs.Hashing.{Hashing}
use Rattle.merkle_proof.specs.Input.{element_leaves}

module _ {A D : Type 0} where
  next_zipped : (es : List (A × ℕ)) (ds : List D) (i : ℕ) (e : A × ℕ) (d : D) → length ds ≡ length es → i < length es
      → zip (map (λ e. e.1) (take i es)) (take i ds) ++ ((get_or es i e).1, get_or ds i d) ∷ [] ≡ zip (map (λ e. e.1) (take (suc i) es)) (take (suc i) ds)
  next_zipped [] ds i e d same below = absurd (omega (arith, below))
  next_zipped (x ∷ es) [] i e d same below = absurd (omega (arith, same))
  next_zipped (x ∷ es) (y ∷ ds) zero e d same below = refl
  next_zipped (x ∷ es) (y ∷ ds) (suc i) e d same below = ap (λ zs. (x.1, y) ∷ zs) (next_zipped es ds i e d (omega (arith, same)) (omega (arith, below)))

  -- one location more, after others
  pub zipped_push : (es : List (A × ℕ)) (ds : List D) (i : ℕ) (e : A × ℕ) (d : D) (old before after : List (ℕ × D)) → length ds ≡ length es → i < length es
      → e ≡ get_or es i e → d ≡ get_or ds i d → before ≡ old ++ zip (map (λ e. e.1) (take i es)) (take i ds) → after ≡ before ++ (e.1, d) ∷ []
      → after ≡ old ++ zip (map (λ e. e.1) (take (i + 1) es)) (take (i + 1) ds)
  zipped_push es ds i e d old before after same below e_is d_is held pushed =
      pushed ∙ ap (λ zs. zs ++ (e.1, d) ∷ []) held ∙ append_assoc old (zip (map (λ e. e.1) (take i es)) (take i ds)) ((e.1, d) ∷ [])
      ∙ ap (λ zs. old ++ zs) (ap₂ (λ x y. zip (map (λ e. e.1) (take i es)) (take i ds) ++ (x.1, y) ∷ []) e_is d_is ∙ next_zipped es ds i e d same below
      ∙ ap (λ n. zip (map (λ e. e.1) (take n es)) (take n ds)) (sym (add-one i)))

module _ {D : Type 0} (h : Hashing D) (rule : List ℕ → List ℕ) where
  -- the digests of the leaves of elements
  abbrev pub hashed : List (Bor (List ℕ) × ℕ) → List D
  hashed es = map (λ e. h.leaf (size rule e.1) e.0.now) es

  zip-hashed : (es : List (Bor (List ℕ) × ℕ)) → zip (map (λ e. e.1) es) (hashed es) ≡ element_leaves h rule es
  zip-hashed [] = refl
  zip-hashed (e ∷ es) = ap (λ ls. (e.1, h.leaf (size rule e.1) e.0.now) ∷ ls) (zip-hashed es)

  -- those of one element more, of which the last are waited for
  pub hashed-queued : (es : List (Bor (List ℕ) × ℕ)) (i : ℕ) (e : Bor (List ℕ) × ℕ) (p : ℕ) (before waiting after still : List D) → i < length es → e ≡ get_or es i e → p ≡ size rule e.1
      → before ++ waiting ≡ hashed (take i es) → after ++ still ≡ (before ++ waiting) ++ h.leaf p e.0.now ∷ [] → after ++ still ≡ hashed (take (i + 1) es)
  hashed-queued es i e p before waiting after still below e_is at held step =
      step
      ∙ ap (λ ds. ds ++ h.leaf p e.0.now ∷ []) held
      ∙ ap (λ q. hashed (take i es) ++ h.leaf q e.0.now ∷ []) at
      ∙ ap (λ x. hashed (take i es) ++ h.leaf (size rule x.1) x.0.now ∷ []) e_is
      ∙ sym (ap hashed (take_more es i e below) ∙ map-append (λ x. h.leaf (size rule x.1) x.0.now) (take i es) (get_or es i e ∷ []))

  -- the locations with these digests, that are appended to none
  pub located-hashed : (es : List (Bor (List ℕ) × ℕ)) (ds : List D) (none all : List (ℕ × D)) → none ≡ [] → ds ≡ hashed es → all ≡ none ++ zip (map (λ e. e.1) es) ds
      → all ≡ element_leaves h rule es
  located-hashed es ds none all empty same step = step ∙ ap₂ (λ xs ys. xs ++ zip (map (λ e. e.1) es) ys) empty same ∙ zip-hashed es
