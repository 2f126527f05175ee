-- The leaf digests of elements, and of some more of them.
use Rattle.std.proofs.Common.{◌≡◌, ℕ, zero, suc, ◌+◌, ◌<◌, List, [], ◌∷◌, ◌++◌, length, take, drop, get_or, append-nil, arith, refl, sym, ap, ◌∙◌}
use Rattle.std.specs.Borrow.{Bor}
use Rattle.std.proofs.lemmas.List.{append_assoc, take_more, length-take-le, length-map, map-append}
use Rattle.merkle_base.specs.Forest.{size}
use Rattle.merkle_base.specs.Hashing.{Hashing}
use Rattle.merkle_hasher.specs.LeafDigests.{bytes_of, leaf_digests, positioned_digests}

-- the leaf digests of elements are as many as these
pub length-leaf_digests : {D : Type 0} (h : Hashing D) (rule : List ℕ → List ℕ) (a : ℕ) (es : List (List ℕ)) → length (leaf_digests h rule a es) ≡ length es
length-leaf_digests h rule a [] = refl
length-leaf_digests h rule a (e ∷ es) = ap suc (length-leaf_digests h rule (suc a) es)

-- the leaf digests of elements and more elements
pub leaf_digests-append : {D : Type 0} (h : Hashing D) (rule : List ℕ → List ℕ) (a : ℕ) (es fs : List (List ℕ))
    → leaf_digests h rule a (es ++ fs) ≡ leaf_digests h rule a es ++ leaf_digests h rule (a + length es) fs
leaf_digests-append h rule a [] fs = ap (λ k. leaf_digests h rule k fs) (omega arith)
leaf_digests-append h rule a (e ∷ es) fs =
    ap (λ ds. h.leaf (size rule a) e ∷ ds) (leaf_digests-append h rule (suc a) es fs ∙ ap (λ k. leaf_digests h rule (suc a) es ++ leaf_digests h rule k fs) (omega arith))

module _ {D : Type 0} (h : Hashing D) (rule : List ℕ → List ℕ) where
  -- the leaf digests of the first elements
  leaf_digests-take : (a k : ℕ) (es : List (List ℕ)) → take k (leaf_digests h rule a es) ≡ leaf_digests h rule a (take k es)
  leaf_digests-take a zero [] = refl
  leaf_digests-take a zero (e ∷ es) = refl
  leaf_digests-take a (suc k) [] = refl
  leaf_digests-take a (suc k) (e ∷ es) = ap (λ ds. h.leaf (size rule a) e ∷ ds) (leaf_digests-take (suc a) k es)

  -- those of the elements after the first m
  leaf_digests-drop : (a m : ℕ) (es : List (List ℕ)) → drop m (leaf_digests h rule a es) ≡ leaf_digests h rule (a + m) (drop m es)
  leaf_digests-drop a zero es = ap (λ n. leaf_digests h rule n es) (omega arith)
  leaf_digests-drop a (suc m) [] = refl
  leaf_digests-drop a (suc m) (e ∷ es) = leaf_digests-drop (suc a) m es ∙ ap (λ n. leaf_digests h rule n (drop m es)) (omega arith)

  pub leaf_digests-part : (a m k : ℕ) (es : List (List ℕ)) → take k (drop m (leaf_digests h rule a es)) ≡ leaf_digests h rule (a + m) (take k (drop m es))
  leaf_digests-part a m k es = ap (take k) (leaf_digests-drop a m es) ∙ leaf_digests-take (a + m) k (drop m es)

-- those that are appended to none
pub leaves_given : {D : Type 0} (h : Hashing D) (rule : List ℕ → List ℕ) (a : ℕ) (es : List (Bor (List ℕ))) (none all read : List D)
    → none ≡ [] → all ≡ none ++ leaf_digests h rule a (bytes_of es) → read ≡ all → read ≡ leaf_digests h rule a (bytes_of es)
leaves_given h rule a es none all read empty appended same = same ∙ appended ∙ ap (λ xs. xs ++ leaf_digests h rule a (bytes_of es)) empty

module _ {D : Type 0} (h : Hashing D) where
  -- the digests so far and those of one waiting leaf more
  pub positioned_digests-push : (ds : List D) (held now : List (ℕ × Bor (List ℕ))) (p : ℕ) (e : Bor (List ℕ)) → now ≡ held ++ (p, e) ∷ []
      → ds ++ positioned_digests h now ≡ (ds ++ positioned_digests h held) ++ h.leaf p e.now ∷ []
  positioned_digests-push ds held now p e pushed =
      ap (λ ls. ds ++ positioned_digests h ls) pushed
      ∙ ap (λ xs. ds ++ xs) (map-append (λ l. h.leaf l.0 l.1.now) held ((p, e) ∷ []))
      ∙ sym (append_assoc ds (positioned_digests h held) (h.leaf p e.now ∷ []))

  -- those so far, once no leaf waits any more
  pub positioned_digests-hashed : (ds after : List D) (waiting read rest : List (ℕ × Bor (List ℕ))) → rest ≡ [] → read ≡ waiting → after ≡ ds ++ positioned_digests h read
      → after ++ positioned_digests h rest ≡ ds ++ positioned_digests h waiting
  positioned_digests-hashed ds after waiting read rest empty same step =
      ap (λ ls. after ++ positioned_digests h ls) empty ∙ append-nil after ∙ step ∙ ap (λ ls. ds ++ positioned_digests h ls) same

module _ {D : Type 0} (h : Hashing D) (rule : List ℕ → List ℕ) where
  -- those of one element more
  pub leaf_digests-more : (a i : ℕ) (es : List (Bor (List ℕ))) (d : Bor (List ℕ)) → i < length es
      → leaf_digests h rule a (bytes_of (take i es)) ++ h.leaf (size rule (a + i)) (get_or es i d).now ∷ [] ≡ leaf_digests h rule a (bytes_of (take (i + 1) es))
  leaf_digests-more a i es d below =
      let first : List (List ℕ) = bytes_of (take i es) in
      let next : List ℕ = (get_or es i d).now in
      let long : length first ≡ i = length-map (take i es) (λ e. e.now) ∙ length-take-le i es (omega (arith, below)) in
      sym (ap (λ fs. leaf_digests h rule a (bytes_of fs)) (take_more es i d below)
      ∙ ap (leaf_digests h rule a) (map-append (λ e. e.now) (take i es) (get_or es i d ∷ []))
      ∙ leaf_digests-append h rule a first (next ∷ [])
      ∙ ap (λ n. leaf_digests h rule a first ++ h.leaf (size rule (a + n)) next ∷ []) long)

  -- those of one element more, of which the last are waited for
  pub leaf_digests-queued : (a i : ℕ) (es : List (Bor (List ℕ))) (d : Bor (List ℕ)) (p at : ℕ) (old before waiting after still : List D) → i < length es → at ≡ a + i → p ≡ size rule at
      → before ++ waiting ≡ old ++ leaf_digests h rule a (bytes_of (take i es)) → after ++ still ≡ (before ++ waiting) ++ h.leaf p (get_or es i d).now ∷ []
      → after ++ still ≡ old ++ leaf_digests h rule a (bytes_of (take (i + 1) es))
  leaf_digests-queued a i es d p at old before waiting after still below eat ep held step =
      step
      ∙ ap (λ ds. ds ++ h.leaf p (get_or es i d).now ∷ []) held
      ∙ append_assoc old (leaf_digests h rule a (bytes_of (take i es))) (h.leaf p (get_or es i d).now ∷ [])
      ∙ ap (λ q. old ++ (leaf_digests h rule a (bytes_of (take i es)) ++ h.leaf q (get_or es i d).now ∷ [])) (ep ∙ ap (size rule) eat)
      ∙ ap (λ ds. old ++ ds) (leaf_digests-more a i es d below)
