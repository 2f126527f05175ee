-- Lists by height that grow.
use Rattle.std.proofs.Common.{◌≡◌, ℕ, zero, suc, ◌+◌, ◌<◌, ◌≤◌, List, [], ◌∷◌, ◌++◌, length, length-append, append-nil, get_or, map, slice_set, cond, arith, refl, sym, ap, ◌∙◌, inl, inr}
use Rattle.std.specs.Prelude.{Vec, ◌==◌}
use Rattle.std.proofs.lemmas.Bool.{eq-eqb, ne_eqb}
use Rattle.std.proofs.lemmas.Bool.Decides.{eqb_tells}
use Rattle.merkle_draft.specs.Levels.{level_at, from_height}

both_more : (h i : ℕ) → (h == i) ≡ (suc h == suc i)
both_more h i = elim (eqb_tells h i) [ inl e ↦ e.0 ∙ sym (eq-eqb (suc h) (suc i) (ap suc e.1)) | inr e ↦ e.0 ∙ sym (ne_eqb (suc h) (suc i) (λ z. e.1 (omega (arith, z)))) ]

pub level_past : {X : Type 0} (ls : List (List X)) (h : ℕ) → length ls ≤ h → level_at ls h ≡ []
level_past [] h past = refl
level_past (l ∷ ls) zero past = absurd (omega (arith, past))
level_past (l ∷ ls) (suc h) past = level_past ls h (omega (arith, past))

pub none_listed : {X : Type 0} (ls : List (List X)) → ((h : ℕ) → level_at ls h ≡ []) → from_height ls 0 ≡ []
none_listed [] empty = refl
none_listed (l ∷ ls) empty = ap (λ xs. xs ++ from_height ls 0) (empty 0) ∙ none_listed ls (λ h. empty (suc h))

module _ {X A : Type 0} where
  -- what is listed in vectors
  abbrev pub in_lists : List (Vec X A) → List (List X)
  in_lists = map (λ v. v.items)

  pub lists_many : (ls : List (Vec X A)) → length (in_lists ls) ≡ length ls
  lists_many [] = refl
  lists_many (v ∷ ls) = ap suc (lists_many ls)

  pub level_listed : (ls : List (Vec X A)) (k : ℕ) (v : Vec X A) → k < length ls → v ≡ get_or ls k v → v.items ≡ level_at (in_lists ls) k
  level_listed [] k v low e = absurd (omega (arith, low))
  level_listed (u ∷ ls) zero v low e = ap (λ w. w.items) e
  level_listed (u ∷ ls) (suc k) v low e = level_listed ls k v (omega (arith, low)) e

  -- ---- an empty list for one more height
  pub level_extended : (ls : List (Vec X A)) (v : Vec X A) → v.items ≡ [] → (h : ℕ) → level_at (in_lists (ls ++ v ∷ [])) h ≡ level_at (in_lists ls) h
  level_extended [] v e zero = e
  level_extended [] v e (suc h) = refl
  level_extended (w ∷ ls) v e zero = refl
  level_extended (w ∷ ls) v e (suc h) = level_extended ls v e h

  pub length_extended : (ls : List (Vec X A)) (v : Vec X A) → v.items ≡ [] → length (from_height (in_lists (ls ++ v ∷ [])) 0) ≡ length (from_height (in_lists ls) 0)
  length_extended [] v e = ap (λ xs. length (xs ++ [])) e
  length_extended (u ∷ ls) v e =
      omega (arith, length_extended ls v e, length-append u.items (from_height (in_lists (ls ++ v ∷ [])) 0), length-append u.items (from_height (in_lists ls) 0))

  -- ---- a position at height i
  pub level_pushed : (ls : List (Vec X A)) (i : ℕ) (v w : Vec X A) (x : X) → i < length ls → v ≡ get_or ls i v → w.items ≡ v.items ++ x ∷ []
      → (h : ℕ) → level_at (in_lists (slice_set ls i w)) h ≡ level_at (in_lists ls) h ++ cond (h == i) (x ∷ []) []
  level_pushed [] i v w x l e k h = absurd (omega arith)
  level_pushed (u ∷ ls) zero v w x l e k zero = k ∙ ap (λ z. z.items ++ x ∷ []) e
  level_pushed (u ∷ ls) zero v w x l e k (suc h) =
      sym (append-nil (level_at (in_lists ls) h)) ∙ ap (λ b. level_at (in_lists ls) h ++ cond b (x ∷ []) []) (sym (ne_eqb (suc h) 0 (λ z. absurd (omega (arith, z)))))
  level_pushed (u ∷ ls) (suc i) v w x l e k zero = sym (append-nil u.items) ∙ ap (λ b. u.items ++ cond b (x ∷ []) []) (sym (ne_eqb 0 (suc i) (λ z. absurd (omega (arith, z)))))
  level_pushed (u ∷ ls) (suc i) v w x l e k (suc h) =
      level_pushed ls i v w x (omega arith) e k h ∙ ap (λ b. level_at (in_lists ls) h ++ cond b (x ∷ []) []) (both_more h i)

  pub length_pushed : (ls : List (Vec X A)) (i : ℕ) (v w : Vec X A) (x : X) → i < length ls → v ≡ get_or ls i v → w.items ≡ v.items ++ x ∷ []
      → length (from_height (in_lists (slice_set ls i w)) 0) ≡ suc (length (from_height (in_lists ls) 0))
  length_pushed [] i v w x l e k = absurd (omega arith)
  length_pushed (u ∷ ls) zero v w x l e k = omega (
    arith,
    ap length k,
    length-append v.items (x ∷ []),
    ap (λ z. length z.items) e,
    length-append w.items (from_height (in_lists ls) 0),
    length-append u.items (from_height (in_lists ls) 0),
  )
  length_pushed (u ∷ ls) (suc i) v w x l e k = omega (
    arith,
    length_pushed ls i v w x (omega arith) e k,
    length-append u.items (from_height (in_lists (slice_set ls i w)) 0),
    length-append u.items (from_height (in_lists ls) 0),
  )

  -- ---- lists that are cleared
  pub level_cleared : (ls : List (Vec X A)) (i : ℕ) (w : Vec X A) → w.items ≡ [] → ((h : ℕ) → h < i → level_at (in_lists ls) h ≡ [])
      → (h : ℕ) → h < i + 1 → level_at (in_lists (slice_set ls i w)) h ≡ []
  level_cleared [] i w e low h l = refl
  level_cleared (u ∷ ls) zero w e low zero l = e
  level_cleared (u ∷ ls) zero w e low (suc h) l = absurd (omega (arith, l))
  level_cleared (u ∷ ls) (suc i) w e low zero l = low 0 (omega arith)
  level_cleared (u ∷ ls) (suc i) w e low (suc h) l = level_cleared ls i w e (λ k m. low (suc k) (omega (arith, m))) h (omega (arith, l))
