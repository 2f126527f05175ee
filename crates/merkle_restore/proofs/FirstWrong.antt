-- The first wrong one of some parents, list by list.
use Rattle.std.proofs.Common.{◌≡◌, ℕ, List, [], ◌∷◌, ◌++◌, Bool, true, false, cond, Option, Some, None, refl, sym, ap, ◌∙◌, subst, append_assoc}
use Rattle.std.specs.Prelude.{is_some}
use Rattle.merkle_base.specs.Hashing.{Hashing}
use Rattle.merkle_base.proofs.Cases.{by_test}
use Rattle.merkle_restore.specs.HeldParents.{is_other, first_wrong, Finds}

module _ {D : Type 0} (h : Hashing D) (node : ℕ → Option D) where
  abbrev wrong : ℕ × D × D → Bool
  wrong e = is_other h.same (node e.0) (h.node e.0 e.1 e.2)

  pub is_wrong : (e : ℕ × D × D) (es : List (ℕ × D × D)) → is_other h.same (node e.0) (h.node e.0 e.1 e.2) ≡ true → first_wrong h node (e ∷ es) ≡ Some e.0
  is_wrong e es t = ap (λ b. cond b (Some e.0) (first_wrong h node es)) t

  pub not_wrong : (e : ℕ × D × D) (es : List (ℕ × D × D)) → is_other h.same (node e.0) (h.node e.0 e.1 e.2) ≡ false → first_wrong h node (e ∷ es) ≡ first_wrong h node es
  not_wrong e es f = ap (λ b. cond b (Some e.0) (first_wrong h node es)) f

  -- one of the parents before is wrong, or else the first wrong one of those after is the first of all
  pub wrong_before : (xs ys : List (ℕ × D × D)) (p : ℕ) → first_wrong h node xs ≡ Some p → first_wrong h node (xs ++ ys) ≡ Some p
  wrong_before [] ys p e = absurd (cc)
  wrong_before (x ∷ xs) ys p e =
      by_test (λ b. cond b (Some x.0) (first_wrong h node xs) ≡ Some p → cond b (Some x.0) (first_wrong h node (xs ++ ys)) ≡ Some p) (wrong x)
      (λ _ d. d) (λ _ d. wrong_before xs ys p d) e

  pub wrong_after : (xs ys : List (ℕ × D × D)) → first_wrong h node xs ≡ None → first_wrong h node (xs ++ ys) ≡ first_wrong h node ys
  wrong_after [] ys e = refl
  wrong_after (x ∷ xs) ys e =
      by_test (λ b. cond b (Some x.0) (first_wrong h node xs) ≡ None → cond b (Some x.0) (first_wrong h node (xs ++ ys)) ≡ first_wrong h node ys) (wrong x)
      (λ _ d. absurd (let z : Some x.0 ≡ None = d in cc)) (λ _ d. wrong_after xs ys d) e

  -- what is found in the parents before
  pub finds_before : (found : Option ℕ) (xs ys : List (ℕ × D × D)) → found ≡ first_wrong h node xs → Finds h node found (xs ++ ys) ys
  finds_before None xs ys e = wrong_after xs ys (sym e)
  finds_before (Some p) xs ys e = wrong_before xs ys p (sym e)

  -- and after them
  pub finds_after : (found : Option ℕ) (xs ys zs : List (ℕ × D × D)) → first_wrong h node xs ≡ first_wrong h node ys → Finds h node found ys zs → Finds h node found xs zs
  finds_after None xs ys zs e f = e ∙ f
  finds_after (Some p) xs ys zs e f = e ∙ f

  pub finds_none : (found : Option ℕ) (xs ys : List (ℕ × D × D)) → found ≡ None → Finds h node found xs ys → first_wrong h node xs ≡ first_wrong h node ys
  finds_none None xs ys e f = f
  finds_none (Some p) xs ys e f = absurd (cc)

  pub finds_some : (found : Option ℕ) (xs ys : List (ℕ × D × D)) (p : ℕ) → found ≡ Some p → Finds h node found xs ys → first_wrong h node xs ≡ found
  finds_some None xs ys p e f = absurd (cc)
  finds_some (Some q) xs ys p e f = f

  -- after a test whether one was found
  pub none_then : (found : Option ℕ) (xs ys : List (ℕ × D × D)) → found ≡ first_wrong h node xs → is_some found ≡ false → first_wrong h node (xs ++ ys) ≡ first_wrong h node ys
  none_then None xs ys e t = wrong_after xs ys (sym e)
  none_then (Some p) xs ys e t = absurd (cc)

  pub some_then : (found : Option ℕ) (xs ys : List (ℕ × D × D)) → found ≡ first_wrong h node xs → is_some found ≡ true → first_wrong h node (xs ++ ys) ≡ found
  some_then None xs ys e t = absurd (cc)
  some_then (Some p) xs ys e t = wrong_before xs ys p (sym e)

  -- ---- nodes that wait: w, then x, and those that come later
  pub refused_found : (found : Option ℕ) (w later new : List (ℕ × D × D)) (x : ℕ × D × D) → found ≡ first_wrong h node w → is_some found ≡ true → Finds h node found (w ++ x ∷ later) (new ++ later)
  refused_found None w later new x e t = absurd (cc)
  refused_found (Some p) w later new x e t = wrong_before w (x ∷ later) p (sym e)

  pub refused : (found last : Option ℕ) (w later new : List (ℕ × D × D)) (x : ℕ × D × D) → found ≡ first_wrong h node w → is_some found ≡ false
      → last ≡ first_wrong h node (x ∷ []) → new ≡ [] → Finds h node last (w ++ x ∷ later) (new ++ later)
  refused found last w later new x e t f none =
      subst (λ ys. Finds h node last (w ++ x ∷ later) (ys ++ later)) (sym none)
      (finds_after last (w ++ x ∷ later) (x ∷ later) later (none_then found w (x ∷ later) e t) (finds_before last (x ∷ []) later f))

  pub waits : (w later new : List (ℕ × D × D)) (x : ℕ × D × D) → new ≡ w ++ x ∷ [] → Finds h node None (w ++ x ∷ later) (new ++ later)
  waits w later new x e = ap (first_wrong h node) (sym (ap (λ ys. ys ++ later) e ∙ append_assoc w (x ∷ []) later))

  pub full : (found : Option ℕ) (w later all new : List (ℕ × D × D)) (x : ℕ × D × D) → all ≡ w ++ x ∷ [] → found ≡ first_wrong h node all → new ≡ []
      → Finds h node found (w ++ x ∷ later) (new ++ later)
  full found w later all new x e f none =
      let one : w ++ x ∷ later ≡ all ++ later = sym (ap (λ ys. ys ++ later) e ∙ append_assoc w (x ∷ []) later) in
      subst (λ ys. Finds h node found (w ++ x ∷ later) (ys ++ later)) (sym none)
      (finds_after found (w ++ x ∷ later) (all ++ later) later (ap (first_wrong h node) one) (finds_before found all later f))

  -- ---- after parents that were passed
  pub finds_any : (found : Option ℕ) (xs ys zs us : List (ℕ × D × D)) → is_some found ≡ true → first_wrong h node xs ≡ first_wrong h node ys → Finds h node found ys zs → Finds h node found xs us
  finds_any None xs ys zs us t e f = absurd (cc)
  finds_any (Some p) xs ys zs us t e f = e ∙ f

  pub finds_on : (found : Option ℕ) (xs ys zs : List (ℕ × D × D)) → is_some found ≡ false → first_wrong h node xs ≡ first_wrong h node ys
      → Finds h node found ys zs → first_wrong h node xs ≡ first_wrong h node zs
  finds_on None xs ys zs t e f = e ∙ f
  finds_on (Some p) xs ys zs t e f = absurd (cc)

  pub is_found : (found : Option ℕ) (xs ys zs : List (ℕ × D × D)) → is_some found ≡ true → first_wrong h node xs ≡ first_wrong h node ys → Finds h node found ys zs → found ≡ first_wrong h node xs
  is_found None xs ys zs t e f = absurd (cc)
  is_found (Some p) xs ys zs t e f = sym (e ∙ f)
