-- A digest by the index of its position.
use Rattle.std.proofs.Common.{◌≡◌, ℕ, suc, ◌+◌, Bool, true, false, not, cond, nat_lt, ◌==◌, List, [], ◌∷◌, length, slice_get, Option, Some, None, refl, ap, ap₂}
use Rattle.std.proofs.Common.{sym, ◌∙◌, ⊎_elim, arith, lt-ltb, le-ltb}
use Rattle.std.proofs.lemmas.Bool.{cases_lt}
use Rattle.std.specs.List.{position, position_or_len}
use Rattle.merkle_base.specs.Table.{digest_for}

abbrev pub at_index : {D : Type 0} → List D → Option ℕ → Option D
at_index ds o = elim o [ Some i ↦ slice_get ds i | None ↦ None ]

same_test : (m n : ℕ) → nat_lt (1 + m) (suc n) ≡ nat_lt m n
same_test m n =
    ⊎_elim (λ l. lt-ltb (1 + m) (suc n) (omega (arith, l)) ∙ sym (lt-ltb m n l)) (λ l. le-ltb (1 + m) (suc n) (omega (arith, l)) ∙ sym (le-ltb m n l)) (cases_lt m n)

nothing : {D : Type 0} (o : Option ℕ) → ◌≡◌ {A = Option D} None (at_index [] o)
nothing None = refl
nothing (Some i) = refl

later : {D : Type 0} (d : D) (ds : List D) (c : Bool) (m : ℕ) → at_index ds (cond c (Some m) None) ≡ at_index (d ∷ ds) (cond c (Some (suc m)) None)
later d ds true m = refl
later d ds false m = refl

one_more : (m : ℕ) → suc m ≡ 1 + m
one_more m = omega arith

next : {D : Type 0} (ps : List ℕ) (ds : List D) (p : ℕ) (d : D) (b : Bool) → digest_for ps ds p ≡ at_index ds (position (λ q. q == p) ps)
    → cond b (Some d) (digest_for ps ds p)
    ≡ at_index (d ∷ ds) (cond (nat_lt (cond (not b) (1 + position_or_len (λ q. q == p) ps) 0) (suc (length ps))) (Some (cond (not b) (1 + position_or_len (λ q. q == p) ps) 0)) None)
next ps ds p d true e = ap (λ c. at_index (d ∷ ds) (cond c (Some 0) None)) (sym (lt-ltb 0 (suc (length ps)) (omega arith)))
next ps ds p d false e =
    let m = position_or_len (λ q. q == p) ps in
    e ∙ later d ds (nat_lt m (length ps)) m
    ∙ ap₂ (λ c k. at_index (d ∷ ds) (cond c (Some k) None)) (sym (same_test m (length ps))) (one_more m)

pub digest_by_index : {D : Type 0} (ps : List ℕ) (ds : List D) (p : ℕ) → digest_for ps ds p ≡ at_index ds (position (λ q. q == p) ps)
digest_by_index [] ds p = refl
digest_by_index (q ∷ ps) [] p = nothing (position (λ q. q == p) (q ∷ ps))
digest_by_index (q ∷ ps) (d ∷ ds) p = next ps ds p d (q == p) (digest_by_index ps ds p)
