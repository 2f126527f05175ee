-- The folds that are appended, one of which is written after those below it.
use Rattle.std.proofs.Common.{◌≡◌, List, [], ◌∷◌, ◌++◌, length, map, slice_set, refl, ap, ap₂}
use Rattle.merkle_base.proofs.Lists.{cons_head, cons_tail}
use Rattle.merkle_root_theory.specs.Expression.{Input}
use Rattle.merkle_walks.specs.declared.top.Fold.{Fold}
use Rattle.merkle_walks.specs.Hashed.{fold_at}

no_end : {A : Type 0} (x : A) (xs : List A) → [] ≡ x ∷ xs → ⊥
no_end x xs e = cc

module _ {F D : Type 0} where
  pub mapped_push : (xs : List (Fold F D)) (x : Fold F D) → map fold_at (xs ++ x ∷ []) ≡ map fold_at xs ++ fold_at x ∷ []
  mapped_push [] x = refl
  mapped_push (w ∷ xs) x = ap (λ l. fold_at w ∷ l) (mapped_push xs x)

  -- an entry that others follow is written
  pub written : (xs ys : List (Fold F D)) (zs : List (Input D)) (x : Input D) (v : Fold F D) → map fold_at ys ≡ map fold_at xs ++ x ∷ zs
      → map fold_at (slice_set ys (length xs) v) ≡ map fold_at xs ++ fold_at v ∷ zs
  written [] [] zs x v e = absurd (no_end x zs e)
  written [] (y ∷ ys) zs x v e = ap (λ l. fold_at v ∷ l) (cons_tail _ _ _ _ e)
  written (w ∷ xs) [] zs x v e = absurd (no_end _ _ e)
  written (w ∷ xs) (y ∷ ys) zs x v e = ap₂ (λ a l. a ∷ l) (cons_head _ _ _ _ e) (written xs ys zs x v (cons_tail _ _ _ _ e))
