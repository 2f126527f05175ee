-- The first difference of inputs in three parts: the root, the folds, the nodes.
use Rattle.std.proofs.Common.{◌≡◌, ℕ, arith, Bool, true, false, cond, List, [], ◌∷◌, ◌++◌, inl, inr, refl, ap, ap₂, sym, ◌∙◌, subst, Option, Some, None}
use Rattle.std.proofs.lemmas.Bool.{and_parts}
use Rattle.merkle_base.specs.Hashing.{Hashing}
use Rattle.merkle_root_theory.specs.Expression.{Place, Input}
use Rattle.merkle_root_theory.specs.Collision.{Member, Collision}
use Rattle.merkle_claim_theory.specs.FirstCollision.{or_else}
use Rattle.merkle_claim_theory.proofs.FirstCollisions.{Decides-place}
use Rattle.merkle_audit_theory.specs.Cuts.{places_in}
use Rattle.merkle_audit_theory.specs.Differences.{is_difference, difference_for, first_difference}
use Rattle.merkle_audit_theory.specs.Tiers.{tier, AreOfTier}
use Rattle.merkle_audit_theory.proofs.Cursors.{is_false}

one_nil : ◌≡◌ {A = ℕ} 1 0 → ⊥
one_nil e = omega (arith, e)

two_nil : ◌≡◌ {A = ℕ} 2 0 → ⊥
two_nil e = omega (arith, e)

one_two : ◌≡◌ {A = ℕ} 1 2 → ⊥
one_two e = omega (arith, e)

pub or_assoc : {A : Type 0} (a b c : Option A) → or_else (or_else a b) c ≡ or_else a (or_else b c)
or_assoc None b c = refl
or_assoc (Some x) b c = refl

module _ {D : Type 0} (h : Hashing D) where
  found : Input D → Input D → Collision D
  found x y = record { place = y.place; claimed = x.argument; listed = y.argument }

  -- of claimed inputs in two parts
  for_parts : (xs zs : List (Input D)) (y : Input D) → difference_for h (xs ++ zs) y ≡ or_else (difference_for h xs y) (difference_for h zs y)
  for_parts [] zs y = refl
  for_parts (x ∷ xs) zs y = at_test (is_difference h x y) (for_parts xs zs y)
    where
      at_test : (b : Bool) → difference_for h (xs ++ zs) y ≡ or_else (difference_for h xs y) (difference_for h zs y)
          → cond b (Some (record { place = y.place; claimed = x.argument; listed = y.argument })) (difference_for h (xs ++ zs) y)
          ≡ or_else (cond b (Some (record { place = y.place; claimed = x.argument; listed = y.argument })) (difference_for h xs y)) (difference_for h zs y)
      at_test true e = refl
      at_test false e = e

  -- none stands at its place
  for_none : (xs : List (Input D)) (y : Input D) → (Member (places_in xs) y.place → ⊥) → difference_for h xs y ≡ None
  for_none [] y n = refl
  for_none (x ∷ xs) y n =
      ap (λ b. cond b (Some (record { place = y.place; claimed = x.argument; listed = y.argument })) (difference_for h xs y))
      (is_false (is_difference h x y) (λ q. n (inl ((Decides-place x.place y.place).0 (and_parts _ _ q).0))))
      ∙ for_none xs y (λ m. n (inr m))

  -- of listed inputs in two parts
  pub first_parts : (xs ys zs : List (Input D)) → first_difference h xs (ys ++ zs) ≡ or_else (first_difference h xs ys) (first_difference h xs zs)
  first_parts xs [] zs = refl
  first_parts xs (y ∷ ys) zs =
      ap (λ o. or_else (difference_for h xs y) o) (first_parts xs ys zs)
      ∙ sym (or_assoc (difference_for h xs y) (first_difference h xs ys) (first_difference h xs zs))

  Apart : List (Input D) → List (Input D) → Type 0
  Apart xs ys = (p : Place) → Member (places_in xs) p → Member (places_in ys) p → ⊥

  -- what stands nowhere in the listed inputs finds nothing
  first_left : (xs zs ys : List (Input D)) → Apart zs ys → first_difference h (xs ++ zs) ys ≡ first_difference h xs ys
  unfolding Apart
  first_left xs zs [] a = refl
  first_left xs zs (y ∷ ys) a =
      ap₂ or_else
      (for_parts xs zs y ∙ ap (λ o. or_else (difference_for h xs y) o) (for_none zs y (λ m. a y.place m (inl refl))) ∙ or_none (difference_for h xs y))
      (first_left xs zs ys (λ p m n. a p m (inr n)))
    where
      or_none : (o : Option (Collision D)) → or_else o None ≡ o
      or_none None = refl
      or_none (Some c) = refl

  first_right : (xs zs ys : List (Input D)) → Apart xs ys → first_difference h (xs ++ zs) ys ≡ first_difference h zs ys
  unfolding Apart
  first_right xs zs [] a = refl
  first_right xs zs (y ∷ ys) a =
      ap₂ or_else
      (for_parts xs zs y ∙ ap (λ o. or_else o (difference_for h zs y)) (for_none xs y (λ m. a y.place m (inl refl))))
      (first_right xs zs ys (λ p m n. a p m (inr n)))

  tier_of : (n : ℕ) (xs : List (Input D)) → AreOfTier n xs → (p : Place) → Member (places_in xs) p → tier p ≡ n
  tier_of n [] a p m = absurd m
  tier_of n (x ∷ xs) a p (inl e) = subst (λ q. tier q ≡ n) e a.0
  tier_of n (x ∷ xs) a p (inr m) = tier_of n xs a.1 p m

  tiers_apart : (n m : ℕ) (xs ys : List (Input D)) → AreOfTier n xs → AreOfTier m ys → (n ≡ m → ⊥) → Apart xs ys
  unfolding Apart
  tiers_apart n m xs ys a b d p u v = d (sym (tier_of n xs a p u) ∙ tier_of m ys b p v)

  -- first the root's strings are compared, then the folds, then the nodes
  pub in_parts : (a b : Input D) (fx nx fy ny : List (Input D)) → tier a.place ≡ 0 → tier b.place ≡ 0
      → AreOfTier 1 fx → AreOfTier 2 nx → AreOfTier 1 fy → AreOfTier 2 ny
      → first_difference h (a ∷ fx ++ nx) (b ∷ fy ++ ny)
      ≡ or_else (difference_for h (a ∷ []) b) (or_else (first_difference h fx fy) (first_difference h nx ny))
  in_parts a b fx nx fy ny ta tb tfx tnx tfy tny =
      let top : AreOfTier 0 (a ∷ []) = (ta, tt) in
      let root : difference_for h ((a ∷ []) ++ (fx ++ nx)) b ≡ difference_for h (a ∷ []) b =
      for_parts (a ∷ []) (fx ++ nx) b ∙ ap (λ o. or_else (difference_for h (a ∷ []) b) o)
      (for_parts fx nx b ∙ ap₂ or_else (for_none fx b (λ m. away 1 0 fx b tfx tb one_nil m)) (for_none nx b (λ m. away 2 0 nx b tnx tb two_nil m)))
      ∙ or_none (difference_for h (a ∷ []) b) in
      let folds : first_difference h ((a ∷ []) ++ (fx ++ nx)) fy ≡ first_difference h fx fy =
      first_right (a ∷ []) (fx ++ nx) fy (tiers_apart 0 1 (a ∷ []) fy top tfy (λ e. one_nil (sym e))) ∙ first_left fx nx fy (tiers_apart 2 1 nx fy tnx tfy (λ e. one_two (sym e))) in
      let nodes : first_difference h ((a ∷ []) ++ (fx ++ nx)) ny ≡ first_difference h nx ny =
      first_right (a ∷ []) (fx ++ nx) ny (tiers_apart 0 2 (a ∷ []) ny top tny (λ e. two_nil (sym e))) ∙ first_right fx nx ny (tiers_apart 1 2 fx ny tfx tny one_two) in
      ap₂ or_else root (first_parts (a ∷ fx ++ nx) fy ny ∙ ap₂ or_else folds nodes)
    where
      or_none : (o : Option (Collision D)) → or_else o None ≡ o
      or_none None = refl
      or_none (Some c) = refl

      away : (n m : ℕ) (xs : List (Input D)) (y : Input D) → AreOfTier n xs → tier y.place ≡ m → (n ≡ m → ⊥) → Member (places_in xs) y.place → ⊥
      away n m xs y t e d u = d (sym (tier_of n xs t y.place u) ∙ e)
