-- Where each difference has one digest or stands after another, the first difference is the first collision.
use Rattle.std.proofs.Common.{◌≡◌, ◌≢◌, Bool, true, false, cond, ◌&&◌, List, [], ◌∷◌, ◌⊎◌, inl, inr, refl, ap, ap₂, sym, ◌∙◌, subst, ⊎_elim, Decides, Option, Some, None, MatchOption}
use Rattle.std.proofs.lemmas.Bool.Decides.{Decides-and, Decides-not}
use Rattle.std.proofs.lemmas.Bool.{false≢true}
use Rattle.merkle_base.specs.Hashing.{Hashing, EqDecides}
use Rattle.merkle_root_theory.specs.Expression.{digest_of_argument, Input}
use Rattle.merkle_root_theory.specs.Collision.{Member, Collision}
use Rattle.merkle_claim_theory.specs.FirstCollision.{or_else, first_for, first_collision}
use Rattle.merkle_claim_theory.specs.Order.{Distinct}
use Rattle.merkle_claim_theory.proofs.FirstCollisions.{Decides-place, Decides-argument}
use Rattle.merkle_claim_theory.proofs.PlacesOnce.{member_map}
use Rattle.merkle_audit_theory.specs.Cuts.{places_in}
use Rattle.merkle_audit_theory.specs.Differences.{is_difference, difference_for, first_difference}
use Rattle.merkle_audit_theory.proofs.Precedence.{Before, before_last}

and_when : (a b : Bool) → (a ≡ true → b ≡ true) → a ≡ (a && b)
and_when true b w = sym (w refl)
and_when false b w = refl

module _ {D : Type 0} (h : Hashing D) (laws : EqDecides h) where
  abbrev pub digest_of : Input D → D
  digest_of x = digest_of_argument h x.place x.argument

  abbrev pub Differ : Input D → Input D → Type 0
  Differ x y = (x.place ≡ y.place) × (x.argument ≢ y.argument)

  Decides-difference : (x y : Input D) → Decides (is_difference h x y) (Differ x y)
  Decides-difference x y = Decides-and _ _ (Decides-place x.place y.place) (Decides-not _ (Decides-argument h laws x.argument y.argument))

  -- each difference at y has one digest
  same_for : (xs : List (Input D)) (y : Input D) → ((x : Input D) → Member xs x → Differ x y → digest_of x ≡ digest_of y) → difference_for h xs y ≡ first_for h xs y
  same_for [] y w = refl
  same_for (x ∷ xs) y w =
      ap₂ (λ b o. cond b (Some (record { place = y.place; claimed = x.argument; listed = y.argument })) o)
      (and_when (is_difference h x y) (h.same (digest_of x) (digest_of y)) (λ q. (laws (digest_of x) (digest_of y)).1 (w x (inl refl) ((Decides-difference x y).0 q))))
      (same_for xs y (λ z m d. w z (inr m) d))

  Finds : List (Input D) → Input D → Option (Collision D) → Type 0
  Finds xs y o = MatchOption o ((x : Input D) → Member xs x → Differ x y → ⊥) (λ c. Unit {0})

  finds : (xs : List (Input D)) (y : Input D) → Finds xs y (difference_for h xs y)
  unfolding Finds
  finds [] y = λ x m w. m
  finds (x ∷ xs) y = at_test (is_difference h x y) (Decides-difference x y) (difference_for h xs y) (finds xs y)
    where
      at_test : (b : Bool) → Decides b (Differ x y) → (o : Option (Collision D)) → Finds xs y o
          → Finds (x ∷ xs) y (cond b (Some (record { place = y.place; claimed = x.argument; listed = y.argument })) o)
      at_test true d o f = tt
      at_test false d None f = λ z. elim [ inl e ↦ λ w. false≢true (d.1 (subst (λ v. Differ v y) (sym e) w)) | inr m ↦ λ w. f z m w ]
      at_test false d (Some c) f = tt

  -- each difference has one digest, or stands after another
  unfoldable pub Explained : List (Input D) → List (Input D) → Type 0
  Explained xs ys = (x y : Input D) → Member xs x → Member ys y → Differ x y
      → (digest_of x ≡ digest_of y) ⊎ ((x' : Input D) × (y' : Input D) × Member xs x' × Before ys y' y × Differ x' y')

  step : (xs ys : List (Input D)) (y : Input D) → Distinct (places_in (y ∷ ys)) → Explained xs (y ∷ ys) → (Explained xs ys → first_difference h xs ys ≡ first_collision h xs ys)
      → (o : Option (Collision D)) → difference_for h xs y ≡ o → Finds xs y o → or_else (difference_for h xs y) (first_difference h xs ys) ≡ or_else (first_for h xs y) (first_collision h xs ys)
  unfolding Explained Finds
  step xs ys y d w next None e none = ap₂ or_else (same_for xs y (λ x m v. absurd (none x m v)))
      (next (λ x z m n v. ⊎_elim inl (λ b. inr (b.0, b.1, b.2, ⊎_elim (λ t. absurd (none b.0 b.2 (subst (Differ b.0) (sym t.0) b.4))) (λ t. t) b.3, b.4)) (w x z m (inr n) v)))
  step xs ys y d w next (Some c) e f =
      let once : Member ys y → ⊥ = λ m. d.0 (member_map (λ (i : Input D). i.place) ys y m) in
      let same : difference_for h xs y ≡ first_for h xs y =
      same_for xs y (λ x m v. ⊎_elim (λ g. g) (λ b. absurd (⊎_elim (λ t. once t.1) (λ t. once (before_last ys b.1 y t)) b.3)) (w x y m (inl refl) v)) in
      ap (λ o. or_else o (first_difference h xs ys)) e ∙ sym (ap (λ o. or_else o (first_collision h xs ys)) (sym same ∙ e))

  pub first_is_collision : (xs ys : List (Input D)) → Distinct (places_in ys) → Explained xs ys → first_difference h xs ys ≡ first_collision h xs ys
  unfolding Explained
  first_is_collision xs [] d w = refl
  first_is_collision xs (y ∷ ys) d w = step xs ys y d w (λ v. first_is_collision xs ys d.1 v) (difference_for h xs y) refl (finds xs y)
