-- What the tests find is the first collision.
use Rattle.std.proofs.Common.{◌≡◌, ◌≢◌, Bool, true, false, cond, List, [], ◌∷◌, ◌⊎◌, inl, inr, refl, ap, ap₂, sym, ◌∙◌, Decides, ◌&&◌, ◌==◌, bytes_eq, Option, Some, None, MatchOption, subst, ⊎_elim}
use Rattle.std.proofs.lemmas.Slice.Eq.{bytes_eq-Decides}
use Rattle.std.proofs.lemmas.Bool.Decides.{Decides-eqb, Decides-and, Decides-not}
use Rattle.std.proofs.lemmas.Bool.{false≢true}
use Rattle.merkle_root_theory.specs.Expression.{Place, Root, Join, PrefixFold, SuffixFold, Node, Argument, Pair, Bytes, digest_of_argument, Input}
use Rattle.merkle_base.specs.Hashing.{Hashing, EqDecides}
use Rattle.merkle_root_theory.specs.Collision.{Member, Collision, Collides}
use Rattle.merkle_claim_theory.specs.FirstCollision.{same_place, same_argument, is_collision, or_else, first_for, first_collision, IsFirstCollision, FindsFirst}

pub Decides-place : (p q : Place) → Decides (same_place p q) (p ≡ q)
Decides-place Root Root = (λ _. refl, λ _. refl)
Decides-place Join Join = (λ _. refl, λ _. refl)
Decides-place (PrefixFold i) (PrefixFold j) = let d : Decides (i == j) (i ≡ j) = Decides-eqb i j in (λ e. ap PrefixFold (d.0 e), λ e. d.1 cc)
Decides-place (SuffixFold i) (SuffixFold j) = let d : Decides (i == j) (i ≡ j) = Decides-eqb i j in (λ e. ap SuffixFold (d.0 e), λ e. d.1 cc)
Decides-place (Node i) (Node j) = let d : Decides (i == j) (i ≡ j) = Decides-eqb i j in (λ e. ap Node (d.0 e), λ e. d.1 cc)
Decides-place _ _ = (λ e. cc, λ e. cc)

module _ {D : Type 0} (h : Hashing D) (laws : EqDecides h) where
  pub Decides-argument : (a b : Argument D) → Decides (same_argument h a b) (a ≡ b)
  Decides-argument (Pair a b) (Pair c d) = let e : Decides (h.same a c && h.same b d) ((a ≡ c) × (b ≡ d)) = Decides-and _ _ (laws a c) (laws b d) in
      (λ t. ap₂ Pair (e.0 t).0 (e.0 t).1, λ p. e.1 (cc, cc))
  Decides-argument (Bytes a) (Bytes b) = let e : Decides (bytes_eq a b) (a ≡ b) = bytes_eq-Decides a b in (λ t. ap Bytes (e.0 t), λ p. e.1 cc)
  Decides-argument (Pair a b) (Bytes c) = (λ e. cc, λ e. cc)
  Decides-argument (Bytes c) (Pair a b) = (λ e. cc, λ e. cc)

  -- one place, two arguments, one digest
  Hits : Input D → Input D → Type 0
  Hits x y = (x.place ≡ y.place) × (x.argument ≢ y.argument) × (digest_of_argument h x.place x.argument ≡ digest_of_argument h y.place y.argument)

  Decides-collision : (x y : Input D) → Decides (is_collision h x y) (Hits x y)
  unfolding Hits
  Decides-collision x y =
      let e : Decides (is_collision h x y) (((x.place ≡ y.place) × (x.argument ≢ y.argument)) × (digest_of_argument h x.place x.argument ≡ digest_of_argument h y.place y.argument)) =
      Decides-and _ _ (Decides-and _ _ (Decides-place x.place y.place) (Decides-not _ (Decides-argument x.argument y.argument))) (laws _ _) in
      (λ t. ((e.0 t).0.0, (e.0 t).0.1, (e.0 t).1), λ w. e.1 ((w.0, w.1), w.2))

  -- what an input and its collision make
  made : Input D → Input D → Collision D
  made x y = record { place = y.place; claimed = x.argument; listed = y.argument }

  collides_of : (xs ys : List (Input D)) (x y : Input D) → Member xs x → Hits x y → Collides h xs (y ∷ ys) (made x y)
  unfolding made Hits
  collides_of xs ys x y m w = record {
    claimed = subst (λ p. Member xs (record { place = p; argument = x.argument })) w.0 m;
    listed = inl refl;
    differ = w.1;
    one_digest = subst (λ p. digest_of_argument h p x.argument ≡ digest_of_argument h y.place y.argument) w.0 w.2;
  }

  -- a collision in the whole is one at the first listed input, or after it
  at_head : (xs ys : List (Input D)) (y : Input D) (c : Collision D) → Collides h xs (y ∷ ys) c → ((x : Input D) × Member xs x × Hits x y) ⊎ Collides h xs ys c
  unfolding Hits
  at_head xs ys y c w = at_member w.listed
    where
      at_member : ((y ≡ record { place = c.place; argument = c.listed }) ⊎ Member ys (record { place = c.place; argument = c.listed }))
          → ((x : Input D) × Member xs x
          × ((x.place ≡ y.place) × (x.argument ≢ y.argument) × (digest_of_argument h x.place x.argument ≡ digest_of_argument h y.place y.argument))) ⊎ Collides h xs ys c
      at_member (inl e) = inl (
        record { place = c.place; argument = c.claimed },
        w.claimed,
        (sym (ap (λ (i : Input D). i.place) e), (λ q. w.differ (q ∙ ap (λ (i : Input D). i.argument) e)), w.one_digest ∙ sym (ap (λ (i : Input D). digest_of_argument h i.place i.argument) e)),
      )
      at_member (inr m) = inr (record { claimed = w.claimed; listed = m; differ = w.differ; one_digest = w.one_digest })

  -- what first_for answers
  Finds : List (Input D) → Input D → Option (Collision D) → Type 0
  Finds xs y o = MatchOption o ((x : Input D) → Member xs x → Hits x y → ⊥) (λ c. (x : Input D) × Member xs x × Hits x y × (c ≡ made x y))

  first_for_finds : (xs : List (Input D)) (y : Input D) → Finds xs y (first_for h xs y)
  unfolding Finds made
  first_for_finds [] y = λ x m w. m
  first_for_finds (x ∷ xs) y = at_test (is_collision h x y) (Decides-collision x y) (first_for h xs y) (first_for_finds xs y)
    where
      at_test : (b : Bool) → Decides b (Hits x y) → (o : Option (Collision D)) → Finds xs y o → Finds (x ∷ xs) y (cond b (Some (made x y)) o)
      at_test true d o f = (x, inl refl, d.0 refl, refl)
      at_test false d None f = λ z. elim [ inl e ↦ λ w. false≢true (d.1 (subst (λ v. Hits v y) (sym e) w)) | inr m ↦ λ w. f z m w ]
      at_test false d (Some c) f = (f.0, inr f.1, f.2, f.3)

  First : List (Input D) → List (Input D) → Option (Collision D) → Type 0
  First xs ys o = MatchOption o ((c : Collision D) → Collides h xs ys c → ⊥) (λ c. IsFirstCollision h xs ys c)

  none_listed : (xs : List (Input D)) (c : Collision D) → Collides h xs [] c → ⊥
  none_listed xs c w = w.listed

  joined : (xs ys : List (Input D)) (y : Input D) (o o' : Option (Collision D)) → Finds xs y o → First xs ys o' → First xs (y ∷ ys) (or_else o o')
  unfolding Finds First made
  joined xs ys y (Some c) o' f g = subst (λ d. IsFirstCollision h xs (y ∷ ys) d) (sym f.3)
      (record { collides = collides_of xs ys f.0 y f.1 f.2; before = []; after = ys; split = refl; none_before = none_listed xs })
  joined xs ys y None None f g = λ c w. ⊎_elim (λ t. f t.0 t.1 t.2) (λ v. g c v) (at_head xs ys y c w)
  joined xs ys y None (Some c) f g = record {
    collides = record { claimed = g.collides.claimed; listed = inr g.collides.listed; differ = g.collides.differ; one_digest = g.collides.one_digest };
    before = y ∷ g.before;
    after = g.after;
    split = ap (λ t. y ∷ t) g.split;
    none_before = λ d w. ⊎_elim (λ t. f t.0 t.1 t.2) (λ v. g.none_before d v) (at_head xs g.before y d w);
  }

  first_in : (xs ys : List (Input D)) → First xs ys (first_collision h xs ys)
  unfolding First
  first_in xs [] = none_listed xs
  first_in xs (y ∷ ys) = joined xs ys y (first_for h xs y) (first_collision h xs ys) (first_for_finds xs y) (first_in xs ys)

pub finds_first : {D : Type 0} → FindsFirst D
unfolding First
finds_first h laws xs ys = first_in h laws xs ys
