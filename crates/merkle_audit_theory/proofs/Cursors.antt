-- Searches along the places find the first collision.
use Rattle.std.proofs.Common.{◌≡◌, Bool, true, false, not, cond, List, [], ◌∷◌, ◌⊎◌, inl, inr, refl, ap, ap₂, sym, ◌∙◌, subst, ⊎_elim, Option, Some, None}
use Rattle.std.proofs.lemmas.Bool.{and_parts}
use Rattle.merkle_base.specs.Hashing.{Hashing}
use Rattle.merkle_root_theory.specs.Expression.{Place, digest_of_argument, Input}
use Rattle.merkle_root_theory.specs.Collision.{Member, Collision}
use Rattle.merkle_claim_theory.specs.FirstCollision.{same_place, same_argument, is_collision, or_else, first_for, first_collision}
use Rattle.merkle_claim_theory.specs.Order.{Distinct}
use Rattle.merkle_claim_theory.proofs.FirstCollisions.{Decides-place}
use Rattle.merkle_audit_theory.specs.Cuts.{IsSublist, kept, left_out, places_in}
use Rattle.merkle_audit_theory.specs.Differences.{is_difference, difference_for, first_difference}
use Rattle.merkle_audit_theory.specs.Searches.{next_at, past, found_of, along, input_at, looked_up, SearchesFind}
use Rattle.merkle_audit_theory.proofs.SublistFacts.{sub_member}

-- a sublist of a list with a first element has that element first, or is one of the rest
sub_cases : {A : Type 0} (us ps : List A) (p : A) → IsSublist us (p ∷ ps) → ((vs : List A) × (us ≡ p ∷ vs) × IsSublist vs ps) ⊎ IsSublist us ps
sub_cases us ps p (kept x {xs = vs} w) = inl (vs, refl, w)
sub_cases us ps p (left_out y w) = inr w

pub is_false : (b : Bool) → (b ≡ true → ⊥) → b ≡ false
is_false true f = absurd (f refl)
is_false false f = refl

cons_parts : {A : Type 0} (x y : A) (xs ys : List A) → x ∷ xs ≡ y ∷ ys → (x ≡ y) × (xs ≡ ys)
cons_parts x y xs ys e = (cc, cc)

module _ {D : Type 0} where
  -- the first input stands at p, or none does
  Step : Place → List Place → List (Input D) → Type 0
  Step p ps xs = ((x : Input D) × (us : List (Input D)) × (xs ≡ x ∷ us) × (x.place ≡ p) × IsSublist (places_in us) ps) ⊎ IsSublist (places_in xs) ps

  step_of : (p : Place) (ps : List Place) (xs : List (Input D)) → IsSublist (places_in xs) (p ∷ ps) → Step p ps xs
  unfolding Step
  step_of p ps [] w = ⊎_elim (λ v. absurd (let e : ◌≡◌ {A = List Place} [] (p ∷ v.0) = v.1 in cc)) inr (sub_cases [] ps p w)
  step_of p ps (x ∷ us) w = ⊎_elim
      (λ v. let e = cons_parts x.place p (places_in us) v.0 v.1 in inl (x, us, refl, e.0, subst (λ z. IsSublist z ps) (sym e.1) v.2)) inr
      (sub_cases (places_in (x ∷ us)) ps p w)

  next_there : (p : Place) (x : Input D) (us : List (Input D)) → x.place ≡ p → next_at p (x ∷ us) ≡ Some x
  next_there p x us e = ap (λ b. cond b (Some x) None) ((Decides-place x.place p).1 e)

  past_there : (p : Place) (x : Input D) (us : List (Input D)) → x.place ≡ p → past p (x ∷ us) ≡ us
  past_there p x us e = ap (λ b. cond b us (x ∷ us)) ((Decides-place x.place p).1 e)

  elsewhere : (p : Place) (x : Input D) → (x.place ≡ p → ⊥) → same_place x.place p ≡ false
  elsewhere p x n = is_false (same_place x.place p) (λ q. n ((Decides-place x.place p).0 q))

  next_none : (p : Place) (xs : List (Input D)) → (Member (places_in xs) p → ⊥) → next_at p xs ≡ None
  next_none p [] n = refl
  next_none p (x ∷ us) n = ap (λ b. cond b (Some x) None) (elsewhere p x (λ e. n (inl e)))

  past_none : (p : Place) (xs : List (Input D)) → (Member (places_in xs) p → ⊥) → past p xs ≡ xs
  past_none p [] n = refl
  past_none p (x ∷ us) n = ap (λ b. cond b us (x ∷ us)) (elsewhere p x (λ e. n (inl e)))

  pub at_none : (p : Place) (xs : List (Input D)) → (Member (places_in xs) p → ⊥) → input_at xs p ≡ None
  at_none p [] n = refl
  at_none p (x ∷ us) n = ap (λ b. cond b (Some x) (input_at us p)) (elsewhere p x (λ e. n (inl e))) ∙ at_none p us (λ m. n (inr m))

  module _ (t : Input D → Input D → Bool) (local : (x y : Input D) → t x y ≡ true → x.place ≡ y.place) where
    -- the search by any test
    abbrev by_for : List (Input D) → Input D → Option (Collision D)
    by_for [] y = None
    by_for (x ∷ xs) y = cond (t x y) (Some (record { place = y.place; claimed = x.argument; listed = y.argument })) (by_for xs y)

    abbrev by_first : List (Input D) → List (Input D) → Option (Collision D)
    by_first xs [] = None
    by_first xs (y ∷ ys) = or_else (by_for xs y) (by_first xs ys)

    for_none : (xs : List (Input D)) (y : Input D) → (Member (places_in xs) y.place → ⊥) → by_for xs y ≡ None
    for_none [] y n = refl
    for_none (x ∷ xs) y n = ap (λ b. cond b (Some (record { place = y.place; claimed = x.argument; listed = y.argument })) (by_for xs y))
        (is_false (t x y) (λ q. n (inl (local x y q)))) ∙ for_none xs y (λ m. n (inr m))

    first_rest : (x : Input D) (xs ys : List (Input D)) → (Member (places_in ys) x.place → ⊥) → by_first (x ∷ xs) ys ≡ by_first xs ys
    first_rest x xs [] n = refl
    first_rest x xs (y ∷ ys) n = ap₂ or_else
        (ap (λ b. cond b (Some (record { place = y.place; claimed = x.argument; listed = y.argument })) (by_for xs y))
        (is_false (t x y) (λ q. n (inl (sym (local x y q))))))
        (first_rest x xs ys (λ m. n (inr m)))

    first_nothing : (ys : List (Input D)) → by_first [] ys ≡ None
    first_nothing [] = refl
    first_nothing (y ∷ ys) = first_nothing ys

    none_else : (o o' r : Option (Collision D)) → o ≡ None → r ≡ o' → r ≡ or_else o o'
    none_else o o' r e f = f ∙ sym (ap (λ z. or_else z o') e)

    -- ---- two cursors
    cursors_by : (ps : List Place) → Distinct ps → (xs ys : List (Input D)) → IsSublist (places_in xs) ps → IsSublist (places_in ys) ps → along t ps xs ys ≡ by_first xs ys
    unfolding Step
    cursors_by [] d [] ys u v = sym (first_nothing ys)
    cursors_by [] d (x ∷ xs) ys u v = elim (sub_member u x.place (inl refl)) [ ]
    cursors_by (p ∷ ps) d xs ys u v = at_steps (step_of p ps xs u) (step_of p ps ys v) (λ us vs a b. cursors_by ps d.1 us vs a b)
      where
        there : List (Input D) → Type 0
        there zs = Member (places_in zs) p

        gone : (zs : List (Input D)) → IsSublist (places_in zs) ps → there zs → ⊥
        gone zs w m = d.0 (sub_member w p m)

        at_steps : Step p ps xs → Step p ps ys → ((us vs : List (Input D)) → IsSublist (places_in us) ps → IsSublist (places_in vs) ps → along t ps us vs ≡ by_first us vs)
            → or_else (found_of t (next_at p xs) (next_at p ys)) (along t ps (past p xs) (past p ys)) ≡ by_first xs ys
        at_steps (inl a) (inl b) next =
            ap₂ (λ f g. or_else (found_of t (next_at p f) (next_at p g)) (along t ps (past p f) (past p g))) a.2 b.2
            ∙ ap₂ (λ f g. or_else (found_of t f g) (along t ps (past p (a.0 ∷ a.1)) (past p (b.0 ∷ b.1)))) (next_there p a.0 a.1 a.3) (next_there p b.0 b.1 b.3)
            ∙ ap₂ (λ f g. or_else (found_of t (Some a.0) (Some b.0)) (along t ps f g)) (past_there p a.0 a.1 a.3) (past_there p b.0 b.1 b.3)
            ∙ ap₂ or_else (sym (ap (λ o. cond (t a.0 b.0) (Some (record { place = b.0.place; claimed = a.0.argument; listed = b.0.argument })) o)
            (for_none a.1 b.0 (λ m. gone a.1 a.4 (subst (Member (places_in a.1)) b.3 m)))))
            (next a.1 b.1 a.4 b.4 ∙ sym (first_rest a.0 a.1 b.1 (λ m. gone b.1 b.4 (subst (Member (places_in b.1)) a.3 m))))
            ∙ sym (ap₂ by_first a.2 b.2)
        at_steps (inl a) (inr b) next =
            ap₂ (λ f g. or_else (found_of t (next_at p f) g) (along t ps (past p f) (past p ys))) a.2 (next_none p ys (gone ys b))
            ∙ ap (λ f. or_else (found_of t f None) (along t ps (past p (a.0 ∷ a.1)) (past p ys))) (next_there p a.0 a.1 a.3)
            ∙ ap₂ (λ f g. along t ps f g) (past_there p a.0 a.1 a.3) (past_none p ys (gone ys b))
            ∙ next a.1 ys a.4 b ∙ sym (first_rest a.0 a.1 ys (λ m. gone ys b (subst (Member (places_in ys)) a.3 m)))
            ∙ sym (ap (λ f. by_first f ys) a.2)
        at_steps (inr a) (inl b) next =
            ap (λ f. or_else (found_of t f (next_at p ys)) (along t ps (past p xs) (past p ys))) (next_none p xs (gone xs a))
            ∙ ap₂ (λ f g. along t ps f g) (past_none p xs (gone xs a)) (ap (past p) b.2 ∙ past_there p b.0 b.1 b.3)
            ∙ none_else (by_for xs b.0) (by_first xs b.1) (along t ps xs b.1) (for_none xs b.0 (λ m. gone xs a (subst (Member (places_in xs)) b.3 m))) (next xs b.1 a b.4)
            ∙ sym (ap (λ g. by_first xs g) b.2)
        at_steps (inr a) (inr b) next =
            ap (λ f. or_else (found_of t f (next_at p ys)) (along t ps (past p xs) (past p ys))) (next_none p xs (gone xs a))
            ∙ ap₂ (λ f g. along t ps f g) (past_none p xs (gone xs a)) (past_none p ys (gone ys b))
            ∙ next xs ys a b

    -- ---- what stands at each place is what the cursors find
    at_there : (p : Place) (x : Input D) (us : List (Input D)) → x.place ≡ p → input_at (x ∷ us) p ≡ Some x
    at_there p x us e = ap (λ b. cond b (Some x) (input_at us p)) ((Decides-place x.place p).1 e)

    -- a search looks only at its places
    same_look : (ps : List Place) (f f' g g' : Place → Option (Input D)) → ((p : Place) → Member ps p → f p ≡ f' p)
        → ((p : Place) → Member ps p → g p ≡ g' p) → looked_up t ps f g ≡ looked_up t ps f' g'
    same_look [] f f' g g' u v = refl
    same_look (p ∷ ps) f f' g g' u v = ap₂ or_else (ap₂ (found_of t) (u p (inl refl)) (v p (inl refl))) (same_look ps f f' g g' (λ q m. u q (inr m)) (λ q m. v q (inr m)))

    -- the next input at p, and all that follow it, by places
    next_is : (p : Place) (ps : List Place) (zs : List (Input D)) → (Member ps p → ⊥) → Step p ps zs → input_at zs p ≡ next_at p zs
    unfolding Step
    next_is p ps zs n (inl a) = ap (λ f. input_at f p) a.2 ∙ at_there p a.0 a.1 a.3 ∙ sym (next_there p a.0 a.1 a.3) ∙ sym (ap (next_at p) a.2)
    next_is p ps zs n (inr b) = at_none p zs (λ m. n (sub_member b p m)) ∙ sym (next_none p zs (λ m. n (sub_member b p m)))

    rest_is : (p : Place) (ps : List Place) (zs : List (Input D)) → (Member ps p → ⊥) → Step p ps zs → (q : Place) → Member ps q → input_at zs q ≡ input_at (past p zs) q
    unfolding Step
    rest_is p ps zs n (inl a) q m =
        ap (λ f. input_at f q) a.2
        ∙ ap (λ b. cond b (Some a.0) (input_at a.1 q)) (elsewhere q a.0 (λ e. n (subst (Member ps) (sym e ∙ a.3) m)))
        ∙ sym (ap (λ f. input_at f q) (ap (past p) a.2 ∙ past_there p a.0 a.1 a.3))
    rest_is p ps zs n (inr b) q m = sym (ap (λ f. input_at f q) (past_none p zs (λ k. n (sub_member b p k))))

    rest_sub : (p : Place) (ps : List Place) (zs : List (Input D)) → (Member ps p → ⊥) → Step p ps zs → IsSublist (places_in (past p zs)) ps
    unfolding Step
    rest_sub p ps zs n (inl a) = subst (λ f. IsSublist (places_in f) ps) (sym (ap (past p) a.2 ∙ past_there p a.0 a.1 a.3)) a.4
    rest_sub p ps zs n (inr b) = subst (λ f. IsSublist (places_in f) ps) (sym (past_none p zs (λ k. n (sub_member b p k)))) b

    looks_as_cursors : (ps : List Place) → Distinct ps → (xs ys : List (Input D)) → IsSublist (places_in xs) ps → IsSublist (places_in ys) ps
        → looked_up t ps (input_at xs) (input_at ys) ≡ along t ps xs ys
    looks_as_cursors [] d xs ys u v = refl
    looks_as_cursors (p ∷ ps) d xs ys u v =
        let a = step_of p ps xs u in
        let b = step_of p ps ys v in
        ap₂ or_else (ap₂ (found_of t) (next_is p ps xs d.0 a) (next_is p ps ys d.0 b))
        (same_look ps (input_at xs) (input_at (past p xs)) (input_at ys) (input_at (past p ys)) (rest_is p ps xs d.0 a) (rest_is p ps ys d.0 b)
        ∙ looks_as_cursors ps d.1 (past p xs) (past p ys) (rest_sub p ps xs d.0 a) (rest_sub p ps ys d.0 b))

module _ {D : Type 0} (h : Hashing D) where
  abbrev hit : Input D → Input D → Bool
  hit = is_collision h

  abbrev miss : Input D → Input D → Bool
  miss = is_difference h

  miss_local : (x y : Input D) → is_difference h x y ≡ true → x.place ≡ y.place
  miss_local x y q = (Decides-place x.place y.place).0 (and_parts (same_place x.place y.place) (not (same_argument h x.argument y.argument)) q).0

  hit_local : (x y : Input D) → is_collision h x y ≡ true → x.place ≡ y.place
  hit_local x y q = miss_local x y (and_parts (is_difference h x y) (h.same (digest_of_argument h x.place x.argument) (digest_of_argument h y.place y.argument)) q).0

  hit_for : (xs : List (Input D)) (y : Input D) → by_for hit hit_local xs y ≡ first_for h xs y
  hit_for [] y = refl
  hit_for (x ∷ xs) y = ap (λ o. cond (is_collision h x y) (Some (record { place = y.place; claimed = x.argument; listed = y.argument })) o) (hit_for xs y)

  hit_first : (xs ys : List (Input D)) → by_first hit hit_local xs ys ≡ first_collision h xs ys
  hit_first xs [] = refl
  hit_first xs (y ∷ ys) = ap₂ or_else (hit_for xs y) (hit_first xs ys)

  miss_for : (xs : List (Input D)) (y : Input D) → by_for miss miss_local xs y ≡ difference_for h xs y
  miss_for [] y = refl
  miss_for (x ∷ xs) y = ap (λ o. cond (is_difference h x y) (Some (record { place = y.place; claimed = x.argument; listed = y.argument })) o) (miss_for xs y)

  miss_first : (xs ys : List (Input D)) → by_first miss miss_local xs ys ≡ first_difference h xs ys
  miss_first xs [] = refl
  miss_first xs (y ∷ ys) = ap₂ or_else (miss_for xs y) (miss_first xs ys)

pub searches_find : {D : Type 0} → SearchesFind D
searches_find = record {
  cursors = λ h ps d xs ys u v. cursors_by (is_collision h) (hit_local h) ps d xs ys u v ∙ hit_first h xs ys;
  cursors_differ = λ h ps d xs ys u v. cursors_by (is_difference h) (miss_local h) ps d xs ys u v ∙ miss_first h xs ys;
  places = λ h ps d xs ys u v. looks_as_cursors (is_collision h) (hit_local h) ps d xs ys u v ∙ cursors_by (is_collision h) (hit_local h) ps d xs ys u v ∙ hit_first h xs ys;
  places_differ = λ h ps d xs ys u v. looks_as_cursors (is_difference h) (miss_local h) ps d xs ys u v ∙ cursors_by (is_difference h) (miss_local h) ps d xs ys u v ∙ miss_first h xs ys;
}
