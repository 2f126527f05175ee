-- What is read from the pairs of an accepted input.
use Rattle.std.proofs.Common.{◌≡◌, ℕ, Bool, true, cond, ◌||◌, List, [], ◌∷◌, ◌++◌, inl, inr, refl, ap, ap₂, sym, ◌∙◌, subst, ⊎_elim, arith, length, map}
use Rattle.std.proofs.Common.{flat_map, drop, Some, None, unwrap_or, append_assoc}
use Rattle.std.specs.List.{AllByRecursion}
use Rattle.std.specs.Option.{option_map_or}
use Rattle.std.proofs.lemmas.List.{map-append}
use Rattle.merkle_base.specs.Tree.{Tree, leaf, join, position}
use Rattle.merkle_base.specs.Hashing.{Hashing}
use Rattle.merkle_base.proofs.Cases.{by_test}
use Rattle.merkle_base.proofs.Nodes.{all_append}
use Rattle.merkle_root_theory.specs.Expression.{value}
use Rattle.merkle_root_theory.specs.Plan.{tree_meets, siblings}
use Rattle.merkle_root_theory.specs.Claim.{next, tree_claim}
use Rattle.merkle_root_theory.specs.Collision.{Member}
use Rattle.merkle_claim_theory.specs.Order.{Distinct}
use Rattle.merkle_root_theory.specs.Extract.{inner_pairs, over_pairs, single_pairs}
use Rattle.merkle_claim_theory.specs.Store.{read_pair, sub_siblings}
use Rattle.merkle_root_theory.specs.Walk.{peak_values}
use Rattle.merkle_root_theory.proofs.Collisions.{member_left, member_right}
use Rattle.merkle_claim_theory.proofs.HonestClaims.{member_split}
use Rattle.merkle_claim_theory.proofs.SubProofs.{found, siblings_are_read}
use Rattle.merkle_store_theory.specs.StoreProof.{found_at, first_lacking}
use Rattle.merkle_store_theory.proofs.Gathered.{past, meets_within}

-- what each of the met trees gives, the digests before it being taken by those before
abbrev pub over_given : {D : Type 0} → (ℕ → Bool) → (Tree → List D → List D) → List Tree → List D → List D
over_given c m [] is = []
over_given c m (t ∷ ts) is = m t is ++ over_given c m ts (drop (length (siblings c t)) is)

module _ {D : Type 0} (h : Hashing D) (pairs : List (ℕ × D)) (once : Distinct (map (λ (x : ℕ × D). x.0) pairs)) where
  -- these stand among the pairs
  abbrev pub Among : List (ℕ × D) → Type 0
  Among xs = (x : ℕ × D) → Member xs x → Member pairs x

  pub among_left : (xs ys : List (ℕ × D)) → Among (xs ++ ys) → Among xs
  among_left xs ys f = λ x m. f x (member_left xs ys x m)

  pub among_right : (xs ys : List (ℕ × D)) → Among (xs ++ ys) → Among ys
  among_right xs ys f = λ x m. f x (member_right xs ys x m)

  abbrev pub read : Tree → D
  read t = read_pair h pairs (position t)

  read_is : (t : Tree) (e : D) → Member pairs (position t, e) → e ≡ read t
  read_is t e m = sym (ap (λ o. unwrap_or o h.empty) (found pairs (position t, e) once m))

  -- the node has a digest there
  abbrev pub IsHeld : Tree → Type 0
  IsHeld t = (e : D) × Member pairs (position t, e)

  pub none_lacking : (ts : List Tree) → AllByRecursion IsHeld ts → first_lacking (found_at pairs) (map position ts) ≡ None
  none_lacking [] a = refl
  none_lacking (t ∷ ts) a = ap (λ o. option_map_or (λ (d : D). first_lacking (found_at pairs) (map position ts)) o (Some (position t)))
      (found pairs (position t, a.0.0) once a.0.1) ∙ none_lacking ts a.1

  -- ---- peaks that stand alone
  pub given_read : (ts : List Tree) (es rest : List D) → length es ≡ length ts → Among (single_pairs h ts (es ++ rest)) → es ≡ map read ts
  given_read [] [] rest l f = refl
  given_read [] (e ∷ es) rest l f = absurd (omega (arith, l))
  given_read (t ∷ ts) [] rest l f = absurd (omega (arith, l))
  given_read (t ∷ ts) (e ∷ es) rest l f = ap₂ (λ x y. x ∷ y) (read_is t e (f (position t, e) (inl refl))) (given_read ts es rest (omega (arith, l)) (λ x m. f x (inr m)))

  pub given_held : (ts : List Tree) (ds : List D) → Among (single_pairs h ts ds) → AllByRecursion IsHeld ts
  given_held [] ds f = tt
  given_held (t ∷ ts) ds f = ((next h ds, f (position t, next h ds) (inl refl)), given_held ts (drop 1 ds) (λ x m. f x (inr m)))

module _ {D : Type 0} (h : Hashing D) (pairs : List (ℕ × D)) (once : Distinct (map (λ (x : ℕ × D). x.0) pairs)) (c : ℕ → Bool) (X : ℕ → D) where
  -- ---- peaks that overlap
  pub over_append : (xs ys : List Tree) (is : List D) → over_pairs h c X (xs ++ ys) is ≡ over_pairs h c X xs is ++ over_pairs h c X ys (past c xs is)
  over_append [] ys is = refl
  over_append (t ∷ xs) ys is =
      let is' = drop (length (siblings c t)) is in
      ap (λ z. inner_pairs h c X t is ++ ((position t, value h (tree_claim h c X t is)) ∷ z)) (over_append xs ys is')
      ∙ sym (append_assoc (inner_pairs h c X t is) ((position t, value h (tree_claim h c X t is)) ∷ over_pairs h c X xs is') (over_pairs h c X ys (past c xs is')))

  -- the pairs of these, from is on, stand there
  abbrev pub Own : List Tree → List D → Type 0
  Own ts is = Among h pairs once (over_pairs h c X ts is)

  pub own_left : (xs ys : List Tree) (is : List D) → Own (xs ++ ys) is → Own xs is
  own_left xs ys is f = among_left h pairs once (over_pairs h c X xs is) (over_pairs h c X ys (past c xs is)) (subst (Among h pairs once) (over_append xs ys is) f)

  pub own_right : (xs ys : List Tree) (is : List D) → Own (xs ++ ys) is → Own ys (past c xs is)
  own_right xs ys is f = among_right h pairs once (over_pairs h c X xs is) (over_pairs h c X ys (past c xs is)) (subst (Among h pairs once) (over_append xs ys is) f)

  own_first : (t : Tree) (ts : List Tree) (is : List D) → Own (t ∷ ts) is → Member pairs (position t, value h (tree_claim h c X t is))
  own_first t ts is f = f _ (member_right (inner_pairs h c X t is) _ _ (inl refl))

  own_rest : (t : Tree) (ts : List Tree) (is : List D) → Own (t ∷ ts) is → Own ts (drop (length (siblings c t)) is)
  own_rest t ts is f = λ x m. f x (member_right (inner_pairs h c X t is) _ x (inr m))

  pub own_read : (ts : List Tree) (is : List D) → Own ts is → peak_values h c X ts is ≡ map (read h pairs once) ts
  own_read [] is f = refl
  own_read (t ∷ ts) is f = ap₂ (λ x y. x ∷ y) (read_is h pairs once t _ (own_first t ts is f)) (own_read ts (drop (length (siblings c t)) is) (own_rest t ts is f))

  pub own_held : (ts : List Tree) (is : List D) → Own ts is → AllByRecursion (IsHeld h pairs once) ts
  own_held [] is f = tt
  own_held (t ∷ ts) is f = ((value h (tree_claim h c X t is), own_first t ts is f), own_held ts (drop (length (siblings c t)) is) (own_rest t ts is f))

  -- ---- the siblings under them
  module _ (d : ℕ → Bool) (within : (i : ℕ) → d i ≡ true → c i ≡ true) where
    own_inner : (t : Tree) (ts : List Tree) (is : List D) → Own (t ∷ ts) is → Among h pairs once (inner_pairs h c X t is ++ (position t, value h (tree_claim h c X t is)) ∷ [])
    own_inner t ts is f = λ x m. ⊎_elim (λ w. f x (member_left (inner_pairs h c X t is) _ x w))
        (λ w. ⊎_elim (λ e. f x (member_right (inner_pairs h c X t is) _ x (inl e))) (λ z. elim z [ ]) w) (member_split (inner_pairs h c X t is) _ x m)

    pub siblings_read : (ts : List Tree) (is : List D) → Own ts is → over_given c (sub_siblings h c d X) ts is ≡ map (read h pairs once) (flat_map (siblings d) ts)
    siblings_read [] is f = refl
    siblings_read (t ∷ ts) is f =
        ap₂ ◌++◌ (siblings_are_read h c d within X t is pairs once (own_inner t ts is f)) (siblings_read ts (drop (length (siblings c t)) is) (own_rest t ts is f))
        ∙ sym (map-append (read h pairs once) (siblings d t) (flat_map (siblings d) ts))

    tree_held : (t : Tree) (ds : List D) → Among h pairs once (inner_pairs h c X t ds) → IsHeld h pairs once t → AllByRecursion (IsHeld h pairs once) (siblings d t)
    tree_held (leaf p i) ds f e = by_test (λ b. AllByRecursion (IsHeld h pairs once) (cond b [] (leaf p i ∷ []))) (d i) (λ _. tt) (λ _. (e, tt))
    tree_held (join p l r) ds f e =
        let rest = drop (length (siblings c l)) ds in
        let vl = value h (tree_claim h c X l ds) in
        let vr = value h (tree_claim h c X r rest) in
        let last = (position l, vl) ∷ (position r, vr) ∷ [] in
        by_test (λ b. AllByRecursion (IsHeld h pairs once) (cond b (siblings d l ++ siblings d r) (join p l r ∷ []))) (tree_meets d l || tree_meets d r)
        (λ q. let g = subst (λ z. Among h pairs once (cond z (inner_pairs h c X l ds ++ (inner_pairs h c X r rest ++ last)) [])) (meets_within c d within (join p l r) q) f in
        all_append (IsHeld h pairs once) (siblings d l) (siblings d r)
        (tree_held l ds (λ x m. g x (member_left (inner_pairs h c X l ds) _ x m))
        (vl, g (position l, vl) (member_right (inner_pairs h c X l ds) _ _ (member_right (inner_pairs h c X r rest) last _ (inl refl)))))
        (tree_held r rest (λ x m. g x (member_right (inner_pairs h c X l ds) _ x (member_left (inner_pairs h c X r rest) last x m)))
        (vr, g (position r, vr) (member_right (inner_pairs h c X l ds) _ _ (member_right (inner_pairs h c X r rest) last _ (inr (inl refl)))))))
        (λ _. (e, tt))

    pub siblings_held : (ts : List Tree) (is : List D) → Own ts is → AllByRecursion (IsHeld h pairs once) (flat_map (siblings d) ts)
    siblings_held [] is f = tt
    siblings_held (t ∷ ts) is f = all_append (IsHeld h pairs once) (siblings d t) (flat_map (siblings d) ts)
        (tree_held t is (among_left h pairs once (inner_pairs h c X t is) _ f) (value h (tree_claim h c X t is), own_first t ts is f))
        (siblings_held ts (drop (length (siblings c t)) is) (own_rest t ts is f))
