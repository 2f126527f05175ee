-- What a check of scattered leaves has at nodes, from what it is given.
use Rattle.std.proofs.Common.{◌≡◌, ◌≢◌, ℕ, true, false, cond, List, [], ◌∷◌, ◌++◌, length, map, Option, None, Some, unwrap_or, refl, ap, ap₂, sym, ◌∙◌, arith, append-nil, append_assoc}
use Rattle.merkle_base.specs.Hashing.{Hashing}
use Rattle.merkle_base.specs.Table.{digest_for}
use Rattle.merkle_base.specs.Tree.{Tree, leaf, join, position}
use Rattle.merkle_base.proofs.Growth.{forest_grown}
use Rattle.merkle_hasher.specs.Subtrees.{IsNodeOf, subtree_of}
use Rattle.merkle_hasher.specs.declared.subtree.Subtree.{Subtree}
use Rattle.merkle_root_theory.specs.Collision.{Collision}
use Rattle.merkle_root_theory.specs.Expression.{Node, Expression, supplied, computed, value}
use Rattle.merkle_root_theory.specs.Plan.{tree_meets}
use Rattle.merkle_claim_theory.specs.FirstCollision.{or_else}
use Rattle.merkle_claim_theory.specs.MultiClaim.{also, or_empty, multi_tree}
use Rattle.merkle_scattered.proofs.ScatteredElements.{given_unmet}
use Rattle.merkle_walk_theory.specs.Compared.{found_over, found_in, found_among}
use Rattle.merkle_walks.specs.Chosen.{is_among}

-- ---- at one node
module _ {D : Type 0} (h : Hashing D) (ps : List ℕ) (ds : List D) (is : List ℕ) (ls : List D) where
  abbrev told : ℕ → Option D
  told = digest_for ps ds

  abbrev own : ℕ → D
  own i = unwrap_or (digest_for is ls i) h.empty

  abbrev tree : Tree → Expression D
  tree t = multi_tree h told (is_among is) own t

  abbrev digest : Tree → D
  digest t = value h (tree t)

  also_value : (o : Option D) (e : Expression D) → value h (also o e) ≡ value h e
  also_value None e = refl
  also_value (Some d) e = refl

  also_found : (f : Tree → Option (D × D)) (o : Option D) (t : Tree) (e : Expression D) → found_in h f t (also o e) ≡ found_in h f t e
  also_found f None t e = refl
  also_found f (Some d) t e = refl

  -- the proof's digest, where no leaf lies under it
  pub digest_unmet : (t : Tree) → tree_meets (is_among is) t ≡ false → (p : ℕ) → p ≡ position t → (none : D) → h.empty ≡ none → unwrap_or (told p) none ≡ digest t
  digest_unmet t e p at none empty =
      ap₂ (λ q d. unwrap_or (told q) d) at (sym empty) ∙ sym (ap (value h) (given_unmet h told (is_among is) own t e))

  -- so nothing is found there
  pub found_unmet : (f : Tree → Option (D × D)) (t : Tree) → tree_meets (is_among is) t ≡ false → None ≡ found_in h f t (tree t)
  found_unmet f t e = sym (ap (found_in h f t) (given_unmet h told (is_among is) own t e))

  module _ (rule : List ℕ → List ℕ) (m p s tall : ℕ) where
    -- a leaf's
    pub digest_leaf : (t : Tree) → IsNodeOf rule m p tall s t → tall ≡ 0 → tree_meets (is_among is) t ≡ true → (none : D) → h.empty ≡ none → unwrap_or (digest_for is ls s) none ≡ digest t
    digest_leaf (leaf q i) w flat met none empty =
        ap₂ (λ j d. unwrap_or (digest_for is ls j) d) (sym w.first_is) (sym empty)
        ∙ sym (ap (λ v. value h (cond v (also (told q) (supplied (own i))) (supplied (or_empty h (told q))))) met ∙ also_value (told q) (supplied (own i)))
    digest_leaf (join q a b) w flat met none empty = absurd (omega (arith, w.height_is, flat))

    -- a parent's
    pub digest_parent : (t : Tree) → IsNodeOf rule m p tall s t → tall ≢ 0 → tree_meets (is_among is) t ≡ true → (x y : D)
        → ((q : ℕ) (a b : Tree) → IsNodeOf rule m p tall s (join q a b) → (x ≡ digest a) × (y ≡ digest b)) → h.node p x y ≡ digest t
    digest_parent (leaf q i) w tall_is met x y k = absurd (tall_is (omega (arith, w.height_is)))
    digest_parent (join q a b) w tall_is met x y k =
        let at : q ≡ p = (forest_grown rule m).placed p (join q a b) w.at in
        let v = k q a b w in
        ap₂ (λ c d. h.node p c d) v.0 v.1 ∙ ap (λ n. h.node n (digest a) (digest b)) (sym at)
        ∙ sym (ap (λ v. value h (cond v (also (told q) (computed (Node q) (tree a) (tree b))) (supplied (or_empty h (told q))))) met ∙ also_value (told q) (computed (Node q) (tree a) (tree b)))

    module _ (f : Tree → Option (D × D)) where
      abbrev found : Tree → Option (Collision D)
      found t = found_in h f t (tree t)

      -- nothing is found at a leaf
      pub found_leaf : (t : Tree) → IsNodeOf rule m p tall s t → tall ≡ 0 → tree_meets (is_among is) t ≡ true → None ≡ found t
      found_leaf (leaf q i) w flat met =
          sym (ap (λ v. found_in h f (leaf q i) (cond v (also (told q) (supplied (own i))) (supplied (or_empty h (told q))))) met ∙ also_found f (told q) (leaf q i) (supplied (own i)))
      found_leaf (join q a b) w flat met = absurd (omega (arith, w.height_is, flat))

      -- what is found from a parent on, by its children
      pub found_parent : (t : Tree) → IsNodeOf rule m p tall s t → tall ≢ 0 → tree_meets (is_among is) t ≡ true → (x y : D) (o : Option (D × D)) (l r : Option (Collision D))
          → ((q : ℕ) (a b : Tree) → IsNodeOf rule m p tall s (join q a b) → (x ≡ digest a) × (y ≡ digest b) × (o ≡ f (join q a b)) × (l ≡ found a) × (r ≡ found b))
          → found_over h p (x, y) o l r ≡ found t
      found_parent (leaf q i) w tall_is met x y o l r k = absurd (tall_is (omega (arith, w.height_is)))
      found_parent (join q a b) w tall_is met x y o l r k =
          let at : q ≡ p = (forest_grown rule m).placed p (join q a b) w.at in
          let v = k q a b w in
          ap (λ i. found_over h i (x, y) o l r) (sym at)
          ∙ ap₂ (λ c d. found_over h q (c, d) o l r) v.0 v.1
          ∙ ap (λ z. found_over h q (digest a, digest b) z l r) v.2
          ∙ ap₂ (found_over h q (digest a, digest b) (f (join q a b))) v.3 v.4
          ∙ sym (ap (λ v. found_in h f (join q a b) (cond v (also (told q) (computed (Node q) (tree a) (tree b))) (supplied (or_empty h (told q))))) met
          ∙ also_found f (told q) (join q a b) (computed (Node q) (tree a) (tree b)))

-- ---- of several nodes
module _ {D : Type 0} (h : Hashing D) (f : Tree → Option (D × D)) (c : Tree → Expression D) where
  abbrev among : List Tree → Option (Collision D)
  among ts = found_among h f (map (λ t. (t, c t)) ts)

  pub no_claims : {F : Type 0} (subs : List (Subtree F)) (ts : List Tree) → length subs ≡ 0 → subs ≡ map subtree_of ts → None ≡ among ts
  no_claims subs [] l e = refl
  no_claims subs (t ∷ ts) l e = absurd (omega (arith, l, ap length e))

  pub more_claims : (ts : List Tree) (t : Tree) (us : List Tree) → ts ≡ t ∷ us → (o o' : Option (Collision D)) → o ≡ found_in h f t (c t) → o' ≡ among us → or_else o o' ≡ among ts
  more_claims ts t us same o o' e e' = ap₂ or_else e e' ∙ ap among (sym same)

module _ {F D : Type 0} (f : Tree → D) where
  pub no_digests : (subs : List (Subtree F)) (ts : List Tree) (old : List D) → length subs ≡ 0 → subs ≡ map subtree_of ts → old ≡ old ++ map f ts
  no_digests subs [] old l e = sym (append-nil old)
  no_digests subs (t ∷ ts) old l e = absurd (omega (arith, l, ap length e))

pub more_digests : {D : Type 0} (f : Tree → D) (ts : List Tree) (t : Tree) (us : List Tree) → ts ≡ t ∷ us → (old mid new : List D) (d : D) → d ≡ f t
    → mid ≡ old ++ d ∷ [] → new ≡ mid ++ map f us → new ≡ old ++ map f ts
more_digests f ts t us same old mid new d is pushed step =
    step ∙ ap (λ z. z ++ map f us) (pushed ∙ ap (λ x. old ++ x ∷ []) is) ∙ append_assoc old (f t ∷ []) (map f us) ∙ ap (λ z. old ++ map f z) (sym same)
