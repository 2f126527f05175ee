-- The pairs that a walk over the nodes above a range puts.
use Rattle.std.proofs.Common.{◌≡◌, ◌≢◌, ℕ, Bool, true, false, cond, ◌||◌, List, [], ◌∷◌, ◌++◌, length, map, drop, arith, refl, ap, ap₂, sym, ◌∙◌, subst, append_assoc, length-append, drop-drop}
use Rattle.std.specs.List.{flat_map}
use Rattle.merkle_base.specs.Tree.{Tree, leaf, join, position}
use Rattle.merkle_base.specs.Hashing.{Hashing}
use Rattle.merkle_base.proofs.Cases.{by_test}
use Rattle.merkle_base.proofs.Growth.{forest_grown}
use Rattle.merkle_hasher.specs.Subtrees.{IsNodeOf}
use Rattle.merkle_root_theory.specs.Expression.{value}
use Rattle.merkle_root_theory.specs.Plan.{tree_digest, tree_meets, siblings}
use Rattle.merkle_root_theory.specs.Claim.{tree_claim}
use Rattle.merkle_root_theory.specs.Walk.{IsWalked, ArePeaksWalked}
use Rattle.merkle_root_theory.specs.Extract.{inner_pairs, over_pairs}
use Rattle.merkle_root_theory.proofs.Claims.{tree_honest}
use Rattle.merkle_reconstruction.specs.InsidePairs.{inside_pairs}

-- the position of a node
pub stands_at : (rule : List ℕ → List ℕ) (m p tall s : ℕ) (t : Tree) → IsNodeOf rule m p tall s t → position t ≡ p
stands_at rule m p tall s t w = (forest_grown rule m).placed p t w.at

module _ {D : Type 0} (h : Hashing D) (c : ℕ → Bool) (X : ℕ → D) where
  -- a node outside the range has none below it
  pub inner_unmet : (t : Tree) (ds : List D) → tree_meets c t ≡ false → inner_pairs h c X t ds ≡ []
  inner_unmet (leaf p i) ds e = refl
  inner_unmet (join p l r) ds e = ap (λ z. cond z (inner_pairs h c X l ds ++ (inner_pairs h c X r (drop (length (siblings c l)) ds)
      ++ ((position l, value h (tree_claim h c X l ds)) ∷ (position r, value h (tree_claim h c X r (drop (length (siblings c l)) ds))) ∷ []))) []) e

  -- nor has a leaf
  pub inner_leaf : (rule : List ℕ → List ℕ) (m p s tall : ℕ) (t : Tree) → IsNodeOf rule m p tall s t → tall ≡ 0 → (ds : List D) → inner_pairs h c X t ds ≡ []
  inner_leaf rule m p s tall (leaf q i) w e ds = refl
  inner_leaf rule m p s tall (join q l r) w e ds = absurd (omega (arith, w.height_is, e))

  -- those of a node that meets it, by the walks over its children
  pub inner_join : (p : ℕ) (l r : Tree) (ds mid rest : List D) (x y : D) → tree_meets c (join p l r) ≡ true → IsWalked h c X l ds x mid → IsWalked h c X r mid y rest
      → inner_pairs h c X (join p l r) ds ≡ inner_pairs h c X l ds ++ (inner_pairs h c X r mid ++ ((position l, x) ∷ (position r, y) ∷ []))
  inner_join p l r ds mid rest x y e u v =
      ap (λ z. cond z (inner_pairs h c X l ds ++ (inner_pairs h c X r (drop (length (siblings c l)) ds)
      ++ ((position l, value h (tree_claim h c X l ds)) ∷ (position r, value h (tree_claim h c X r (drop (length (siblings c l)) ds))) ∷ []))) []) e
      ∙ ap (λ z. inner_pairs h c X l ds ++ (inner_pairs h c X r z ++ ((position l, value h (tree_claim h c X l ds)) ∷ (position r, value h (tree_claim h c X r z)) ∷ []))) (sym u.rest)
      ∙ ap₂ (λ a b. inner_pairs h c X l ds ++ (inner_pairs h c X r mid ++ ((position l, a) ∷ (position r, b) ∷ []))) (sym u.digest) (sym v.digest)

  honest_value : (t : Tree) → siblings c t ≡ [] → (ds : List D) → value h (tree_claim h c X t ds) ≡ tree_digest h X t
  honest_value t none ds = tree_honest h c X X (λ i e. refl) t ds ds (ap (λ z. map (tree_digest h X) z ++ ds) (sym none))

  neither : {A : Type 0} (xs ys : List A) → xs ++ ys ≡ [] → (xs ≡ []) × (ys ≡ [])
  neither [] ys e = (refl, e)
  neither (x ∷ xs) ys e = absurd (some_left x (xs ++ ys) e)
    where
      some_left : {A : Type 0} (x : A) (xs : List A) → x ∷ xs ≡ [] → ⊥
      some_left x xs e = cc

  -- those of a node that has no sibling are told by its leaves
  pub inner_inside : (t : Tree) → siblings c t ≡ [] → (ds : List D) → inner_pairs h c X t ds ≡ inside_pairs h X t
  inner_inside (leaf p i) none ds = refl
  inner_inside (join p l r) none ds =
      let rest = drop (length (siblings c l)) ds in
      by_test (λ b. cond b (siblings c l ++ siblings c r) (join p l r ∷ []) ≡ []
      → cond b (inner_pairs h c X l ds
      ++ (inner_pairs h c X r rest ++ ((position l, value h (tree_claim h c X l ds)) ∷ (position r, value h (tree_claim h c X r rest)) ∷ []))) []
      ≡ inside_pairs h X (join p l r)) (tree_meets c l || tree_meets c r)
      (λ _ e. let s = neither (siblings c l) (siblings c r) e in
      ap₂ (λ a b. a ++ b) (inner_inside l s.0 ds) (ap₂ (λ a b. a ++ b) (inner_inside r s.1 rest)
      (ap₂ (λ a b. (position l, a) ∷ (position r, b) ∷ []) (honest_value l s.0 ds) (honest_value r s.1 rest))))
      (λ _ e. absurd (one_left (join p l r) e))
      none
    where
      one_left : (t : Tree) → t ∷ [] ≡ [] → ⊥
      one_left t e = cc

  -- those of one more peak
  pub over_push : (ts : List Tree) (t : Tree) (ds : List D) → let rest = drop (length (flat_map (siblings c) ts)) ds in
      over_pairs h c X (ts ++ t ∷ []) ds ≡ over_pairs h c X ts ds ++ (inner_pairs h c X t rest ++ (position t, value h (tree_claim h c X t rest)) ∷ [])
  over_push [] t ds = refl
  over_push (u ∷ ts) t ds =
      let one = inner_pairs h c X u ds in
      let two : ℕ × D = (position u, value h (tree_claim h c X u ds)) in
      let more = drop (length (siblings c u)) ds in
      let same : drop (length (flat_map (siblings c) ts)) more ≡ drop (length (flat_map (siblings c) (u ∷ ts))) ds =
      drop-drop (length (flat_map (siblings c) ts)) (length (siblings c u)) ds ∙ ap (λ n. drop n ds) (sym (length-append (siblings c u) (flat_map (siblings c) ts))) in
      ap (λ z. one ++ (two ∷ z)) (over_push ts t more ∙ ap (λ z. over_pairs h c X ts more ++ (inner_pairs h c X t z ++ (position t, value h (tree_claim h c X t z)) ∷ [])) same)
      ∙ sym (append_assoc one (two ∷ over_pairs h c X ts more) _)

  module _ {C : Type 0} (Took : C → List (ℕ × D) → C → Type 0) (both : (s t u : C) (a b : List (ℕ × D)) → Took s a t → Took t b u → Took s (a ++ b) u) where
    -- a node's walk puts its pairs, where those of its children do, and then these two are put
    pub put_inner : (rule : List ℕ → List ℕ) (m p s tall : ℕ) (t : Tree) → IsNodeOf rule m p tall s t → tall ≢ 0 → tree_meets c t ≡ true
        → (pl pr : ℕ) (ds mid rest : List D) (x y : D) (s0 s1 s2 s3 : C)
        → ((q : ℕ) (l r : Tree) → IsNodeOf rule m p tall s (join q l r) → (position l ≡ pl) × (position r ≡ pr) × IsWalked h c X l ds x mid
        × IsWalked h c X r mid y rest × Took s0 (inner_pairs h c X l ds) s1 × Took s1 (inner_pairs h c X r mid) s2)
        → Took s2 ((pl, x) ∷ (pr, y) ∷ []) s3 → Took s0 (inner_pairs h c X t ds) s3
    put_inner rule m p s tall (leaf q i) w e k pl pr ds mid rest x y s0 s1 s2 s3 f last = absurd (e (omega (arith, w.height_is)))
    put_inner rule m p s tall (join q l r) w e k pl pr ds mid rest x y s0 s1 s2 s3 f last =
        let u = f q l r w in
        let two : Took s2 ((position l, x) ∷ (position r, y) ∷ []) s3 =
        subst (λ z. Took s2 ((z, x) ∷ (position r, y) ∷ []) s3) (sym u.0) (subst (λ z. Took s2 ((pl, x) ∷ (z, y) ∷ []) s3) (sym u.1) last) in
        subst (λ z. Took s0 z s3) (sym (inner_join q l r ds mid rest x y k u.2 u.3)) (both s0 s1 s3 _ _ u.4 (both s1 s2 s3 _ _ u.5 two))

    -- the walks over peaks put their pairs, one peak more
    pub put_more : (ts us : List Tree) (t : Tree) (p : ℕ) (before out new after : List D) (d : D) (after' : List D) (s0 s1 s2 s3 : C) → us ≡ ts
        ++ t ∷ [] → position t ≡ p → ArePeaksWalked h c X ts before out new after → IsWalked h c X t after d after'
        → Took s0 (over_pairs h c X ts before) s1 → Took s1 (inner_pairs h c X t after) s2 → Took s2 ((p, d) ∷ []) s3 → Took s0 (over_pairs h c X us before) s3
    put_more ts us t p before out new after d after' s0 s1 s2 s3 u at w v a b last =
        let rest = drop (length (flat_map (siblings c) ts)) before in
        let one : Took s2 ((position t, value h (tree_claim h c X t after)) ∷ []) s3 = subst (λ z. Took s2 ((position t, z) ∷ []) s3) v.digest (subst (λ z. Took s2 ((z, d) ∷ []) s3) (sym at) last) in
        let two : Took s1 (inner_pairs h c X t rest ++ (position t, value h (tree_claim h c X t rest)) ∷ []) s3 =
        subst (λ z. Took s1 (inner_pairs h c X t z ++ (position t, value h (tree_claim h c X t z)) ∷ []) s3) w.rest (both s1 s2 s3 _ _ b one) in
        subst (λ z. Took s0 z s3) (sym (ap (λ z. over_pairs h c X z before) u ∙ over_push ts t before)) (both s0 s1 s3 _ _ a two)

module _ {D : Type 0} (h : Hashing D) (X : ℕ → D) {C : Type 0} (Took : C → List (ℕ × D) → C → Type 0) (both : (s t u : C) (a b : List (ℕ × D)) → Took s a t → Took t b u → Took s (a ++ b) u) where
  -- the pairs below a node inside the range are put, where those below its children are, and then these two
  pub put_over : (rule : List ℕ → List ℕ) (m p s tall : ℕ) (t : Tree) → IsNodeOf rule m p tall s t → tall ≢ 0 → (pl pr : ℕ) (x y : D) (s0 s1 s2 s3 : C)
      → ((q : ℕ) (l r : Tree) → IsNodeOf rule m p tall s (join q l r)
      → (position l ≡ pl) × (position r ≡ pr) × (x ≡ tree_digest h X l) × (y ≡ tree_digest h X r) × Took s0 (inside_pairs h X l) s1 × Took s1 (inside_pairs h X r) s2)
      → Took s2 ((pl, x) ∷ (pr, y) ∷ []) s3 → Took s0 (inside_pairs h X t) s3
  put_over rule m p s tall (leaf q i) w e pl pr x y s0 s1 s2 s3 f last = absurd (e (omega (arith, w.height_is)))
  put_over rule m p s tall (join q l r) w e pl pr x y s0 s1 s2 s3 f last =
      let u = f q l r w in
      let two : Took s2 ((position l, tree_digest h X l) ∷ (position r, tree_digest h X r) ∷ []) s3 =
      subst (λ z. Took s2 z s3) (ap₂ (λ (a b : ℕ × D). a ∷ b ∷ []) (ap₂ (λ n d. (n, d)) (sym u.0) u.2) (ap₂ (λ n d. (n, d)) (sym u.1) u.3)) last in
      both s0 s1 s3 _ _ u.4 (both s1 s2 s3 _ _ u.5 two)

-- there are none below a leaf
pub pairs_leaf : {D : Type 0} (h : Hashing D) (X : ℕ → D) (rule : List ℕ → List ℕ) (m p s tall : ℕ) (t : Tree) → IsNodeOf rule m p tall s t → tall ≡ 0 → inside_pairs h X t ≡ []
pairs_leaf h X rule m p s tall (leaf q i) w e = refl
pairs_leaf h X rule m p s tall (join q l r) w e = absurd (omega (arith, w.height_is, e))
