-- Of what is hashed for a root, the folds and the nodes; and the search in these parts.
use Rattle.std.proofs.Common.{◌≡◌, ℕ, zero, suc, pred, ◌-◌, nat_lt, Bool, true, false, cond, ◌||◌, List, [], ◌∷◌, ◌++◌, filter, flat_map, take, drop, fold}
use Rattle.std.proofs.Common.{length, refl, ap, ap₂, sym, ◌∙◌, subst, Option, None, Some}
use Rattle.std.specs.List.{AllByRecursion}
use Rattle.merkle_base.specs.Hashing.{Hashing}
use Rattle.merkle_base.specs.Places.{peaks_of}
use Rattle.merkle_base.specs.Scheme.{Scheme}
use Rattle.merkle_base.specs.Tree.{Tree, leaf, join}
use Rattle.merkle_base.specs.declared.family.Bagging.{Bagging}
use Rattle.merkle_base.specs.declared.family.Bagging.TheVariants.{ForwardFold, BackwardFold}
use Rattle.merkle_base.proofs.Cases.{by_test}
use Rattle.merkle_root_theory.specs.Expression.{Place, Root, Join, PrefixFold, SuffixFold, Node, Pair, Input, Expression, supplied, computed, visited, is_node}
use Rattle.merkle_root_theory.specs.Claim.{next, tree_claim}
use Rattle.merkle_root_theory.specs.Plan.{peak, node_expression, siblings, tree_meets}
use Rattle.merkle_root_theory.specs.Range.{leaf_of}
use Rattle.merkle_claim_theory.specs.FirstCollision.{or_else}
use Rattle.merkle_claim_theory.specs.MultiClaim.{also, or_empty, multi_tree, multi_claim}
use Rattle.merkle_claim_theory.specs.Order.{down, up, fold_places, node_places, Distinct}
use Rattle.merkle_claim_theory.proofs.FirstCollisions.{Decides-place}
use Rattle.merkle_audit_theory.specs.Cuts.{IsSublist, no_more, kept, left_out, places_in, peak_places, full_places}
use Rattle.merkle_audit_theory.specs.Differences.{is_difference, difference_for, first_difference}
use Rattle.merkle_audit_theory.specs.Folds.{left_inputs, right_inputs, joined_inputs, fold_inputs, numbered_inputs, over_inputs}
use Rattle.merkle_audit_theory.specs.Located.{node_inputs}
use Rattle.merkle_audit_theory.specs.Searches.{found_of, input_at, looked_up}
use Rattle.merkle_audit_theory.specs.Tiers.{tier, AreOfTier}
use Rattle.merkle_audit_theory.proofs.ClaimCuts.{claim_places}
use Rattle.merkle_audit_theory.proofs.Cursors.{is_false, searches_find}
use Rattle.merkle_audit_theory.proofs.PartedInputs.{in_parts}
use Rattle.merkle_audit_theory.proofs.SublistFacts.{sub_filter, sub_distinct}

module _ {D : Type 0} where
  pub tiers_joined : (n : ℕ) (xs ys : List (Input D)) → AreOfTier n xs → AreOfTier n ys → AreOfTier n (xs ++ ys)
  tiers_joined n [] ys a b = b
  tiers_joined n (x ∷ xs) ys a b = (a.0, tiers_joined n xs ys a.1 b)

-- ---- folds
module _ {D : Type 0} (h : Hashing D) where
  left_tier : (acc : D) (i : ℕ) (ds : List D) → AreOfTier 1 (left_inputs h acc i ds)
  left_tier acc i [] = tt
  left_tier acc i (d ∷ ds) = tiers_joined 1 (left_inputs h (h.fold acc d) (suc i) ds) (record { place = PrefixFold i; argument = Pair acc d } ∷ []) (left_tier (h.fold acc d) (suc i) ds) (refl, tt)

  right_tier : (i : ℕ) (d : D) (es : List D) → AreOfTier 1 (right_inputs h i d es)
  right_tier i d [] = tt
  right_tier i d (e ∷ es) = (refl, right_tier (suc i) e es)

  joined_tier : (acc : D) (left : List (Input D)) (i : ℕ) (es : List D) → AreOfTier 1 left → AreOfTier 1 (joined_inputs h acc left i es)
  joined_tier acc left i [] a = a
  joined_tier acc left i (e ∷ es) a = (refl, tiers_joined 1 left (right_inputs h i e es) a (right_tier i e es))

  pub numbered_tier : (b : Bagging) (k j m : ℕ) (ds : List D) → AreOfTier 1 (numbered_inputs h b k j m ds)
  numbered_tier ForwardFold k j m [] = tt
  numbered_tier BackwardFold k j m [] = tt
  numbered_tier ForwardFold k j m (d ∷ ds) = left_tier d m ds
  numbered_tier BackwardFold k j m (d ∷ ds) = joined_tier (fold h.fold d (take (j - 1) ds)) (left_inputs h d m (take (j - 1) ds)) (suc (pred k)) (drop (j - 1) ds) (left_tier d m (take (j - 1) ds))

  pub fold_tier : (b : Bagging) (k : ℕ) (ds : List D) → AreOfTier 1 (fold_inputs h b k ds)
  fold_tier ForwardFold k [] = tt
  fold_tier BackwardFold k [] = tt
  fold_tier ForwardFold k (d ∷ ds) = left_tier d 1 ds
  fold_tier BackwardFold k (d ∷ ds) = joined_tier (fold h.fold d (take (pred k) ds)) (left_inputs h d 1 (take (pred k) ds)) (suc (pred k)) (drop (pred k) ds) (left_tier d 1 (take (pred k) ds))

  -- ---- nodes
  tree_tier : (c : ℕ → Bool) (X : ℕ → D) (t : Tree) (ds : List D) → AreOfTier 2 (visited h (tree_claim h c X t ds))
  tree_tier c X (leaf p i) ds = by_test (λ b. AreOfTier 2 (visited h (cond b (supplied (X i)) (supplied (next h ds))))) (c i) (λ _. tt) (λ _. tt)
  tree_tier c X (join p l r) ds =
      let es = drop (length (siblings c l)) ds in
      let a = tree_tier c X l ds in
      let b = tree_tier c X r es in
      by_test (λ v. AreOfTier 2 (visited h (cond v (computed (Node p) (tree_claim h c X l ds) (tree_claim h c X r es)) (supplied (next h ds))))) (tree_meets c l || tree_meets c r)
      (λ _. (refl, tiers_joined 2 (visited h (tree_claim h c X l ds)) (visited h (tree_claim h c X r es)) a b)) (λ _. tt)

  pub over_tier : (c : ℕ → Bool) (X : ℕ → D) (ts : List Tree) (ds : List D) → AreOfTier 2 (over_inputs h c X ts ds)
  over_tier c X [] ds = tt
  over_tier c X (t ∷ ts) ds = tiers_joined 2 (visited h (tree_claim h c X t ds)) (over_inputs h c X ts (drop (length (siblings c t)) ds))
      (tree_tier c X t ds) (over_tier c X ts (drop (length (siblings c t)) ds))

  also_tier : (o : Option D) (e : Expression D) → AreOfTier 2 (visited h e) → AreOfTier 2 (visited h (also o e))
  also_tier None e a = a
  also_tier (Some d) e a = a

  module _ (a : ℕ → Option D) (c : ℕ → Bool) (Y : ℕ → D) where
    scattered_tier : (t : Tree) → AreOfTier 2 (visited h (multi_tree h a c Y t))
    scattered_tier (leaf p i) = by_test (λ b. AreOfTier 2 (visited h (cond b (also (a p) (supplied (Y i))) (supplied (or_empty h (a p)))))) (c i) (λ _. also_tier (a p) (supplied (Y i)) tt) (λ _. tt)
    scattered_tier (join p l r) =
        let e = computed (Node p) (multi_tree h a c Y l) (multi_tree h a c Y r) in
        let u = scattered_tier l in
        let v = scattered_tier r in
        by_test (λ b. AreOfTier 2 (visited h (cond b (also (a p) e) (supplied (or_empty h (a p)))))) (tree_meets c l || tree_meets c r)
        (λ _. also_tier (a p) e (refl, tiers_joined 2 (visited h (multi_tree h a c Y l)) (visited h (multi_tree h a c Y r)) u v)) (λ _. tt)

    pub multi_tier : (ts : List Tree) → AreOfTier 2 (flat_map (λ t. visited h (multi_claim h a c Y (peak t))) ts)
    multi_tier [] = tt
    multi_tier (t ∷ ts) = tiers_joined 2 (visited h (multi_claim h a c Y (peak t))) (flat_map (λ t. visited h (multi_claim h a c Y (peak t))) ts) (scattered_tier t) (multi_tier ts)

  list_tier : (X : ℕ → D) (t : Tree) → AreOfTier 2 (visited h (node_expression X t))
  list_tier X (leaf p i) = tt
  list_tier X (join p l r) = (refl, tiers_joined 2 (visited h (node_expression X l)) (visited h (node_expression X r)) (list_tier X l) (list_tier X r))

  all_tier : (X : ℕ → D) (ts : List Tree) → AreOfTier 2 (flat_map (λ t. visited h (node_expression X t)) ts)
  all_tier X [] = tt
  all_tier X (t ∷ ts) = tiers_joined 2 (visited h (node_expression X t)) (flat_map (λ t. visited h (node_expression X t)) ts) (list_tier X t) (all_tier X ts)

  pub node_tier : (rule : List ℕ → List ℕ) (xs : List D) → AreOfTier 2 (node_inputs h rule xs)
  node_tier rule xs = all_tier (leaf_of h xs) (peaks_of rule (length xs))

-- ---- places of nodes
pub node_of : (p : Place) → tier p ≡ 2 → is_node p ≡ true
node_of (Node q) e = refl
node_of Root e = cc
node_of Join e = cc
node_of (PrefixFold i) e = cc
node_of (SuffixFold i) e = cc

no_node : (p : Place) → (tier p ≡ 2 → ⊥) → is_node p ≡ false
no_node (Node q) n = absurd (n refl)
no_node Root n = refl
no_node Join n = refl
no_node (PrefixFold i) n = refl
no_node (SuffixFold i) n = refl

nodes_joined : (ps qs : List Place) → filter is_node (ps ++ qs) ≡ filter is_node ps ++ filter is_node qs
nodes_joined [] qs = refl
nodes_joined (p ∷ ps) qs =
    let w = nodes_joined ps qs in
    by_test (λ b. cond b (p ∷ filter is_node (ps ++ qs)) (filter is_node (ps ++ qs)) ≡ cond b (p ∷ filter is_node ps) (filter is_node ps)
    ++ filter is_node qs) (is_node p) (λ _. ap (λ z. p ∷ z) w) (λ _. w)

no_downs : (n : ℕ) → filter is_node (down n) ≡ []
no_downs zero = refl
no_downs (suc n) = no_downs n

no_ups : (i n : ℕ) → filter is_node (up i n) ≡ []
no_ups i zero = refl
no_ups i (suc n) = no_ups (suc i) n

no_folds : (b : Bagging) (k m : ℕ) → filter is_node (fold_places b k m) ≡ []
no_folds ForwardFold k m = no_downs (pred m)
no_folds BackwardFold k m =
    let f = suc (pred k) in
    by_test (λ v. filter is_node (cond v (Join ∷ (down (pred f) ++ up f (pred (m - f)))) (down (pred m))) ≡ []) (nat_lt f m)
    (λ _. nodes_joined (down (pred f)) (up f (pred (m - f))) ∙ ap₂ ◌++◌ (no_downs (pred f)) (no_ups f (pred (m - f)))) (λ _. no_downs (pred m))

tree_nodes : (t : Tree) → filter is_node (node_places t) ≡ node_places t
tree_nodes (leaf p i) = refl
tree_nodes (join p l r) = ap (λ z. Node p ∷ z) (nodes_joined (node_places l) (node_places r) ∙ ap₂ ◌++◌ (tree_nodes l) (tree_nodes r))

all_nodes : (ts : List Tree) → filter is_node (flat_map node_places ts) ≡ flat_map node_places ts
all_nodes [] = refl
all_nodes (t ∷ ts) = nodes_joined (node_places t) (flat_map node_places ts) ∙ ap₂ ◌++◌ (tree_nodes t) (all_nodes ts)

module _ {D : Type 0} (s : Scheme D) where
  peak_nodes : (k : ℕ) (ts : List Tree) → filter is_node (peak_places s k ts) ≡ flat_map node_places ts
  peak_nodes k [] = refl
  peak_nodes k (t ∷ ts) = nodes_joined (fold_places s.bagging k (suc (length ts))) (flat_map node_places (t ∷ ts)) ∙ ap₂ ◌++◌ (no_folds s.bagging k (suc (length ts))) (all_nodes (t ∷ ts))

  pub full_nodes : (n k : ℕ) → filter is_node (full_places s n k) ≡ flat_map node_places (peaks_of s.rule n)
  full_nodes n k = peak_nodes k (peaks_of s.rule n)

pub filtered : (ps : List Place) → IsSublist (filter is_node ps) ps
filtered [] = no_more
filtered (p ∷ ps) =
    let w = filtered ps in
    by_test (λ b. IsSublist (cond b (p ∷ filter is_node ps) (filter is_node ps)) (p ∷ ps)) (is_node p) (λ _. kept p w) (λ _. left_out p w)

not_two : ◌≡◌ {A = ℕ} 0 2 → ⊥
not_two e = cc

one_not_two : ◌≡◌ {A = ℕ} 1 2 → ⊥
one_not_two e = cc

module _ {D : Type 0} where
  places_joined : (xs ys : List (Input D)) → places_in (xs ++ ys) ≡ places_in xs ++ places_in ys
  places_joined [] ys = refl
  places_joined (x ∷ xs) ys = ap (λ z. x.place ∷ z) (places_joined xs ys)

  folds_gone : (xs : List (Input D)) → AreOfTier 1 xs → filter is_node (places_in xs) ≡ []
  folds_gone [] a = refl
  folds_gone (x ∷ xs) a = ap (λ b. cond b (x.place ∷ filter is_node (places_in xs)) (filter is_node (places_in xs))) (no_node x.place (λ e. one_not_two (sym a.0 ∙ e))) ∙ folds_gone xs a.1

  nodes_stay : (xs : List (Input D)) → AreOfTier 2 xs → filter is_node (places_in xs) ≡ places_in xs
  nodes_stay [] a = refl
  nodes_stay (x ∷ xs) a = ap (λ b. cond b (x.place ∷ filter is_node (places_in xs)) (filter is_node (places_in xs))) (node_of x.place a.0) ∙ ap (λ z. x.place ∷ z) (nodes_stay xs a.1)

  -- the places of nodes among all
  pub nodes_among : (a : Input D) (fx nx : List (Input D)) → tier a.place ≡ 0 → AreOfTier 1 fx → AreOfTier 2 nx → filter is_node (places_in (a ∷ fx ++ nx)) ≡ places_in nx
  nodes_among a fx nx t u v =
      ap (λ b. cond b (a.place ∷ filter is_node (places_in (fx ++ nx))) (filter is_node (places_in (fx ++ nx)))) (no_node a.place (λ e. not_two (sym t ∙ e)))
      ∙ ap (filter is_node) (places_joined fx nx) ∙ nodes_joined (places_in fx) (places_in nx) ∙ ap₂ ◌++◌ (folds_gone fx u) (nodes_stay nx v)

  pub looked_same : (t : Input D → Input D → Bool) (ps : List Place) (f g f' g' : Place → Option (Input D)) → AllByRecursion (λ p. f p ≡ f' p) ps → AllByRecursion (λ p. g p ≡ g' p) ps
      → looked_up t ps f g ≡ looked_up t ps f' g'
  looked_same t [] f g f' g' a b = refl
  looked_same t (p ∷ ps) f g f' g' a b = ap₂ or_else (ap₂ (λ x y. found_of t x y) a.0 b.0) (looked_same t ps f g f' g' a.1 b.1)

  at_right : (us vs : List (Input D)) (n : ℕ) (p : Place) → AreOfTier n us → (n ≡ tier p → ⊥) → input_at (us ++ vs) p ≡ input_at vs p
  at_right [] vs n p a d = refl
  at_right (u ∷ us) vs n p a d =
      ap (λ b. cond b (Some u) (input_at (us ++ vs) p)) (is_false _ (λ q. d (sym a.0 ∙ ap tier ((Decides-place u.place p).0 q)))) ∙ at_right us vs n p a.1 d

  tree_same : (f g : Place → Option (Input D)) → ((p : ℕ) → f (Node p) ≡ g (Node p)) → (t : Tree) → AllByRecursion (λ p. f p ≡ g p) (node_places t)
  tree_same f g w (leaf p i) = tt
  tree_same f g w (join p l r) = (w p, both (node_places l) (node_places r) (tree_same f g w l) (tree_same f g w r))
    where
      both : (ps qs : List Place) → AllByRecursion (λ p. f p ≡ g p) ps → AllByRecursion (λ p. f p ≡ g p) qs → AllByRecursion (λ p. f p ≡ g p) (ps ++ qs)
      both [] qs a b = b
      both (q ∷ ps) qs a b = (a.0, both ps qs a.1 b)

  pub all_same : (f g : Place → Option (Input D)) → ((p : ℕ) → f (Node p) ≡ g (Node p)) → (ts : List Tree) → AllByRecursion (λ p. f p ≡ g p) (flat_map node_places ts)
  all_same f g w [] = tt
  all_same f g w (t ∷ ts) = both (node_places t) (flat_map node_places ts) (tree_same f g w t) (all_same f g w ts)
    where
      both : (ps qs : List Place) → AllByRecursion (λ p. f p ≡ g p) ps → AllByRecursion (λ p. f p ≡ g p) qs → AllByRecursion (λ p. f p ≡ g p) (ps ++ qs)
      both [] qs a b = b
      both (q ∷ ps) qs a b = (a.0, both ps qs a.1 b)

  pub at_nodes : (a : Input D) (fx nx : List (Input D)) → tier a.place ≡ 0 → AreOfTier 1 fx → (p : ℕ) → input_at nx (Node p) ≡ input_at (a ∷ fx ++ nx) (Node p)
  at_nodes a fx nx t u p = sym (at_right (a ∷ []) (fx ++ nx) 0 (Node p) (t, tt) (λ e. not_two e) ∙ at_right fx nx 1 (Node p) u (λ e. one_not_two e))

-- the first difference of inputs whose places are some of those of one leaf and inactive count: at the root, in the folds, or at a
-- node, by what stands there
pub searched : {D : Type 0} (s : Scheme D) (n k : ℕ) (a b : Input D) (fx nx fy ny : List (Input D)) → tier a.place ≡ 0 → tier b.place ≡ 0
    → AreOfTier 1 fx → AreOfTier 2 nx → AreOfTier 1 fy → AreOfTier 2 ny
    → IsSublist (places_in (a ∷ fx ++ nx)) (full_places s n k) → IsSublist (places_in (b ∷ fy ++ ny)) (full_places s n k)
    → first_difference s.hashing (a ∷ fx ++ nx) (b ∷ fy ++ ny)
    ≡ or_else (difference_for s.hashing (a ∷ []) b) (or_else (first_difference s.hashing fx fy)
    (looked_up (is_difference s.hashing) (flat_map node_places (peaks_of s.rule n)) (input_at (a ∷ fx ++ nx)) (input_at (b ∷ fy ++ ny))))
searched s n k a b fx nx fy ny ta tb tfx tnx tfy tny sx sy =
    let ps = flat_map node_places (peaks_of s.rule n) in
    let ux : IsSublist (places_in nx) ps =
    subst (λ qs. IsSublist qs ps) (nodes_among a fx nx ta tfx tnx)
    (subst (λ qs. IsSublist (filter is_node (places_in (a ∷ fx ++ nx))) qs) (full_nodes s n k) (sub_filter is_node sx)) in
    let uy : IsSublist (places_in ny) ps =
    subst (λ qs. IsSublist qs ps) (nodes_among b fy ny tb tfy tny)
    (subst (λ qs. IsSublist (filter is_node (places_in (b ∷ fy ++ ny))) qs) (full_nodes s n k) (sub_filter is_node sy)) in
    let once : Distinct ps = subst Distinct (full_nodes s n k) (sub_distinct (filtered (full_places s n k)) (claim_places.once s n k)) in
    in_parts s.hashing a b fx nx fy ny ta tb tfx tnx tfy tny
    ∙ ap (λ o. or_else (difference_for s.hashing (a ∷ []) b) (or_else (first_difference s.hashing fx fy) o))
    (sym (searches_find.places_differ s.hashing ps once nx ny ux uy)
    ∙ looked_same (is_difference s.hashing) ps (input_at nx) (input_at ny) (input_at (a ∷ fx ++ nx)) (input_at (b ∷ fy ++ ny))
    (all_same (input_at nx) (input_at (a ∷ fx ++ nx)) (at_nodes a fx nx ta tfx) (peaks_of s.rule n))
    (all_same (input_at ny) (input_at (b ∷ fy ++ ny)) (at_nodes b fy ny tb tfy) (peaks_of s.rule n)))
