-- The multi check: the honest inputs are accepted, and no others, but for collisions.
use Rattle.std.proofs.Common.{◌≡◌, ℕ, Bool, true, false, cond, ◌||◌, nat_eq, ◌≤◌, ◌<◌, List, [], ◌∷◌, ◌++◌, ◌⊎◌, inl, inr, refl, ap, ap₂, sym, ◌∙◌, subst}
use Rattle.std.proofs.Common.{⊎_elim, arith, length, map, flat_map, Option, Some, None, option_map, IfSome, unwrap_or}
use Rattle.std.specs.List.{AllByRecursion, list_any, range_with_len}
use Rattle.std.proofs.lemmas.Bool.{eqb-true, eq-eqb, or_right, cases_Bool, or_cases, false≢true}
use Rattle.std.proofs.lemmas.List.{length-map}
use Rattle.std.proofs.lemmas.Option.{get_or_from_slice_get}
use Rattle.merkle_base.specs.Tree.{Tree, leaf, join, position, IsBuilt}
use Rattle.merkle_base.specs.Digests.{node_digests}
use Rattle.merkle_base.specs.Forest.{forest, size}
use Rattle.merkle_base.proofs.Growth.{built_at, built_below}
use Rattle.merkle_root_theory.specs.Expression.{Holds}
use Rattle.merkle_base.specs.Hashing.{Hashing}
use Rattle.merkle_root_theory.specs.Collision.{Member}
use Rattle.merkle_root_theory.specs.Plan.{Plan, peak, folding, root_plan, tree_meets, siblings, tree_digest}
use Rattle.merkle_root_theory.specs.Claim.{InTree}
use Rattle.merkle_claim_theory.specs.Order.{Distinct}
use Rattle.merkle_claim_theory.specs.MultiClaim.{or_empty, TellsTree, Tells, SameTree, SameLeaves}
use Rattle.merkle_claim_theory.specs.Complete.{HonestTree, HonestPlan}
use Rattle.merkle_root_theory.specs.Check.{root_of, list_expression}
use Rattle.merkle_base.specs.Scheme.{Scheme}
use Rattle.merkle_base.specs.Places.{peaks_of}
use Rattle.merkle_root_theory.specs.Range.{leaf_of, plan_root, IsLawfulScheme}
use Rattle.merkle_base.specs.Table.{digest_for, digest_at_position}
use Rattle.merkle_claim_theory.specs.Multiproof.{one_leaf_nodes, is_one_leaf_position, multi_positions, MultiInput, locations_in, leaves_in, multi_on, AllHolds}
use Rattle.merkle_claim_theory.specs.Multiproof.{AcceptsMultiSome, IsHonestMultiSome, MultiCollides, HonestMultiIsAccepted, MultiSound}
use Rattle.merkle_root_theory.proofs.Collisions.{member_left, member_right}
use Rattle.merkle_claim_theory.proofs.HonestClaims.{member_split}
use Rattle.merkle_base.proofs.Cases.{by_test}
use Rattle.merkle_claim_theory.proofs.ToldDigests.{no_other_multi}
use Rattle.merkle_claim_theory.proofs.HonestMultis.{multi_of_some, multi_of_cases, cases_of_multi}
use Rattle.merkle_claim_theory.proofs.HonestTold.{honest_multi_accepted}
use Rattle.merkle_root_theory.proofs.ListRoots.{node_digest_is}
use Rattle.merkle_root_theory.proofs.RangeChecks.{covers, small_leaves, small_inactive, empty_root}
use Rattle.merkle_claim_theory.proofs.ListedDigests.{any_member, member_any, member_filtered, filtered_member, range_member, distinct_range, distinct_filter}
use Rattle.merkle_claim_theory.proofs.ListedDigests.{ascends_distinct, listed, listed_is, listed_some, EachPeak, each_of, of_each, plan_for, roots, below_root}
use Rattle.merkle_claim_theory.proofs.ListedDigests.{roots_same, no_other_list}
use Rattle.merkle_base.proofs.PeakLists.{peaks_built}

pub all_member : {A : Type 0} (P : A → Type 0) (xs : List A) (x : A) → AllByRecursion P xs → Member xs x → P x
all_member P [] x h m = elim m [ ]
all_member P (y ∷ xs) x h (inl e) = subst P e h.0
all_member P (y ∷ xs) x h (inr m) = all_member P xs x h.1 m

pub member_all : {A : Type 0} (P : A → Type 0) (xs : List A) → ((x : A) → Member xs x → P x) → AllByRecursion P xs
member_all P [] f = tt
member_all P (x ∷ xs) f = (f x (inl refl), member_all P xs (λ y m. f y (inr m)))

pub flat_member : {A B : Type 0} (f : A → List B) (xs : List A) (y : B) → Member (flat_map f xs) y → (x : A) × Member xs x × Member (f x) y
flat_member f [] y m = elim m [ ]
flat_member f (x ∷ xs) y m = ⊎_elim (λ w. (x, inl refl, w)) (λ w. let v = flat_member f xs y w in (v.0, inr v.1, v.2)) (member_split (f x) (flat_map f xs) y m)

pub member_flat : {A B : Type 0} (f : A → List B) (xs : List A) (x : A) (y : B) → Member xs x → Member (f x) y → Member (flat_map f xs) y
member_flat f [] x y m n = elim m [ ]
member_flat f (z ∷ xs) x y (inl e) n = member_left (f z) (flat_map f xs) y (subst (λ v. Member (f v) y) (sym e) n)
member_flat f (z ∷ xs) x y (inr m) n = member_right (f z) (flat_map f xs) y (member_flat f xs x y m n)

-- what stands under a built tree is built
pub sibling_built : (ns : List Tree) (c : ℕ → Bool) (u t : Tree) → IsBuilt ns u → Member (siblings c u) t → IsBuilt ns t
sibling_built ns c (leaf p i) t b = by_test (λ z. Member (cond z [] (leaf p i ∷ [])) t → IsBuilt ns t) (c i) (λ _ m. elim m [ ]) (λ _ m. ⊎_elim (λ e. subst (IsBuilt ns) e b) (λ n. elim n [ ]) m)
sibling_built ns c (join p l r) t b = by_test (λ z. Member (cond z (siblings c l ++ siblings c r) (join p l r ∷ [])) t → IsBuilt ns t) (tree_meets c l || tree_meets c r)
    (λ _ m. ⊎_elim (λ w. sibling_built ns c l t b.4 w) (λ w. sibling_built ns c r t b.5 w) (member_split (siblings c l) (siblings c r) t m))
    (λ _ m. ⊎_elim (λ e. subst (IsBuilt ns) e b) (λ n. elim n [ ]) m)

abbrev pub only : ℕ → ℕ → Bool
only i j = nat_eq j i

-- where one chosen leaf lies under a tree, some do
meets_more : (c : ℕ → Bool) (i : ℕ) → c i ≡ true → (t : Tree) → tree_meets (only i) t ≡ true → tree_meets c t ≡ true
meets_more c i e (leaf p j) m = ap c (eqb-true j i m) ∙ e
meets_more c i e (join p l r) m = ⊎_elim (λ w. ap (λ z. z || tree_meets c r) (meets_more c i e l w)) (λ w. or_right (tree_meets c l) _ (meets_more c i e r w)) (or_cases (tree_meets (only i) l) _ m)

meets_some : (c : ℕ → Bool) (t : Tree) → tree_meets c t ≡ true → (i : ℕ) × (c i ≡ true) × (tree_meets (only i) t ≡ true)
meets_some c (leaf p j) m = (j, m, eq-eqb j j refl)
meets_some c (join p l r) m =
    ⊎_elim (λ w. let v = meets_some c l w in (v.0, v.1, ap (λ z. z || tree_meets (only v.0) r) v.2))
    (λ w. let v = meets_some c r w in (v.0, v.1, or_right (tree_meets (only v.0) l) _ v.2)) (or_cases (tree_meets c l) _ m)

same_in : {D : Type 0} (c : ℕ → Bool) (X Y : ℕ → D) (t : Tree) (i : ℕ) → SameTree c X Y t → InTree t i → c i ≡ true → Y i ≡ X i
same_in c X Y (leaf p j) i s e q = subst (λ z. c z ≡ true → Y z ≡ X z) e s q
same_in c X Y (join p l r) i s (inl m) q = same_in c X Y l i s.0 m q
same_in c X Y (join p l r) i s (inr m) q = same_in c X Y r i s.1 m q

module _ {D : Type 0} (h : Hashing D) (a : ℕ → Option D) (c : ℕ → Bool) (X : ℕ → D) where
  -- what is told at a sibling of a chosen leaf
  tells_sibling : (i : ℕ) → c i ≡ true → (u t : Tree) → TellsTree h a c X u → Member (siblings (only i) u) t → IfSome (a (position t)) (λ d. d ≡ tree_digest h X t)
  tells_sibling i q (leaf p j) t w = by_test (λ z. Member (cond z [] (leaf p j ∷ [])) t → IfSome (a (position t)) (λ d. d ≡ tree_digest h X t)) (only i j)
      (λ _ m. elim m [ ]) (λ _ m. ⊎_elim (λ e. subst (λ t. IfSome (a (position t)) (λ d. d ≡ tree_digest h X t)) e w) (λ n. elim n [ ]) m)
  tells_sibling i q (join p l r) t w =
      by_test (λ z. tree_meets (only i) (join p l r) ≡ z → Member (cond z (siblings (only i) l ++ siblings (only i) r) (join p l r ∷ [])) t
      → IfSome (a (position t)) (λ d. d ≡ tree_digest h X t)) (tree_meets (only i) (join p l r))
      (λ _ e m. let v : TellsTree h a c X l × TellsTree h a c X r = subst (λ z. cond z (TellsTree h a c X l × TellsTree h a c X r) (Unit {0})) (meets_more c i q (join p l r) e) w.1 in
      ⊎_elim (λ y. tells_sibling i q l t v.0 y) (λ y. tells_sibling i q r t v.1 y) (member_split (siblings (only i) l) (siblings (only i) r) t m))
      (λ _ _ m. ⊎_elim (λ e. subst (λ t. IfSome (a (position t)) (λ d. d ≡ tree_digest h X t)) e w.0) (λ n. elim n [ ]) m) refl

  tells_each : (p : Plan) → Tells h a c X p → EachPeak (TellsTree h a c X) p
  tells_each (peak t) w = w
  tells_each (folding place l r) w = (tells_each l w.0, tells_each r w.1)

  pub each_honest : (p : Plan) → EachPeak (HonestTree h a c X) p → HonestPlan h a c X p
  each_honest (peak t) w = w
  each_honest (folding place l r) w = (each_honest l w.0, each_honest r w.1)

same_each : {D : Type 0} (c : ℕ → Bool) (X Y : ℕ → D) (p : Plan) → SameLeaves c X Y p → EachPeak (SameTree c X Y) p
same_each c X Y (peak t) w = w
same_each c X Y (folding place l r) w = (same_each c X Y l w.0, same_each c X Y r w.1)

pub told_some : {D : Type 0} (e : D) (o : Option D) (d : D) → unwrap_or o e ≡ d → IfSome o (λ x. x ≡ d)
told_some e None d q = tt
told_some e (Some x) d q = q

pub if_some : {D : Type 0} (o : Option D) (x y : D) → x ≡ y → IfSome o (λ d. d ≡ x) → IfSome o (λ d. d ≡ y)
if_some o x y e w = subst (λ z. IfSome o (λ d. d ≡ z)) e w

module _ {D : Type 0} (s : Scheme D) (xs : List D) (locations : List ℕ) where
  n : ℕ
  n = length xs

  ts : List Tree
  ts = peaks_of s.rule (length xs)

  abbrev ns : List Tree
  ns = (forest s.rule (length xs)).nodes

  abbrev X : ℕ → D
  X = leaf_of s.hashing xs

  abbrev ps : List ℕ
  ps = multi_positions s.rule (length xs) locations

  abbrev f : ℕ → D
  f = digest_at_position s xs

  abbrev c : ℕ → Bool
  c i = list_any (nat_eq i) locations

  pub node_digest : (t : Tree) → IsBuilt ns t → f (position t) ≡ tree_digest s.hashing X t
  node_digest t b = get_or_from_slice_get (node_digests s.hashing s.rule xs) (position t) (tree_digest s.hashing X t) s.hashing.empty
      (node_digest_is s.hashing s.rule xs (position t) t (built_at ns t b))

  pub chosen_in : (i : ℕ) → c i ≡ true → Member locations i
  chosen_in i e = let w = member_any (nat_eq i) locations e in subst (Member locations) (sym (eqb-true i w.0 w.2)) w.1

  in_chosen : (i : ℕ) → Member locations i → c i ≡ true
  in_chosen i m = any_member (nat_eq i) locations i m (eq-eqb i i refl)

  pub distinct_positions : Distinct ps
  distinct_positions = distinct_filter _ (range_with_len 0 (size s.rule (length xs))) (distinct_range 0 (size s.rule (length xs)))

  -- a path sibling of a location, or another peak, is listed
  is_listed : (i : ℕ) → Member locations i → (t u : Tree) → Member (peaks_of s.rule (length xs)) t → Member (siblings (only i) t) u → Member ps (position u)
  is_listed i m t u v w =
      let b : IsBuilt ns u = sibling_built ns (only i) t u (all_member (IsBuilt ns) (peaks_of s.rule (length xs)) t (peaks_built s.rule (length xs)) v) w in
      member_filtered _ (range_with_len 0 (size s.rule (length xs))) (position u) (range_member 0 (size s.rule (length xs)) (position u) (omega arith) (omega (arith, built_below ns u b)))
      (any_member (is_one_leaf_position (peaks_of s.rule (length xs)) (position u)) locations i m
      (any_member (λ t. nat_eq (position t) (position u)) (one_leaf_nodes i (peaks_of s.rule (length xs))) u
      (member_flat (siblings (only i)) (peaks_of s.rule (length xs)) t u v w) (eq-eqb (position u) (position u) refl)))

  -- where the told digests of the peaks' nodes are the list's, so are the listed ones
  told_listed : (a : ℕ → Option D) → AllByRecursion (TellsTree s.hashing a c X) (peaks_of s.rule (length xs)) → (p : ℕ) → Member ps p → IfSome (a p) (λ d. d ≡ f p)
  told_listed a w p m =
      let u = filtered_member (λ p. list_any (is_one_leaf_position (peaks_of s.rule (length xs)) p) locations) (range_with_len 0 (size s.rule (length xs))) p m in
      let v = member_any (is_one_leaf_position (peaks_of s.rule (length xs)) p) locations u.1 in
      let x = member_any (λ t. nat_eq (position t) p) (one_leaf_nodes v.0 (peaks_of s.rule (length xs))) v.2 in
      let y = flat_member (siblings (only v.0)) (peaks_of s.rule (length xs)) x.0 x.1 in
      let b : IsBuilt ns x.0 = sibling_built ns (only v.0) y.0 x.0 (all_member (IsBuilt ns) (peaks_of s.rule (length xs)) y.0 (peaks_built s.rule (length xs)) y.1) y.2 in
      subst (λ q. IfSome (a q) (λ d. d ≡ f q)) (eqb-true (position x.0) p x.2)
      (if_some (a (position x.0)) _ _ (sym (node_digest x.0 b)) (tells_sibling s.hashing a c X v.0 (in_chosen v.0 v.1) y.0 x.0 (all_member _ (peaks_of s.rule (length xs)) y.0 w y.1) y.2))

  -- every node that a tree needs is listed
  Sub : ℕ → Tree → Type 0
  Sub i t = (u : Tree) → Member (siblings (only i) t) u → Member ps (position u)

  Needs : Tree → Type 0
  Needs t = ((i : ℕ) → c i ≡ true → tree_meets (only i) t ≡ true → Sub i t) × ((i : ℕ) × (c i ≡ true) × Sub i t)

  abbrev a : ℕ → Option D
  a = digest_for ps (map f ps)

  told_is : (t : Tree) → IsBuilt ns t → IfSome (a (position t)) (λ d. d ≡ tree_digest s.hashing X t)
  told_is t b = if_some (a (position t)) _ _ (node_digest t b) (listed_is ps f (position t))

  given_is : (t : Tree) → IsBuilt ns t → Member ps (position t) → or_empty s.hashing (a (position t)) ≡ tree_digest s.hashing X t
  given_is t b m = ap (or_empty s.hashing) (listed_some ps f (position t) m) ∙ node_digest t b

  sub_left : (i p : ℕ) (l r : Tree) → tree_meets (only i) (join p l r) ≡ true → Sub i (join p l r) → Sub i l × Sub i r
  unfolding Sub
  sub_left i p l r e w = let v = subst (λ z. (u : Tree) → Member (cond z (siblings (only i) l ++ siblings (only i) r) (join p l r ∷ [])) u → Member ps (position u)) e w in
      ((λ u m. v u (member_left (siblings (only i) l) (siblings (only i) r) u m)), (λ u m. v u (member_right (siblings (only i) l) (siblings (only i) r) u m)))

  sub_itself : (i p : ℕ) (l r : Tree) → tree_meets (only i) (join p l r) ≡ false → Sub i (join p l r) → Member ps p
  unfolding Sub
  sub_itself i p l r e w = (subst (λ z. (u : Tree) → Member (cond z (siblings (only i) l ++ siblings (only i) r) (join p l r ∷ [])) u → Member ps (position u)) e w) (join p l r) (inl refl)

  sub_leaf : (i p j : ℕ) → only i j ≡ false → Sub i (leaf p j) → Member ps p
  unfolding Sub
  sub_leaf i p j e w = (subst (λ z. (u : Tree) → Member (cond z [] (leaf p j ∷ [])) u → Member ps (position u)) e w) (leaf p j) (inl refl)

  not_met : (t : Tree) (i : ℕ) → c i ≡ true → tree_meets c t ≡ false → tree_meets (only i) t ≡ false
  not_met t i q e = ⊎_elim (λ m. absurd (false≢true (sym e ∙ meets_more c i q t m))) (λ z. z) (cases_Bool (tree_meets (only i) t))

  needs_tree : (t : Tree) → IsBuilt ns t → Needs t → HonestTree s.hashing a c X t
  unfolding Needs
  needs_tree (leaf p j) b w = by_test (λ z. c j ≡ z → cond z (IfSome (a p) (λ d. d ≡ X j)) (or_empty s.hashing (a p) ≡ X j)) (c j)
      (λ _ _. told_is (leaf p j) b) (λ _ e. given_is (leaf p j) b (sub_leaf w.1.0 p j (not_met (leaf p j) w.1.0 w.1.1 e) w.1.2)) refl
  needs_tree (join p l r) b w =
      by_test (λ z. tree_meets c (join p l r) ≡ z
      → cond z (IfSome (a p) (λ d. d ≡ tree_digest s.hashing X (join p l r)) × HonestTree s.hashing a c X l × HonestTree s.hashing a c X r)
      (or_empty s.hashing (a p) ≡ tree_digest s.hashing X (join p l r))) (tree_meets c (join p l r))
      (λ _ e. let m = meets_some c (join p l r) e in let v = sub_left m.0 p l r m.2 (w.0 m.0 m.1 m.2) in (
        told_is (join p l r) b,
        needs_tree l b.4 ((λ i q x. (let y : tree_meets (only i) (join p l r) ≡ true = ap (λ z. z || tree_meets (only i) r) x in (sub_left i p l r y (w.0 i q y)).0)), (m.0, m.1, v.0)),
        needs_tree r b.5 ((λ i q x. (let y : tree_meets (only i) (join p l r) ≡ true = or_right (tree_meets (only i) l) _ x in (sub_left i p l r y (w.0 i q y)).1)), (m.0, m.1, v.1)),
      ))
      (λ _ e. given_is (join p l r) b (sub_itself w.1.0 p l r (not_met (join p l r) w.1.0 w.1.1 e) w.1.2)) refl

  pub needs_peaks : (i : ℕ) → Member locations i → AllByRecursion (HonestTree s.hashing a c X) (peaks_of s.rule (length xs))
  unfolding Needs Sub
  needs_peaks i m = member_all _ (peaks_of s.rule (length xs)) (λ t v. needs_tree t (all_member (IsBuilt ns) (peaks_of s.rule (length xs)) t (peaks_built s.rule (length xs)) v)
      ((λ j q x u w. is_listed j (chosen_in j q) t u v w), (i, in_chosen i m, λ u w. is_listed i m t u v w)))

-- some locations: one of them, and some leaves
pub some_leaves : {D : Type 0} (m : ℕ) (es : List (ℕ × D)) → 0 < length es → AllByRecursion (λ i. i < m) (map (λ (e : ℕ × D). e.0) es) → 0 < m
some_leaves m [] l b = absurd (omega arith)
some_leaves m (e ∷ es) l b = omega (arith, b.0)

pub first_location : {D : Type 0} (es : List (ℕ × D)) → 0 < length es → (i : ℕ) × Member (map (λ (e : ℕ × D). e.0) es) i
first_location [] l = absurd (omega arith)
first_location (e ∷ es) l = (e.0, inl refl)

module _ {D : Type 0} (s : Scheme D) (size max_nodes : ℕ) (sound : IsLawfulScheme s size max_nodes) (xs : List D) (k : ℕ)
    (few : length xs ≤ s.max_leaves) (low : k ≤ length (peaks_of s.rule (length xs))) (r : MultiInput D) where
  same_length : length (leaves_in r) ≡ length (locations_in r)
  same_length = length-map r.elements _ ∙ sym (length-map r.elements _)

  Y : ℕ → D
  Y i = unwrap_or (digest_for (locations_in r) (leaves_in r) i) s.hashing.empty

  multi_honest : AcceptsMultiSome s r (plan_root s xs k) → IsHonestMultiSome s xs k r ⊎ MultiCollides s r xs k
  unfolding Y
  multi_honest ok =
      let pos : 0 < r.leaves = some_leaves r.leaves r.elements ok.nonempty ok.below in
      let p = plan_for s r.leaves r.inactive pos in
      let a1 = small_leaves s max_nodes r.leaves sound.lawful ok.leaves in
      let a2 = small_leaves s max_nodes (length xs) sound.lawful few in
      let b1 = small_inactive s max_nodes r.leaves r.inactive sound.lawful ok.leaves ok.inactive in
      let b2 = small_inactive s max_nodes (length xs) k sound.lawful few low in
      let holds : Holds s.hashing (multi_on s r p.0) = subst (λ o. AllHolds s (option_map (multi_on s r) o)) p.1 ok.redundant in
      ⊎_elim (λ w. ⊎_elim (λ v. inl (honest w.0 w.1 p.0 p.1 v.0 v.1 ok))
      (λ v. inr (below_root s size sound.bytes (leaf_of s.hashing xs) (multi_on s r) r.leaves (length xs) r.inactive k a1 a2 b1 b2 p.0 p.1 w.0 w.1 v))
      (no_other_multi s.hashing sound.laws (digest_for (multi_positions s.rule r.leaves (locations_in r)) r.digests)
      (λ i. list_any (nat_eq i) (locations_in r)) (leaf_of s.hashing xs) Y p.0 holds w.2)) inr
      (roots s size sound.bytes (leaf_of s.hashing xs) (multi_on s r) r.leaves (length xs) r.inactive k a1 a2 b1 b2 pos p.0 p.1 ok.root_is)
    where
      honest : r.leaves ≡ length xs → r.inactive ≡ k → (p : Plan) → root_plan s.bagging r.inactive (peaks_of s.rule r.leaves) ≡ Some p
          → Tells s.hashing (digest_for (multi_positions s.rule r.leaves (locations_in r)) r.digests) (λ i. list_any (nat_eq i) (locations_in r)) (leaf_of s.hashing xs) p
          → SameLeaves (λ i. list_any (nat_eq i) (locations_in r)) (leaf_of s.hashing xs) Y p → AcceptsMultiSome s r (plan_root s xs k) → IsHonestMultiSome s xs k r
      honest e f p q tells same ok =
          let peaks = each_of _ s.bagging r.inactive (peaks_of s.rule r.leaves) p q (tells_each s.hashing _ _ _ p tells) in
          let trees = each_of _ s.bagging r.inactive (peaks_of s.rule r.leaves) p q (same_each _ _ _ p same) in
          record {
            nonempty = ok.nonempty;
            ascend = ok.ascend;
            below = subst (λ m. AllByRecursion (λ i. i < m) (locations_in r)) e ok.below;
            leaves = e;
            inactive = f;
            digests = listed (multi_positions s.rule (length xs) (locations_in r)) r.digests (digest_at_position s xs) (distinct_positions s xs (locations_in r))
                (subst (λ m. length r.digests ≡ length (multi_positions s.rule m (locations_in r))) e ok.counts)
                (told_listed s xs (locations_in r) (digest_for (multi_positions s.rule (length xs) (locations_in r)) r.digests)
                (subst (λ m. AllByRecursion (TellsTree s.hashing (digest_for (multi_positions s.rule m (locations_in r)) r.digests)
                (λ i. list_any (nat_eq i) (locations_in r)) (leaf_of s.hashing xs)) (peaks_of s.rule m)) e peaks));
            elements = listed (locations_in r) (leaves_in r) (leaf_of s.hashing xs) (ascends_distinct 0 (locations_in r) ok.ascend) same_length
                (λ i m. (let v = covers s r.leaves i (all_member (λ i. i < r.leaves) (locations_in r) i ok.below m) in
                told_some s.hashing.empty (digest_for (locations_in r) (leaves_in r) i) (leaf_of s.hashing xs i)
                (same_in (λ i. list_any (nat_eq i) (locations_in r)) (leaf_of s.hashing xs) Y v.0 i
                (all_member _ (peaks_of s.rule r.leaves) v.0 trees v.1) v.2 (in_chosen s xs (locations_in r) i m))));
          }

  honest_multi : IsHonestMultiSome s xs k r → AcceptsMultiSome s r (plan_root s xs k)
  unfolding Y
  honest_multi w =
      let back : length xs ≡ r.leaves = sym w.leaves in
      let pos : 0 < r.leaves = omega (arith, some_leaves (length xs) r.elements w.nonempty w.below, back) in
      let p = plan_for s r.leaves r.inactive pos in
      let one = first_location r.elements w.nonempty in
      let trees : AllByRecursion (HonestTree s.hashing (digest_for (multi_positions s.rule r.leaves (locations_in r)) r.digests)
      (λ i. list_any (nat_eq i) (locations_in r)) (leaf_of s.hashing xs)) (peaks_of s.rule r.leaves) =
      subst (λ m. AllByRecursion (HonestTree s.hashing (digest_for (multi_positions s.rule m (locations_in r)) r.digests)
      (λ i. list_any (nat_eq i) (locations_in r)) (leaf_of s.hashing xs)) (peaks_of s.rule m)) back
      (subst (λ ds. AllByRecursion (HonestTree s.hashing (digest_for (multi_positions s.rule (length xs) (locations_in r)) ds)
      (λ i. list_any (nat_eq i) (locations_in r)) (leaf_of s.hashing xs)) (peaks_of s.rule (length xs))) (sym w.digests)
      (needs_peaks s xs (locations_in r) one.0 one.1)) in
      let agrees : (i : ℕ) → list_any (nat_eq i) (locations_in r) ≡ true → Y i ≡ leaf_of s.hashing xs i =
      λ i q. ap (λ ds. unwrap_or (digest_for (locations_in r) ds i) s.hashing.empty) w.elements
      ∙ ap (λ o. unwrap_or o s.hashing.empty) (listed_some (locations_in r) (leaf_of s.hashing xs) i (chosen_in s xs (locations_in r) i q)) in
      let v = honest_multi_accepted s.hashing (digest_for (multi_positions s.rule r.leaves (locations_in r)) r.digests) (λ i. list_any (nat_eq i) (locations_in r)) (leaf_of s.hashing xs) Y p.0 agrees
      (each_honest s.hashing _ _ _ p.0 (of_each _ s.bagging r.inactive (peaks_of s.rule r.leaves) p.0 p.1 trees)) in
      record {
        nonempty = w.nonempty;
        ascend = w.ascend;
        below = subst (λ m. AllByRecursion (λ i. i < m) (locations_in r)) back w.below;
        leaves = omega (arith, few, back);
        inactive = subst (λ z. z ≤ length (peaks_of s.rule r.leaves)) (sym w.inactive) (subst (λ z. k ≤ length (peaks_of s.rule z)) back low);
        counts = ap length w.digests ∙ length-map (multi_positions s.rule (length xs) (locations_in r)) (digest_at_position s xs) ∙ ap (λ m. length (multi_positions s.rule m (locations_in r))) back;
        redundant = subst (λ o. AllHolds s (option_map (multi_on s r) o)) (sym p.1) v.0;
        root_is = roots_same s (leaf_of s.hashing xs) (multi_on s r) r.leaves r.inactive p.0 p.1 v.1
            ∙ ap₂ (λ n j. root_of s n j (list_expression s (leaf_of s.hashing xs) n j)) w.leaves w.inactive;
      }

pub honest_multi_is_accepted : {D : Type 0} → HonestMultiIsAccepted D
honest_multi_is_accepted s size max_nodes sound xs k few low r honest =
    ⊎_elim (λ w. inl (honest_multi s size max_nodes sound xs k few low r w)) (λ w. inr (w.0, empty_root s xs k low w.1)) (cases_of_multi s xs k r low honest)

pub accepted_multi_is_honest : {D : Type 0} → MultiSound D
accepted_multi_is_honest s size max_nodes sound xs k few low r ok =
    ⊎_elim (λ w. ⊎_elim (λ z. inl (multi_of_some s xs k r z)) inr (multi_honest s size max_nodes sound xs k few low r w))
    (λ w. ⊎_elim (λ z. inl (multi_of_cases s xs k r low (inr (w.0, z)))) inr (no_other_list s size max_nodes sound xs k few low (multi_on s r) r.leaves r.inactive w.0.leaves w.0.inactive w.1)) ok
