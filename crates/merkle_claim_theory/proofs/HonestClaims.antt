-- Two lists with the same peaks; an honest claim's inputs are the list's.
use Rattle.std.proofs.Common.{◌≡◌, ℕ, Bool, true, false, not, cond, ◌||◌, List, [], ◌∷◌, ◌++◌, ◌⊎◌, inl, inr, refl, ap, ap₂, sym, ◌∙◌, subst, ⊎_elim, length, map, drop, filter, drop_at, append-nil}
use Rattle.std.proofs.lemmas.List.{length-map}
use Rattle.merkle_root_theory.specs.Expression.{Place, Node, Pair, hashed_at, Input, Expression, supplied, computed, value, Holds, visited, inputs, is_node, Alike, cut_left, both, Agree}
use Rattle.merkle_base.specs.Hashing.{Hashing}
use Rattle.merkle_root_theory.specs.Collision.{Member, Collision, Collides}
use Rattle.merkle_base.specs.Tree.{Tree, leaf, join}
use Rattle.merkle_root_theory.specs.Plan.{Plan, peak, folding, plan_expression, node_expression, tree_meets, meets, siblings, outside_parts, path_siblings, plan_digest, tree_digest, honest_digests}
use Rattle.merkle_root_theory.specs.Claim.{next, tree_claim, claim, claim_of, InTree}
use Rattle.merkle_claim_theory.specs.Exact.{forest_inputs, SamePeaks, HonestNeverCollides}
use Rattle.merkle_root_theory.proofs.Collisions.{member_left, member_right, main_visited, member_ordered, Collides_in}
use Rattle.merkle_base.proofs.Cases.{by_test}
use Rattle.merkle_root_theory.proofs.Claims.{split_left, split_right}
use Rattle.merkle_base.proofs.Lists.{cons_head, cons_tail}

module _ {D : Type 0} (h : Hashing D) (X Y : ℕ → D) where
  same_alike : (t : Tree) → (a : Alike (node_expression X t) (node_expression Y t)) × (Agree h a → (i : ℕ) → InTree t i → X i ≡ Y i)
  same_alike (leaf p j) = (cut_left _ _, λ g i e. subst (λ i. X i ≡ Y i) e g)
  same_alike (join p l r) = let u = same_alike l in let v = same_alike r in (both (Node p) u.0 v.0, λ g i. elim [ inl m ↦ u.1 g.0 i m | inr m ↦ v.1 g.1 i m ])

tree_holds : {D : Type 0} (h : Hashing D) (X : ℕ → D) (t : Tree) → Holds h (node_expression X t)
tree_holds h X (leaf p i) = tt
tree_holds h X (join p l r) = (tree_holds h X l, tree_holds h X r)

pub member_split : {X : Type 0} (xs ys : List X) (x : X) → Member (xs ++ ys) x → Member xs x ⊎ Member ys x
member_split [] ys x m = inr m
member_split (y ∷ xs) ys x (inl e) = inl (inl e)
member_split (y ∷ xs) ys x (inr m) = ⊎_elim (λ w. inl (inr w)) inr (member_split xs ys x m)

pub only_nodes : {D : Type 0} (h : Hashing D) (X : ℕ → D) (t : Tree) (i : Input D) → Member (visited h (node_expression X t)) i → is_node i.place ≡ true
only_nodes h X (leaf p j) i m = elim m [ ]
only_nodes h X (join p l r) i (inl e) = subst (λ (z : Input _). is_node z.place ≡ true) e refl
only_nodes h X (join p l r) i (inr m) = ⊎_elim (λ w. only_nodes h X l i w) (λ w. only_nodes h X r i w) (member_split (visited h (node_expression X l)) _ i m)

pub same_peaks : {D : Type 0} → SamePeaks D
unfolding Collides_in
same_peaks h laws X Y [] e = inl (λ t m. elim m [ ])
same_peaks {D = D} h laws X Y (t ∷ ts) e =
    ⊎_elim (λ g. ⊎_elim (λ w. inl (λ u m. here g w u m)) (λ c. inr (c.0, after c.1, c.2)) (same_peaks h laws X Y ts (cons_tail _ _ _ _ e)))
    (λ c. inr (c.0, before c.1, only_nodes h X t _ c.1.claimed))
    (main_visited h laws (same_alike h X Y t).0 (tree_holds h X t) (cons_head _ _ _ _ e))
  where
    here : Agree h (same_alike h X Y t).0 → ((u : Tree) → Member ts u → (i : ℕ) → InTree u i → X i ≡ Y i) → (u : Tree) → (t ≡ u) ⊎ Member ts u → (i : ℕ) → InTree u i → X i ≡ Y i
    here g w u (inl q) i n = (same_alike h X Y t).1 g i (subst (λ z. InTree z i) (sym q) n)
    here g w u (inr m) i n = w u m i n

    before : {c : Collision D} → Collides h (visited h (node_expression X t)) (visited h (node_expression Y t)) c → Collides h (forest_inputs h X (t ∷ ts)) (forest_inputs h Y (t ∷ ts)) c
    before c = record {
      claimed = member_left (visited h (node_expression X t)) _ _ c.claimed;
      listed = member_left (visited h (node_expression Y t)) _ _ c.listed;
      differ = c.differ;
      one_digest = c.one_digest;
    }

    after : {c : Collision D} → Collides h (forest_inputs h X ts) (forest_inputs h Y ts) c → Collides h (forest_inputs h X (t ∷ ts)) (forest_inputs h Y (t ∷ ts)) c
    after c = record {
      claimed = member_right (visited h (node_expression X t)) _ _ c.claimed;
      listed = member_right (visited h (node_expression Y t)) _ _ c.listed;
      differ = c.differ;
      one_digest = c.one_digest;
    }

-- Each input of one is one of the other, and their values are one
unfoldable pub IncludedIn : {D : Type 0} → Hashing D → Expression D → Expression D → Type 0
IncludedIn {D = D} h e f = (value h e ≡ value h f) × ((i : Input D) → Member (visited h e) i → Member (visited h f) i)

module _ {D : Type 0} (h : Hashing D) where
  pub given_within : (d : D) (f : Expression D) → d ≡ value h f → IncludedIn h (supplied d) f
  unfolding IncludedIn
  given_within d f e = (e, λ i m. elim m [ ])

  pub hashed_within : (place : Place) (l r l' r' : Expression D) → IncludedIn h l l' → IncludedIn h r r' → IncludedIn h (computed place l r) (computed place l' r')
  unfolding IncludedIn
  hashed_within place l r l' r' u v = (
    ap₂ (hashed_at h place) u.0 v.0,
    λ i. elim [
      | inl e ↦ inl (ap₂ (λ a b. record { place = place; argument = Pair a b }) (sym u.0) (sym v.0) ∙ e)
      | inr m ↦ inr (⊎_elim (λ w. member_left (visited h l') _ i (u.1 i w)) (λ w. member_right (visited h l') _ i (v.1 i w)) (member_split (visited h l) _ i m))
    ],
  )

  module _ (c : ℕ → Bool) (X Y : ℕ → D) (agrees : (i : ℕ) → c i ≡ true → Y i ≡ X i) where
    tree_within : (t : Tree) (ds rest : List D) → ds ≡ map (tree_digest h X) (siblings c t) ++ rest → IncludedIn h (tree_claim h c Y t ds) (node_expression X t)
    tree_within (leaf p j) ds rest =
        by_test (λ b. ds ≡ map (tree_digest h X) (cond b [] (leaf p j ∷ [])) ++ rest
        → IncludedIn h (cond b (supplied (Y j)) (supplied (next h ds))) (supplied (X j))) (c j)
        (λ q e. given_within _ _ (agrees j q)) (λ o e. given_within _ _ (ap (next h) e))
    tree_within (join p l r) ds rest = let u = tree_within l ds (map (tree_digest h X) (siblings c r) ++ rest) in let v = tree_within r (drop (length (siblings c l)) ds) rest in
        by_test (λ b. ds ≡ map (tree_digest h X) (cond b (siblings c l ++ siblings c r) (join p l r ∷ [])) ++ rest
        → IncludedIn h (cond b (computed (Node p) (tree_claim h c Y l ds) (tree_claim h c Y r (drop (length (siblings c l)) ds)))
        (supplied (next h ds))) (computed (Node p) (node_expression X l) (node_expression X r))) (tree_meets c l || tree_meets c r)
        (λ _ e. hashed_within (Node p) _ _ _ _ (u (split_left _ (siblings c l) (siblings c r) ds rest e)) (v (split_right _ (siblings c l) (siblings c r) ds rest e)))
        (λ _ e. given_within _ _ (ap (next h) e))

    plan_within : (p : Plan) (os is ro ri : List D) → os ≡ map (plan_digest h X) (outside_parts c p) ++ ro
        → is ≡ map (tree_digest h X) (path_siblings c p) ++ ri → IncludedIn h (claim h c Y p os is) (plan_expression X p)
    plan_within (peak t) os is ro ri = by_test (λ b. os ≡ map (plan_digest h X) (cond b [] (peak t ∷ [])) ++ ro → is ≡ map (tree_digest h X) (cond b (siblings c t) []) ++ ri
        → IncludedIn h (cond b (tree_claim h c Y t is) (supplied (next h os))) (node_expression X t)) (tree_meets c t)
        (λ _ e f. tree_within t is ri f) (λ _ e f. given_within _ _ (ap (next h) e))
    plan_within (folding place l r) os is ro ri =
        let u = plan_within l os is (map (plan_digest h X) (outside_parts c r) ++ ro) (map (tree_digest h X) (path_siblings c r) ++ ri) in
        let v = plan_within r (drop (length (outside_parts c l)) os) (drop (length (path_siblings c l)) is) ro ri in
        by_test (λ b. os ≡ map (plan_digest h X) (cond b (outside_parts c l ++ outside_parts c r) (folding place l r ∷ [])) ++ ro
        → is ≡ map (tree_digest h X) (cond b (path_siblings c l ++ path_siblings c r) []) ++ ri
        → IncludedIn h (cond b (computed place (claim h c Y l os is)
        (claim h c Y r (drop (length (outside_parts c l)) os) (drop (length (path_siblings c l)) is))) (supplied (next h os)))
        (computed place (plan_expression X l) (plan_expression X r))) (meets c l || meets c r)
        (λ _ e f. hashed_within place _ _ _ _
        (u (split_left _ (outside_parts c l) (outside_parts c r) os ro e) (split_left _ (path_siblings c l) (path_siblings c r) is ri f))
        (v (split_right _ (outside_parts c l) (outside_parts c r) os ro e) (split_right _ (path_siblings c l) (path_siblings c r) is ri f)))
        (λ _ e f. given_within _ _ (ap (next h) e))

-- what is in a filtered list is in the list
member_unfilter : {X : Type 0} (t : X → Bool) (xs : List X) (x : X) → Member (filter t xs) x → Member xs x
member_unfilter t [] x m = m
member_unfilter t (y ∷ xs) x m = at_test (t y) m (λ w. member_unfilter t xs x w)
  where
    at_test : (b : Bool) → Member (cond b (y ∷ filter t xs) (filter t xs)) x → (Member (filter t xs) x → Member xs x) → (y ≡ x) ⊎ Member xs x
    at_test true (inl e) f = inl e
    at_test true (inr m) f = inr (f m)
    at_test false m f = inr (f m)

pub member_unordered : {D : Type 0} (h : Hashing D) (e : Expression D) (i : Input D) → Member (inputs h e) i → Member (visited h e) i
member_unordered h e i m = ⊎_elim (λ w. member_unfilter _ (visited h e) i w) (λ w. member_unfilter _ (visited h e) i w)
    (member_split (filter (λ (i : Input _). not (is_node i.place)) (visited h e)) _ i m)

pub honest_never_collides : {D : Type 0} → HonestNeverCollides D
unfolding IncludedIn
honest_never_collides h c X Y p agrees one k w =
    let ds = honest_digests h X c p in
    let v = plan_within h c X Y agrees p ds (drop (length (outside_parts c p)) ds) (map (tree_digest h X) (path_siblings c p)) [] refl
    (drop_at (map (plan_digest h X) (outside_parts c p)) _ (length (outside_parts c p)) (length-map (outside_parts c p) (plan_digest h X)) ∙ sym (append-nil _)) in
    let e = one _ _ (member_ordered h (plan_expression X p) _ (v.1 _ (member_unordered h (claim_of h c Y p ds) (record { place = k.place; argument = k.claimed }) w.claimed))) w.listed refl in
    w.differ (ap (λ (i : Input _). i.argument) e)

-- an honest claim's inputs are the list's
pub honest_inputs : {D : Type 0} (h : Hashing D) (c : ℕ → Bool) (X Y : ℕ → D) (p : Plan) → ((i : ℕ) → c i ≡ true → Y i ≡ X i) → (i : Input D)
    → Member (inputs h (claim_of h c Y p (honest_digests h X c p))) i → Member (inputs h (plan_expression X p)) i
unfolding IncludedIn
honest_inputs h c X Y p agrees i m =
    let ds = honest_digests h X c p in
    let v = plan_within h c X Y agrees p ds (drop (length (outside_parts c p)) ds) (map (tree_digest h X) (path_siblings c p)) [] refl
    (drop_at (map (plan_digest h X) (outside_parts c p)) _ (length (outside_parts c p)) (length-map (outside_parts c p) (plan_digest h X)) ∙ sym (append-nil _)) in
    member_ordered h (plan_expression X p) i (v.1 i (member_unordered h (claim_of h c Y p ds) i m))
