-- A collision of two lists at a node, among the inputs of their forests.
use Rattle.std.proofs.Common.{◌≡◌, ℕ, List, [], ◌∷◌, length, reverse, Some, slice_get, refl, ap, ap₂, sym, ◌∙◌, inl, inr, subst, ⊎_elim}
use Rattle.std.proofs.lemmas.List.{reverse-append}
use Rattle.merkle_base.specs.Tree.{Tree, leaf, join, IsUnder, IsBuilt}
use Rattle.merkle_base.specs.Forest.{forest, IsUnderOne}
use Rattle.merkle_base.specs.Hashing.{Hashing}
use Rattle.merkle_base.specs.Digests.{digest_at}
use Rattle.merkle_base.specs.Places.{peaks_of}
use Rattle.merkle_base.proofs.Growth.{forest_grown}
use Rattle.merkle_base.proofs.PeakLists.{peaks_built}
use Rattle.merkle_root_theory.specs.Expression.{Node, Argument, Pair, Input, digest_of_argument, visited}
use Rattle.merkle_root_theory.specs.Collision.{Member}
use Rattle.merkle_root_theory.specs.Plan.{node_expression, tree_digest}
use Rattle.merkle_root_theory.specs.Range.{leaf_of}
use Rattle.merkle_root_theory.proofs.Collisions.{member_left, member_right}
use Rattle.merkle_root_theory.proofs.ListRoots.{digest_at_is}
use Rattle.merkle_claim_theory.specs.Exact.{forest_inputs}
use Rattle.merkle_audit_theory.specs.Located.{node_inputs, CollideIsLocated, LocatedIsCollide}
use Rattle.merkle_claim_theory.proofs.HonestClaims.{member_split}
use Rattle.merkle_claim_theory.proofs.Multiproofs.{all_member, flat_member, member_flat}

pub member_reverse : (ts : List Tree) (t : Tree) → Member ts t → Member (reverse ts) t
member_reverse [] t m = elim m [ ]
member_reverse (u ∷ ts) t (inl e) = subst (λ l. Member l t) (sym (reverse-append (u ∷ []) ts)) (member_right (reverse ts) (u ∷ []) t (inl e))
member_reverse (u ∷ ts) t (inr m) = subst (λ l. Member l t) (sym (reverse-append (u ∷ []) ts)) (member_left (reverse ts) (u ∷ []) t (member_reverse ts t m))

pub above : (a : Tree) (ts : List Tree) → IsUnderOne a ts → (t : Tree) × Member ts t × IsUnder a t
above a [] u = elim u [ ]
above a (t ∷ ts) (inl u) = (t, inl refl, u)
above a (t ∷ ts) (inr u) = (let w = above a ts u in (w.0, inr w.1, w.2))

module _ {D : Type 0} (h : Hashing D) (X : ℕ → D) where
  -- what is hashed at a merged node is hashed for each tree that the node stands under
  under_visited : (p : ℕ) (l r t : Tree) → IsUnder (join p l r) t → Member (visited h (node_expression X t)) (record { place = Node p; argument = Pair (tree_digest h X l) (tree_digest h X r) })
  under_visited p l r (leaf q i) u = absurd (cc)
  under_visited p l r (join q a b) (inl e) =
      subst (λ z. Member (visited h (node_expression X z)) (record { place = Node p; argument = Pair (tree_digest h X l) (tree_digest h X r) })) e (inl refl)
  under_visited p l r (join q a b) (inr (inl u)) = inr (member_left (visited h (node_expression X a)) _ _ (under_visited p l r a u))
  under_visited p l r (join q a b) (inr (inr u)) = inr (member_right (visited h (node_expression X a)) _ _ (under_visited p l r b u))

  -- and what is hashed at a position for a built tree is that of the node there
  visited_node : (ns : List Tree) (t : Tree) → IsBuilt ns t → (p : ℕ) (a : Argument D) → Member (visited h (node_expression X t)) (record { place = Node p; argument = a })
      → (l r : Tree) × (slice_get ns p ≡ Some (join p l r)) × (a ≡ Pair (tree_digest h X l) (tree_digest h X r))
  visited_node ns (leaf q i) b p a m = elim m [ ]
  visited_node ns (join q l r) b p a (inl e) =
      let here : Node q ≡ Node p = ap (λ (i : Input D). i.place) e in
      let one : q ≡ p = cc in
      (l, r, subst (λ z. slice_get ns z ≡ Some (join z l r)) one b.0, sym (ap (λ (i : Input D). i.argument) e))
  visited_node ns (join q l r) b p a (inr m) =
      ⊎_elim (λ v. visited_node ns l b.4 p a v) (λ v. visited_node ns r b.5 p a v) (member_split (visited h (node_expression X l)) _ _ m)

  forest_node : (rule : List ℕ → List ℕ) (n p : ℕ) (l r : Tree) → slice_get (forest rule n).nodes p ≡ Some (join p l r)
      → Member (forest_inputs h X (peaks_of rule n)) (record { place = Node p; argument = Pair (tree_digest h X l) (tree_digest h X r) })
  forest_node rule n p l r at =
      let w = above (join p l r) (forest rule n).peaks ((forest_grown rule n).under p (join p l r) at) in
      member_flat (λ t. visited h (node_expression X t)) (peaks_of rule n) w.0 _ (member_reverse (forest rule n).peaks w.0 w.1) (under_visited p l r w.0 w.2)

  node_forest : (rule : List ℕ → List ℕ) (n p : ℕ) (a : Argument D) → Member (forest_inputs h X (peaks_of rule n)) (record { place = Node p; argument = a })
      → (l r : Tree) × (slice_get (forest rule n).nodes p ≡ Some (join p l r)) × (a ≡ Pair (tree_digest h X l) (tree_digest h X r))
  node_forest rule n p a m =
      let w = flat_member (λ t. visited h (node_expression X t)) (peaks_of rule n) _ m in
      visited_node (forest rule n).nodes w.0 (all_member (IsBuilt (forest rule n).nodes) (peaks_of rule n) w.0 (peaks_built rule n) w.1) p a w.2

module _ {D : Type 0} (h : Hashing D) (xs : List D) where
  pair_is : (l r : Tree) → ◌≡◌ {A = Argument D} (Pair (tree_digest h (leaf_of h xs) l) (tree_digest h (leaf_of h xs) r)) (Pair (digest_at h xs l) (digest_at h xs r))
  pair_is l r = ap₂ (λ a b. Pair a b) (sym (digest_at_is h xs l)) (sym (digest_at_is h xs r))

  pub list_node : (rule : List ℕ → List ℕ) (n : ℕ) → n ≡ length xs → (p : ℕ) (l r : Tree) → slice_get (forest rule n).nodes p ≡ Some (join p l r)
      → Member (node_inputs h rule xs) (record { place = Node p; argument = Pair (digest_at h xs l) (digest_at h xs r) })
  list_node rule n long p l r at =
      subst (λ a. Member (node_inputs h rule xs) (record { place = Node p; argument = a })) (pair_is l r)
      (forest_node h (leaf_of h xs) rule (length xs) p l r (subst (λ m. slice_get (forest rule m).nodes p ≡ Some (join p l r)) long at))

two_parts : {D : Type 0} (a b c d : D) → ◌≡◌ {A = Argument D} (Pair a b) (Pair c d) → (a ≡ c) × (b ≡ d)
two_parts a b c d e = (cc, cc)

pub one_node : (p : ℕ) (l r l' r' : Tree) → Some (join p l r) ≡ Some (join p l' r') → (l ≡ l') × (r ≡ r')
one_node p l r l' r' e = (cc, cc)

pub collide_is_located : {D : Type 0} → CollideIsLocated D
collide_is_located h rule X Z long w = (
  record { place = Node w.0; claimed = Pair (digest_at h X w.1) (digest_at h X w.2); listed = Pair (digest_at h Z w.1) (digest_at h Z w.2) },
  record {
    claimed = list_node h X rule (length X) refl w.0 w.1 w.2 w.3;
    listed = list_node h Z rule (length X) long w.0 w.1 w.2 w.3;
    differ = λ e. w.5 (two_parts _ _ _ _ e);
    one_digest = w.4;
  },
  refl,
)

pub located_is_collide : {D : Type 0} → LocatedIsCollide D
located_is_collide {D = D} h rule X Z long c k p here =
    let x = node_forest h (leaf_of h X) rule (length X) p c.claimed (subst (λ q. Member (node_inputs h rule X) (record { place = q; argument = c.claimed })) here k.claimed) in
    let z = node_forest h (leaf_of h Z) rule (length Z) p c.listed (subst (λ q. Member (node_inputs h rule Z) (record { place = q; argument = c.listed })) here k.listed) in
    let same = one_node p x.0 x.1 z.0 z.1 (sym x.2 ∙ ap (λ m. slice_get (forest rule m).nodes p) long ∙ z.2) in
    let claimed : c.claimed ≡ Pair (digest_at h X x.0) (digest_at h X x.1) = x.3 ∙ pair_is h X x.0 x.1 in
    let listed : c.listed ≡ Pair (digest_at h Z x.0) (digest_at h Z x.1) = z.3 ∙ pair_is h Z z.0 z.1 ∙ ap₂ (λ l r. Pair (digest_at h Z l) (digest_at h Z r)) (sym same.0) (sym same.1) in (
      (
        p,
        x.0,
        x.1,
        x.2,
        sym (ap₂ (λ q a. digest_of_argument h q a) here claimed) ∙ k.one_digest ∙ ap₂ (λ q a. digest_of_argument h q a) here listed,
        λ e. k.differ (claimed ∙ ap₂ (λ a b. Pair a b) e.0 e.1 ∙ sym listed),
      ),
      refl,
    )
