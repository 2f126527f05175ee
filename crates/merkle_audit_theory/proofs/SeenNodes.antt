-- What stands at the nodes' places among the inputs of a list, of an accepted range input, and of scattered leaves.
use Rattle.std.proofs.Common.{◌≡◌, ℕ, Bool, true, false, cond, ◌&&◌, ◌||◌, nat_lt, nat_eq, ◌+◌, ◌≤◌, ◌<◌, List, [], ◌∷◌, ◌++◌, inl, inr, refl, ap, ap₂, sym}
use Rattle.std.proofs.Common.{◌∙◌, subst, arith, length, Option, Some, None, option_map, lt-ltb, ltb-true}
use Rattle.std.specs.List.{AllByRecursion, list_any}
use Rattle.std.proofs.lemmas.Bool.{and_from, and_parts, true≢false}
use Rattle.merkle_base.specs.Forest.{forest}
use Rattle.merkle_base.specs.Digests.{digest_at, peak_digests}
use Rattle.merkle_base.specs.Places.{peaks_of}
use Rattle.merkle_base.specs.Scheme.{Scheme}
use Rattle.merkle_base.specs.Tree.{Tree, leaf, join, position, first_leaf, end_leaf, IsBuilt}
use Rattle.merkle_base.proofs.PeakLists.{peaks_built}
use Rattle.merkle_root_theory.specs.Expression.{Place, Node, Pair, Input}
use Rattle.merkle_root_theory.specs.Collision.{Member}
use Rattle.merkle_root_theory.specs.Check.{RangeInput, range_inputs}
use Rattle.merkle_root_theory.specs.Extract.{extracted}
use Rattle.merkle_root_theory.specs.Plan.{tree_meets}
use Rattle.merkle_root_theory.specs.Range.{end_of, list_inputs}
use Rattle.merkle_root_theory.proofs.Collisions.{member_right}
use Rattle.merkle_claim_theory.specs.Multiproof.{MultiInput, locations_in}
use Rattle.merkle_claim_theory.specs.Order.{node_places, Distinct}
use Rattle.merkle_claim_theory.specs.Verdict.{multi_inputs}
use Rattle.merkle_claim_theory.proofs.PlacesOnce.{member_map}
use Rattle.merkle_claim_theory.proofs.FirstCollisions.{Decides-place}
use Rattle.merkle_audit_theory.specs.Cuts.{places_in}
use Rattle.merkle_audit_theory.specs.Folds.{top_inputs, multi_digest}
use Rattle.merkle_audit_theory.specs.Located.{node_inputs}
use Rattle.merkle_audit_theory.specs.Searches.{input_at}
use Rattle.merkle_audit_theory.specs.Seen.{children_of, met_children, chosen_children, node_at, NothingAt, Sees}
use Rattle.merkle_audit_theory.proofs.ClaimCuts.{claim_places}
use Rattle.merkle_audit_theory.proofs.Cursors.{is_false, at_none}
use Rattle.merkle_audit_theory.proofs.ExtractedNodes.{member_unmap, one_node, nodes_are_extracted}
use Rattle.merkle_audit_theory.proofs.LocatedNodes.{list_node}
use Rattle.merkle_audit_theory.proofs.PeakInputs.{inputs_by_peaks}
use Rattle.merkle_audit_theory.proofs.ScatteredNodes.{multi_nodes}

all_of : (P : Tree → Type 0) (ns : List Tree) (ts : List Tree) → ((t : Tree) → IsBuilt ns t → P t) → AllByRecursion (IsBuilt ns) ts → AllByRecursion P ts
all_of P ns [] f b = tt
all_of P ns (t ∷ ts) f b = (f t b.0, all_of P ns ts f b.1)

module _ {D : Type 0} where
  -- where no place stands twice, each input is found at its place
  pub at_member : (xs : List (Input D)) → Distinct (places_in xs) → (x : Input D) → Member xs x → input_at xs x.place ≡ Some x
  at_member [] d x m = elim m [ ]
  at_member (y ∷ ys) d x (inl e) = subst (λ z. input_at (y ∷ ys) z.place ≡ Some z) e (ap (λ b. cond b (Some y) (input_at ys y.place)) ((Decides-place y.place y.place).1 refl))
  at_member (y ∷ ys) d x (inr m) =
      let away = λ (q : y.place ≡ x.place). d.0 (subst (Member (places_in ys)) (sym q) (member_map (λ (i : Input D). i.place) ys x m)) in
      ap (λ b. cond b (Some y) (input_at ys x.place)) (is_false _ (λ q. away ((Decides-place y.place x.place).0 q))) ∙ at_member ys d.1 x m

  both : (f : Place → Option (Input D)) (ps qs : List Place) → NothingAt f ps → NothingAt f qs → NothingAt f (ps ++ qs)
  both f [] qs a b = b
  both f (p ∷ ps) qs a b = (a.0, both f ps qs a.1 b)

  is_none : (x : D × D) → ◌≡◌ {A = Option (D × D)} (Some x) None → ⊥
  is_none x e = cc

-- of a list, whose digests f has
module _ {D : Type 0} (s : Scheme D) (X : List D) (k : ℕ) (f : ℕ → D) (is : (t : Tree) → IsBuilt (forest s.rule (length X)).nodes t → f (position t) ≡ digest_at s.hashing X t) where
  list_once : Distinct (places_in (list_inputs s X k))
  list_once = subst Distinct (sym (claim_places.listed s X k)) (claim_places.once s (length X) k)

  list_below : (t : Tree) → IsBuilt (forest s.rule (length X)).nodes t → Sees (children_of f) (input_at (list_inputs s X k)) t
  list_below (leaf p i) b = tt
  list_below (join p l r) b =
      let m : Member (list_inputs s X k) (record { place = Node p; argument = Pair (digest_at s.hashing X l) (digest_at s.hashing X r) }) =
      subst (λ xs. Member xs (record { place = Node p; argument = Pair (digest_at s.hashing X l) (digest_at s.hashing X r) })) (sym (inputs_by_peaks.list s X k))
      (member_right (top_inputs s (length X) k (peak_digests s.hashing s.rule X)) (node_inputs s.hashing s.rule X) _ (list_node s.hashing X s.rule (length X) refl p l r b.0)) in (
        at_member (list_inputs s X k) list_once _ m ∙ ap₂ (λ c d. Some (record { place = Node p; argument = Pair c d })) (sym (is l b.4)) (sym (is r b.5)),
        λ e. absurd (is_none _ e),
        list_below l b.4,
        list_below r b.5,
      )

  pub list_sees : AllByRecursion (Sees (children_of f) (input_at (list_inputs s X k))) (peaks_of s.rule (length X))
  list_sees = all_of _ (forest s.rule (length X)).nodes (peaks_of s.rule (length X)) list_below (peaks_built s.rule (length X))

-- of a range input, whose extracted digests f has
module _ {D : Type 0} (s : Scheme D) (r : RangeInput D) (some : 0 < length r.elements) (within : end_of r ≤ r.leaves)
    (f : ℕ → D) (is : (p : ℕ) (d : D) → Member (extracted s r) (p, d) → f p ≡ d) where
  abbrev ns : List Tree
  ns = (forest s.rule r.leaves).nodes

  abbrev xs : List (Input D)
  xs = range_inputs s r

  here : (p : ℕ) (l u : Tree) → IsBuilt ns (join p l u) → (v : Bool) → (nat_lt (first_leaf l) (end_of r) && nat_lt r.start (end_leaf u)) ≡ v
      → input_at xs (Node p) ≡ option_map (node_at (join p l u)) (cond v (Some (f (position l), f (position u))) None)
  here p l u b true e =
      let both = and_parts (nat_lt (first_leaf l) (end_of r)) (nat_lt r.start (end_leaf u)) e in
      let m = (nodes_are_extracted.hashed s r some within p l u b.0).1 (ltb-true (first_leaf l) (end_of r) both.0, ltb-true r.start (end_leaf u) both.1) in
      let i = member_unmap xs (Node p) m in
      let w = nodes_are_extracted.children s r some within p i.0 i.1 in
      let same = one_node p w.0 w.1 l u (sym w.4 ∙ b.0) in
      at_member xs (claim_places.range_once s r) _ i.1
      ∙ ap (λ a. Some (record { place = Node p; argument = a })) w.5
      ∙ ap₂ (λ c d. Some (record { place = Node p; argument = Pair c d })) (sym (is _ _ w.6) ∙ ap (λ t. f (position t)) same.0) (sym (is _ _ w.7) ∙ ap (λ t. f (position t)) same.1)
  here p l u b false e =
      at_none (Node p) xs (λ m. let both = (nodes_are_extracted.hashed s r some within p l u b.0).0 m in
      absurd (not_both _ (and_from _ _ (lt-ltb (first_leaf l) (end_of r) both.0) (lt-ltb r.start (end_leaf u) both.1)) e))
    where
      not_both : (v : Bool) → v ≡ true → v ≡ false → ⊥
      not_both v t n = cc

  nothing : (t : Tree) → IsBuilt ns t → ((first_leaf t < end_of r) × (r.start < end_leaf t) → ⊥) → NothingAt (input_at xs) (node_places t)
  nothing (leaf p i) b free = tt
  nothing (join p l u) b free = (
    at_none (Node p) xs (λ m. let w = (nodes_are_extracted.hashed s r some within p l u b.0).0 m in free (w.0, omega (arith, w.1, b.3))),
    both (input_at xs) (node_places l) (node_places u)
        (nothing l b.4 (λ w. free (w.0, omega (arith, w.1))))
        (nothing u b.5 (λ w. free (omega (arith, w.0, b.3), omega (arith, w.1, b.3)))),
  )

  range_below : (t : Tree) → IsBuilt ns t → Sees (met_children r.start (end_of r) f) (input_at xs) t
  range_below (leaf p i) b = tt
  range_below (join p l u) b = (
    here p l u b (nat_lt (first_leaf l) (end_of r) && nat_lt r.start (end_leaf u)) refl,
    λ e. nothing (join p l u) b (λ w. is_none _ (sym (met _ _ (and_from _ _ (lt-ltb (first_leaf l) (end_of r) w.0) (lt-ltb r.start (end_leaf u) (omega (arith, w.1, b.3))))) ∙ e)),
    range_below l b.4,
    range_below u b.5,
  )
    where
      met : (v : Bool) (o : D × D) → v ≡ true → cond v (Some o) None ≡ Some o
      met v o e = ap (λ w. cond w (Some o) None) e

  pub range_sees : AllByRecursion (Sees (met_children r.start (end_of r) f) (input_at xs)) (peaks_of s.rule r.leaves)
  range_sees = all_of _ ns (peaks_of s.rule r.leaves) range_below (peaks_built s.rule r.leaves)

neither : (a b : Bool) → (a || b) ≡ false → (a ≡ false) × (b ≡ false)
neither true b e = absurd (true≢false e)
neither false b e = (refl, e)

-- of scattered leaves
module _ {D : Type 0} (s : Scheme D) (r : MultiInput D) where
  abbrev chosen : ℕ → Bool
  chosen = λ i. list_any (nat_eq i) (locations_in r)

  abbrev forest_nodes : List Tree
  forest_nodes = (forest s.rule r.leaves).nodes

  abbrev zs : List (Input D)
  zs = multi_inputs s r

  at_node : (p : ℕ) (l u : Tree) → IsBuilt forest_nodes (join p l u) → (v : Bool) → tree_meets chosen (join p l u) ≡ v
      → input_at zs (Node p) ≡ option_map (node_at (join p l u)) (cond v (Some (multi_digest s r l, multi_digest s r u)) None)
  at_node p l u b true e =
      let i = member_unmap zs (Node p) ((multi_nodes.hashed s r p l u b.0).1 e) in
      let w = multi_nodes.children s r p i.0 i.1 in
      let same = one_node p w.0 w.1 l u (sym w.2 ∙ b.0) in
      at_member zs (claim_places.multi_once s r) _ i.1
      ∙ ap (λ a. Some (record { place = Node p; argument = a })) w.3
      ∙ ap₂ (λ x y. Some (record { place = Node p; argument = Pair (multi_digest s r x) (multi_digest s r y) })) same.0 same.1
  at_node p l u b false e = at_none (Node p) zs (λ m. true≢false (sym ((multi_nodes.hashed s r p l u b.0).0 m) ∙ e))

  unchosen : (t : Tree) → IsBuilt forest_nodes t → tree_meets chosen t ≡ false → NothingAt (input_at zs) (node_places t)
  unchosen (leaf p i) b e = tt
  unchosen (join p l u) b e =
      let each = neither (tree_meets chosen l) (tree_meets chosen u) e in (
        at_none (Node p) zs (λ m. true≢false (sym ((multi_nodes.hashed s r p l u b.0).0 m) ∙ e)),
        both (input_at zs) (node_places l) (node_places u) (unchosen l b.4 each.0) (unchosen u b.5 each.1),
      )

  multi_below : (t : Tree) → IsBuilt forest_nodes t → Sees (chosen_children chosen (multi_digest s r)) (input_at zs) t
  multi_below (leaf p i) b = tt
  multi_below (join p l u) b = (
    at_node p l u b (tree_meets chosen (join p l u)) refl,
    λ e. unchosen (join p l u) b (unmet (tree_meets chosen (join p l u)) (multi_digest s r l, multi_digest s r u) e),
    multi_below l b.4,
    multi_below u b.5,
  )
    where
      unmet : (v : Bool) (x : D × D) → cond v (Some x) None ≡ None → v ≡ false
      unmet true x e = absurd (is_none x e)
      unmet false x e = refl

  pub multi_sees : AllByRecursion (Sees (chosen_children chosen (multi_digest s r)) (input_at zs)) (peaks_of s.rule r.leaves)
  multi_sees = all_of _ forest_nodes (peaks_of s.rule r.leaves) multi_below (peaks_built s.rule r.leaves)
