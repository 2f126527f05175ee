-- What stands at the nodes' places among the inputs of a check of a range with pins.
use Rattle.std.proofs.Common.{◌≡◌, ℕ, ◌+◌, ◌<◌, ◌≤◌, Bool, true, false, cond, nat_lt, List, [], ◌∷◌, ◌++◌, ◌⊎◌, inl, inr, refl, ap, ap₂, sym, ◌∙◌, subst}
use Rattle.std.proofs.Common.{⊎_elim, arith, length, map, flat_map, take, drop, Option, Some, None, MatchOption, append-nil, le-leb, lt-ltb, le-ltb, ltb-true}
use Rattle.std.proofs.lemmas.Bool.{lt-leb, and_from, and_parts, cases_Bool, cases_lt, false≢true}
use Rattle.std.proofs.lemmas.Grind.{flat_map-append}
use Rattle.std.proofs.lemmas.List.{map-append}
use Rattle.std.specs.List.{AllByRecursion}
use Rattle.merkle_base.specs.Forest.{forest}
use Rattle.merkle_base.specs.Hashing.{Hashing}
use Rattle.merkle_base.specs.Places.{peaks_of, wholly_before}
use Rattle.merkle_base.specs.Root.{folded, root_string}
use Rattle.merkle_base.specs.Scheme.{Scheme}
use Rattle.merkle_base.specs.Tree.{Tree, leaf, join, position, first_leaf, end_leaf, IsBuilt}
use Rattle.merkle_base.proofs.Nodes.{all_append, width_pos}
use Rattle.merkle_base.proofs.PeakLists.{peaks_built, peaks_spans}
use Rattle.merkle_root_theory.specs.Expression.{Place, Root, Node, Pair, Bytes, Input, supplied, computed, cross_checked, value, visited}
use Rattle.merkle_root_theory.specs.Check.{RangeInput, in_range, chosen, leaf_given}
use Rattle.merkle_root_theory.specs.Claim.{next, tree_claim}
use Rattle.merkle_root_theory.specs.Collision.{Member}
use Rattle.merkle_root_theory.specs.Extract.{inner_pairs, over_pairs, single_pairs, extracted}
use Rattle.merkle_root_theory.specs.Layouts.{count_before, count_after}
use Rattle.merkle_root_theory.specs.Outside.{fold_all, folded_prefix, single_before, single_after}
use Rattle.merkle_root_theory.specs.Plan.{tree_meets, siblings}
use Rattle.merkle_root_theory.specs.Range.{end_of, overlapping, wholly_after, range_parts}
use Rattle.merkle_root_theory.specs.Walk.{peak_values}
use Rattle.merkle_root_theory.proofs.Collisions.{member_left, member_right}
use Rattle.merkle_root_theory.proofs.Extraction.{all_filter}
use Rattle.merkle_root_theory.proofs.LayoutRoot.{layout_counts}
use Rattle.merkle_root_theory.proofs.PeakGroups.{groups, meets_not}
use Rattle.merkle_root_theory.proofs.Walks.{siblings_join}
use Rattle.merkle_claim_theory.specs.FirstCollision.{same_place}
use Rattle.merkle_claim_theory.specs.Order.{node_places, Distinct}
use Rattle.merkle_claim_theory.specs.Pinned.{AcceptsPinnedSome}
use Rattle.merkle_claim_theory.specs.PinnedClaim.{pinned_or, pin_tree, outside_tree, pinned_tree}
use Rattle.merkle_claim_theory.specs.Rebuilt.{AllRebuilt, rebuilt_node, pin_at}
use Rattle.merkle_claim_theory.specs.Verdict.{pinned_inputs}
use Rattle.merkle_claim_theory.proofs.FirstCollisions.{Decides-place}
use Rattle.merkle_claim_theory.proofs.HonestClaims.{member_split}
use Rattle.merkle_claim_theory.proofs.RebuiltPins.{rebuilt_split, pinned_is_rebuilt}
use Rattle.merkle_audit_theory.specs.Cuts.{places_in, full_places}
use Rattle.merkle_audit_theory.specs.Folds.{fold_inputs}
use Rattle.merkle_pins_theory.specs.PinnedFolds.{pinned_over_inputs}
use Rattle.merkle_pins_theory.specs.PinnedNodes.{pinned_value, unless_pinned, pinned_children, SeesDown, PinnedIsSeen}
use Rattle.merkle_audit_theory.specs.Searches.{input_at}
use Rattle.merkle_audit_theory.specs.Seen.{node_at, NothingAt}
use Rattle.merkle_audit_theory.proofs.ClaimCuts.{claim_places}
use Rattle.merkle_audit_theory.proofs.Cursors.{is_false, at_none}
use Rattle.merkle_audit_theory.proofs.NodeReads.{meets_is}
use Rattle.merkle_pins_theory.proofs.PinnedInputs.{all_before, all_after, old_met, new_unmet, tree_value, pinned_by_peaks}
use Rattle.merkle_pins_theory.proofs.PinnedTiers.{inside_pin, inside_pinned}
use Rattle.merkle_audit_theory.proofs.SublistFacts.{sub_distinct}
use Rattle.merkle_audit_theory.proofs.TieredInputs.{full_nodes, filtered, at_nodes, fold_tier}

-- ---- lists without repetition
module _ {A : Type 0} where
  distinct_parts : (xs ys : List A) → Distinct (xs ++ ys) → Distinct xs × Distinct ys
  distinct_parts [] ys d = (tt, d)
  distinct_parts (x ∷ xs) ys d = let w = distinct_parts xs ys d.1 in (((λ m. d.0 (member_left xs ys x m)), w.0), w.1)

  in_one : (xs ys : List A) → Distinct (xs ++ ys) → (x : A) → Member xs x → Member ys x → ⊥
  in_one [] ys d x m n = m
  in_one (z ∷ xs) ys d x (inl e) n = d.0 (member_right xs ys z (subst (Member ys) (sym e) n))
  in_one (z ∷ xs) ys d x (inr m) n = in_one xs ys d.1 x m n

-- ---- what stands at places, by parts
module _ {D : Type 0} where
  at_left : (xs ys : List (Input D)) (p : Place) → (Member (places_in ys) p → ⊥) → input_at (xs ++ ys) p ≡ input_at xs p
  at_left [] ys p n = at_none p ys n
  at_left (x ∷ xs) ys p n = ap (λ o. cond (same_place x.place p) (Some x) o) (at_left xs ys p n)

  at_right : (xs ys : List (Input D)) (p : Place) → (Member (places_in xs) p → ⊥) → input_at (xs ++ ys) p ≡ input_at ys p
  at_right [] ys p n = refl
  at_right (x ∷ xs) ys p n =
      ap (λ b. cond b (Some x) (input_at (xs ++ ys) p)) (is_false _ (λ q. n (inl ((Decides-place x.place p).0 q)))) ∙ at_right xs ys p (λ m. n (inr m))

  joined_places : (xs ys : List (Input D)) → places_in (xs ++ ys) ≡ places_in xs ++ places_in ys
  joined_places xs ys = map-append (λ (i : Input D). i.place) xs ys

module _ {D : Type 0} (f : Place → Option (Input D)) where
  -- at each of the places f has what the inputs have there
  unfoldable pub Shows : List Place → List (Input D) → Type 0
  Shows ps xs = (p : Place) → Member ps p → f p ≡ input_at xs p

  shows : (ps : List Place) (xs : List (Input D)) → ((p : Place) → Member ps p → f p ≡ input_at xs p) → Shows ps xs
  unfolding Shows
  shows ps xs w = w

  shows_left : (ps qs : List Place) (xs ys : List (Input D)) → Distinct (ps ++ qs) → ((p : Place) → Member (places_in ys) p → Member qs p) → Shows (ps ++ qs) (xs ++ ys) → Shows ps xs
  unfolding Shows
  shows_left ps qs xs ys d inside w = λ p m. w p (member_left ps qs p m) ∙ at_left xs ys p (λ n. in_one ps qs d p m (inside p n))

  shows_right : (ps qs : List Place) (xs ys : List (Input D)) → Distinct (ps ++ qs) → ((p : Place) → Member (places_in xs) p → Member ps p) → Shows (ps ++ qs) (xs ++ ys) → Shows qs ys
  unfolding Shows
  shows_right ps qs xs ys d inside w = λ p m. w p (member_right ps qs p m) ∙ at_right xs ys p (λ n. in_one ps qs d p (inside p n) m)

  shows_none : (ps : List Place) → Shows ps [] → NothingAt f ps
  unfolding Shows
  shows_none [] w = tt
  shows_none (p ∷ ps) w = (w p (inl refl), shows_none ps (λ q m. w q (inr m)))

  shows_head : (x : Input D) (qs : List Place) (xs : List (Input D)) → Shows (x.place ∷ qs) (x ∷ xs) → f x.place ≡ Some x
  unfolding Shows
  shows_head x qs xs w = w x.place (inl refl) ∙ ap (λ b. cond b (Some x) (input_at xs x.place)) ((Decides-place x.place x.place).1 refl)

  shows_tail : (x : Input D) (qs : List Place) (xs : List (Input D)) → Distinct (x.place ∷ qs) → Shows (x.place ∷ qs) (x ∷ xs) → Shows qs xs
  unfolding Shows
  shows_tail x qs xs d w = λ q m. w q (inr m)
      ∙ ap (λ b. cond b (Some x) (input_at xs q)) (is_false _ (λ t. d.0 (subst (Member qs) (sym ((Decides-place x.place q).0 t)) m)))

-- ---- down a tree
module _ {D : Type 0} (h : Hashing D) (b : ℕ → Option D) (start stop : ℕ) (less : start < stop) (g : ℕ → D) (f : Place → Option (Input D)) (ns : List Tree) where
  abbrev w : ℕ → Bool
  w = in_range 0 start

  abbrev c : ℕ → Bool
  c = in_range start stop

  abbrev has : Tree → Option (D × D)
  has t = pinned_children h b start stop g t

  abbrev rebuilt : Tree → D
  rebuilt t = rebuilt_node h b t

  abbrev Sees : Tree → Type 0
  Sees t = SeesDown (pinned_children h b start stop g) f t

  -- of a node's children, where a node has this
  abbrev At : (p : ℕ) (l r : Tree) → Option (D × D) → Type 0
  At p l r o = MatchOption o (NothingAt f (node_places (join p l r))) (λ x. (f (Node p) ≡ Some (node_at (join p l r) x)) × Sees l × Sees r)

  has_before : (p : ℕ) (l r : Tree) → end_leaf (join p l r) ≤ start → has (join p l r) ≡ unless_pinned (b p) (rebuilt l, rebuilt r)
  has_before p l r x = ap (λ z. cond z (unless_pinned (b p) (rebuilt l, rebuilt r)) (cond (nat_lt (first_leaf l) stop) (Some (pinned_value h b start g l, pinned_value h b start g r)) None))
      (le-leb (end_leaf (join p l r)) start x)

  has_other : (p : ℕ) (l r : Tree) (z : Bool) → start < end_leaf (join p l r) → nat_lt (first_leaf l) stop ≡ z
      → has (join p l r) ≡ cond z (Some (pinned_value h b start g l, pinned_value h b start g r)) None
  has_other p l r z x y =
      ap (λ v. cond v (unless_pinned (b p) (rebuilt l, rebuilt r)) (cond (nat_lt (first_leaf l) stop) (Some (pinned_value h b start g l, pinned_value h b start g r)) None))
      (lt-leb (end_leaf (join p l r)) start x)
      ∙ ap (λ v. cond v (Some (pinned_value h b start g l, pinned_value h b start g r)) None) y

  -- before the range
  pin_cases : (p : ℕ) (l r : Tree) (o : Option D) → Distinct (Node p ∷ (node_places l ++ node_places r))
      → Shows f (Node p ∷ (node_places l ++ node_places r)) (visited h (pinned_or o (computed (Node p) (pin_tree h b l) (pin_tree h b r))))
      → (Shows f (node_places l) (visited h (pin_tree h b l)) → Sees l) → (Shows f (node_places r) (visited h (pin_tree h b r)) → Sees r)
      → At p l r (unless_pinned o (rebuilt l, rebuilt r))
  pin_cases p l r (Some d) dis sh u v = shows_none f (node_places (join p l r)) sh
  pin_cases p l r None dis sh u v =
      let x : Input D = record { place = Node p; argument = Pair (rebuilt l) (rebuilt r) } in
      let xs = visited h (pin_tree h b l) in
      let ys = visited h (pin_tree h b r) in
      let both = shows_tail f x (node_places l ++ node_places r) (xs ++ ys) dis sh in (
        shows_head f x (node_places l ++ node_places r) (xs ++ ys) sh,
        u (shows_left f (node_places l) (node_places r) xs ys dis.1 (inside_pin h b r) both),
        v (shows_right f (node_places l) (node_places r) xs ys dis.1 (inside_pin h b l) both),
      )

  pin_sees : (t : Tree) → IsBuilt ns t → end_leaf t ≤ start → Distinct (node_places t) → Shows f (node_places t) (visited h (pin_tree h b t)) → Sees t
  pin_sees (leaf p i) built x dis sh = tt
  pin_sees (join p l r) built x dis sh =
      let parts = distinct_parts (node_places l) (node_places r) dis.1 in
      subst (At p l r) (sym (has_before p l r x))
      (pin_cases p l r (b p) dis sh (pin_sees l built.4 (omega (arith, x, built.3)) parts.0) (pin_sees r built.5 (omega (arith, x, built.3)) parts.1))

  -- after it
  none_sees : (t : Tree) → start < end_leaf t → stop ≤ first_leaf t → Shows f (node_places t) [] → Sees t
  none_sees (leaf p i) x y sh = tt
  none_sees (join p l r) x y sh = subst (At p l r) (sym (has_other p l r false x (le-ltb (first_leaf l) stop y))) (shows_none f (node_places (join p l r)) sh)

  -- a node that doesn't overlap it
  outside_sees : (t : Tree) (d : D) → IsBuilt ns t → tree_meets c t ≡ false → Distinct (node_places t) → Shows f (node_places t) (visited h (outside_tree h b w t d)) → Sees t
  outside_sees t d built e dis sh = ⊎_elim after before (cases_lt start (end_leaf t))
    where
      before : end_leaf t ≤ start → Sees t
      before x = pin_sees t built x dis (subst (λ z. Shows f (node_places t) (visited h (cond z (cross_checked d (pin_tree h b t)) (supplied d)))) (old_met start ns t built x) sh)

      after : start < end_leaf t → Sees t
      after x = ⊎_elim
          (λ y. absurd (false≢true (sym e ∙ meets_is start stop less ns t built ∙ and_from _ _ (lt-ltb (first_leaf t) stop y) (lt-ltb start (end_leaf t) x))))
          (λ y. none_sees t x y (subst (λ z. Shows f (node_places t) (visited h (cond z (cross_checked d (pin_tree h b t)) (supplied d)))) (new_unmet start ns t built (omega (arith, y, less))) sh))
          (cases_lt (first_leaf t) stop)

  module _ (X : ℕ → D) where
    -- the digest of a child
    outside_value : (t : Tree) (ds : List D) → tree_meets c t ≡ false → value h (pinned_tree h b w c X t ds) ≡ value h (outside_tree h b w t (next h ds))
    outside_value (leaf p i) ds e = ap (λ z. value h (cond z (supplied (X i)) (outside_tree h b w (leaf p i) (next h ds)))) e
    outside_value (join p l r) ds e =
        ap (λ z. value h (cond z (computed (Node p) (pinned_tree h b w c X l ds) (pinned_tree h b w c X r (drop (length (siblings c l)) ds))) (outside_tree h b w (join p l r) (next h ds)))) e

    child_value : (t : Tree) (ds : List D) → IsBuilt ns t → AllRebuilt h (tree_meets w) (rebuilt_node h b) (siblings c t) ds → g (position t) ≡ value h (tree_claim h c X t ds)
        → value h (pinned_tree h b w c X t ds) ≡ pinned_value h b start g t
    child_value t ds built again told = ⊎_elim
        (λ x. tree_value h b w c X t ds again ∙ sym told ∙ sym (ap (λ z. cond z (rebuilt t) (g (position t))) (lt-leb (end_leaf t) start x)))
        (λ x. outside_value t ds (meets_not start stop ns t built (inl x))
        ∙ ap (λ z. value h (cond z (cross_checked (next h ds) (pin_tree h b t)) (supplied (next h ds)))) (old_met start ns t built x)
        ∙ sym (ap (λ z. cond z (rebuilt t) (g (position t))) (le-leb (end_leaf t) start x)))
        (cases_lt start (end_leaf t))

    by_meets : (p : ℕ) (l r : Tree) (ds : List D) → IsBuilt ns (join p l r) → Distinct (Node p ∷ (node_places l ++ node_places r))
        → Shows f (node_places (join p l r)) (visited h (pinned_tree h b w c X (join p l r) ds))
        → AllRebuilt h (tree_meets w) (rebuilt_node h b) (siblings c (join p l r)) ds
        → ((q : ℕ) (d : D) → Member (inner_pairs h c X (join p l r) ds) (q, d) → g q ≡ d)
        → (Shows f (node_places l) (visited h (pinned_tree h b w c X l ds)) → AllRebuilt h (tree_meets w) (rebuilt_node h b) (siblings c l) ds
        → ((q : ℕ) (d : D) → Member (inner_pairs h c X l ds) (q, d) → g q ≡ d) → Sees l)
        → (Shows f (node_places r) (visited h (pinned_tree h b w c X r (drop (length (siblings c l)) ds)))
        → AllRebuilt h (tree_meets w) (rebuilt_node h b) (siblings c r) (drop (length (siblings c l)) ds)
        → ((q : ℕ) (d : D) → Member (inner_pairs h c X r (drop (length (siblings c l)) ds)) (q, d) → g q ≡ d) → Sees r)
        → (tree_meets c (join p l r) ≡ true) ⊎ (tree_meets c (join p l r) ≡ false) → Sees (join p l r)
    by_meets p l r ds built dis sh again told left right (inr e) =
        outside_sees (join p l r) (next h ds) built e dis
        (subst (λ z. Shows f (node_places (join p l r))
        (visited h (cond z (computed (Node p) (pinned_tree h b w c X l ds) (pinned_tree h b w c X r (drop (length (siblings c l)) ds)))
        (outside_tree h b w (join p l r) (next h ds))))) e sh)
    by_meets p l r ds built dis sh again told left right (inl e) =
        let es = drop (length (siblings c l)) ds in
        let L = pinned_tree h b w c X l ds in
        let R = pinned_tree h b w c X r es in
        let xs = visited h L in
        let ys = visited h R in
        let x : Input D = record { place = Node p; argument = Pair (value h L) (value h R) } in
        let here : Shows f (node_places (join p l r)) (x ∷ (xs ++ ys)) =
        subst (λ z. Shows f (node_places (join p l r)) (visited h (cond z (computed (Node p) L R) (outside_tree h b w (join p l r) (next h ds))))) e sh in
        let below = shows_tail f x (node_places l ++ node_places r) (xs ++ ys) dis here in
        let ls = inner_pairs h c X l ds in
        let rs = inner_pairs h c X r es in
        let ends : List (ℕ × D) = (position l, value h (tree_claim h c X l ds)) ∷ (position r, value h (tree_claim h c X r es)) ∷ [] in
        let known : (q : ℕ) (d : D) → Member (ls ++ (rs ++ ends)) (q, d) → g q ≡ d = subst (λ z. (q : ℕ) (d : D) → Member (cond z (ls ++ (rs ++ ends)) []) (q, d) → g q ≡ d) e told in
        let v = rebuilt_split h (tree_meets w) (rebuilt_node h b) (siblings c l) (siblings c r) ds
        (subst (λ us. AllRebuilt h (tree_meets w) (rebuilt_node h b) us ds) (siblings_join c p l r e) again) in
        let one = child_value l ds built.4 v.0 (known (position l) (value h (tree_claim h c X l ds)) (member_right ls (rs ++ ends) _ (member_right rs ends _ (inl refl)))) in
        let two = child_value r es built.5 v.1 (known (position r) (value h (tree_claim h c X r es)) (member_right ls (rs ++ ends) _ (member_right rs ends _ (inr (inl refl))))) in
        let y = and_parts (nat_lt (first_leaf l) stop) (nat_lt start (end_leaf (join p l r))) (sym (meets_is start stop less ns (join p l r) built) ∙ e) in
        subst (At p l r) (sym (has_other p l r true (ltb-true start (end_leaf (join p l r)) y.1) y.0)) (
          shows_head f x (node_places l ++ node_places r) (xs ++ ys) here ∙ ap₂ (λ u z. Some (node_at (join p l r) (u, z))) one two,
          left (shows_left f (node_places l) (node_places r) xs ys dis.1 (inside_pinned h b w c X r es) below) v.0 (λ q d m. known q d (member_left ls (rs ++ ends) _ m)),
          right (shows_right f (node_places l) (node_places r) xs ys dis.1 (inside_pinned h b w c X l ds) below) v.1 (λ q d m. known q d (member_right ls (rs ++ ends) _ (member_left rs ends _ m))),
        )

    pub tree_sees : (t : Tree) (ds : List D) → IsBuilt ns t → Distinct (node_places t) → Shows f (node_places t) (visited h (pinned_tree h b w c X t ds))
        → AllRebuilt h (tree_meets w) (rebuilt_node h b) (siblings c t) ds → ((p : ℕ) (d : D) → Member (inner_pairs h c X t ds) (p, d) → g p ≡ d) → Sees t
    tree_sees (leaf p i) ds built dis sh again told = tt
    tree_sees (join p l r) ds built dis sh again told =
        let es = drop (length (siblings c l)) ds in
        let parts = distinct_parts (node_places l) (node_places r) dis.1 in
        by_meets p l r ds built dis sh again told (λ y. tree_sees l ds built.4 parts.0 y) (λ y. tree_sees r es built.5 parts.1 y) (cases_Bool (tree_meets c (join p l r)))

    -- ---- along peaks
    pins_inside : (ts : List Tree) (p : Place) → Member (places_in (flat_map (λ t. visited h (pin_tree h b t)) ts)) p → Member (flat_map node_places ts) p
    pins_inside [] p m = elim m [ ]
    pins_inside (t ∷ ts) p m =
        let xs = visited h (pin_tree h b t) in
        let ys = flat_map (λ t. visited h (pin_tree h b t)) ts in
        ⊎_elim (λ n. member_left (node_places t) (flat_map node_places ts) p (inside_pin h b t p n)) (λ n. member_right (node_places t) (flat_map node_places ts) p (pins_inside ts p n))
        (member_split (places_in xs) (places_in ys) p (subst (λ z. Member z p) (joined_places xs ys) m))

    over_inside : (ts : List Tree) (ds : List D) (p : Place) → Member (places_in (pinned_over_inputs h b w c X ts ds)) p → Member (flat_map node_places ts) p
    over_inside [] ds p m = elim m [ ]
    over_inside (t ∷ ts) ds p m =
        let xs = visited h (pinned_tree h b w c X t ds) in
        let ys = pinned_over_inputs h b w c X ts (drop (length (siblings c t)) ds) in
        ⊎_elim (λ n. member_left (node_places t) (flat_map node_places ts) p (inside_pinned h b w c X t ds p n))
        (λ n. member_right (node_places t) (flat_map node_places ts) p (over_inside ts (drop (length (siblings c t)) ds) p n))
        (member_split (places_in xs) (places_in ys) p (subst (λ z. Member z p) (joined_places xs ys) m))

    before_see : (ts : List Tree) → AllByRecursion (IsBuilt ns) ts → AllByRecursion (λ t. end_leaf t ≤ start) ts → Distinct (flat_map node_places ts)
        → Shows f (flat_map node_places ts) (flat_map (λ t. visited h (pin_tree h b t)) ts) → AllByRecursion Sees ts
    before_see [] built x dis sh = tt
    before_see (t ∷ ts) built x dis sh =
        let parts = distinct_parts (node_places t) (flat_map node_places ts) dis in
        let xs = visited h (pin_tree h b t) in
        let ys = flat_map (λ t. visited h (pin_tree h b t)) ts in (
          pin_sees t built.0 x.0 parts.0 (shows_left f (node_places t) (flat_map node_places ts) xs ys dis (pins_inside ts) sh),
          before_see ts built.1 x.1 parts.1 (shows_right f (node_places t) (flat_map node_places ts) xs ys dis (inside_pin h b t) sh),
        )

    over_see : (ts : List Tree) (ds : List D) → AllByRecursion (IsBuilt ns) ts → Distinct (flat_map node_places ts)
        → Shows f (flat_map node_places ts) (pinned_over_inputs h b w c X ts ds) → AllRebuilt h (tree_meets w) (rebuilt_node h b) (flat_map (siblings c) ts) ds
        → ((p : ℕ) (d : D) → Member (over_pairs h c X ts ds) (p, d) → g p ≡ d) → AllByRecursion Sees ts
    over_see [] ds built dis sh again told = tt
    over_see (t ∷ ts) ds built dis sh again told =
        let es = drop (length (siblings c t)) ds in
        let parts = distinct_parts (node_places t) (flat_map node_places ts) dis in
        let xs = visited h (pinned_tree h b w c X t ds) in
        let ys = pinned_over_inputs h b w c X ts es in
        let v = rebuilt_split h (tree_meets w) (rebuilt_node h b) (siblings c t) (flat_map (siblings c) ts) ds again in
        let ps = inner_pairs h c X t ds in
        let q : ℕ × D = (position t, value h (tree_claim h c X t ds)) in (
          tree_sees t ds built.0 parts.0 (shows_left f (node_places t) (flat_map node_places ts) xs ys dis (over_inside ts es) sh) v.0
              (λ p d m. told p d (member_left ps (q ∷ over_pairs h c X ts es) _ m)),
          over_see ts es built.1 parts.1 (shows_right f (node_places t) (flat_map node_places ts) xs ys dis (inside_pinned h b w c X t ds) sh) v.1
              (λ p d m. told p d (member_right ps (q ∷ over_pairs h c X ts es) _ (inr m))),
        )

    after_see : (ts : List Tree) → AllByRecursion (λ t. stop ≤ first_leaf t) ts → Distinct (flat_map node_places ts) → Shows f (flat_map node_places ts) [] → AllByRecursion Sees ts
    after_see [] x dis sh = tt
    after_see (t ∷ ts) x dis sh =
        let parts = distinct_parts (node_places t) (flat_map node_places ts) dis in (
          none_sees t (omega (arith, x.0, less, width_pos t)) x.0 (shows_left f (node_places t) (flat_map node_places ts) [] [] dis (λ p m. absurd m) sh),
          after_see ts x.1 parts.1 (shows_right f (node_places t) (flat_map node_places ts) [] [] dis (λ p m. absurd m) sh),
        )

    -- the peaks before the range, those that overlap it, and those after it
    pub all_see : (before over after : List Tree) (rest : List D) → AllByRecursion (IsBuilt ns) before → AllByRecursion (λ t. end_leaf t ≤ start) before
        → AllByRecursion (IsBuilt ns) over → AllByRecursion (λ t. stop ≤ first_leaf t) after → Distinct (flat_map node_places (before ++ (over ++ after)))
        → Shows f (flat_map node_places (before ++ (over ++ after))) (flat_map (λ t. visited h (pin_tree h b t)) before ++ pinned_over_inputs h b w c X over rest)
        → AllRebuilt h (tree_meets w) (rebuilt_node h b) (flat_map (siblings c) over) rest
        → ((p : ℕ) (d : D) → Member (over_pairs h c X over rest) (p, d) → g p ≡ d) → AllByRecursion (SeesDown (pinned_children h b start stop g) f) (before ++ (over ++ after))
    all_see before over after rest b1 x1 b2 x3 dis sh again told =
        let B = flat_map node_places before in
        let O = flat_map node_places over in
        let A = flat_map node_places after in
        let xs = flat_map (λ t. visited h (pin_tree h b t)) before in
        let ys = pinned_over_inputs h b w c X over rest in
        let places : flat_map node_places (before ++ (over ++ after)) ≡ B ++ (O ++ A) =
        flat_map-append node_places before (over ++ after) ∙ ap (λ z. B ++ z) (flat_map-append node_places over after) in
        let dis' = subst Distinct places dis in
        let sh' : Shows f (B ++ (O ++ A)) (xs ++ (ys ++ [])) = subst (λ z. Shows f (B ++ (O ++ A)) (xs ++ z)) (sym (append-nil ys)) (subst (λ ps. Shows f ps (xs ++ ys)) places sh) in
        let parts = distinct_parts B (O ++ A) dis' in
        let parts' = distinct_parts O A parts.1 in
        let inside : (p : Place) → Member (places_in (ys ++ [])) p → Member (O ++ A) p = λ p m. member_left O A p (over_inside over rest p (subst (λ z. Member (places_in z) p) (append-nil ys) m)) in
        let later = shows_right f B (O ++ A) xs (ys ++ []) dis' (pins_inside before) sh' in
        all_append Sees before (over ++ after)
        (before_see before b1 x1 parts.0 (shows_left f B (O ++ A) xs (ys ++ []) dis' inside sh'))
        (all_append Sees over after
        (over_see over rest b2 parts'.0 (shows_left f O A ys [] parts.1 (λ p m. absurd m) later) again told)
        (after_see after x3 parts'.1 (shows_right f O A ys [] parts.1 (over_inside over rest) later)))

-- ---- an accepted input
module _ {D : Type 0} (s : Scheme D) (r : RangeInput D) (pins : List D) (root : D) (ok : AcceptsPinnedSome s r pins root)
    (f : ℕ → D) (is : (p : ℕ) (d : D) → Member (extracted s r) (p, d) → f p ≡ d) where
  abbrev ts : List Tree
  ts = peaks_of s.rule r.leaves

  abbrev before : List Tree
  before = wholly_before r.start ts

  abbrev over : List Tree
  over = overlapping r.start (end_of r) ts

  abbrev after : List Tree
  after = wholly_after (end_of r) ts

  abbrev i : ℕ
  i = count_before s.bagging r.inactive before

  abbrev j : ℕ
  j = count_after s.bagging r.inactive (length before + length over) after

  abbrev bb : ℕ → Option D
  bb = pin_at s r.start pins

  abbrev rest : List D
  rest = drop (i + j) r.digests

  abbrev nodes : List (Input D)
  nodes = flat_map (λ t. visited s.hashing (pin_tree s.hashing bb t)) before ++ pinned_over_inputs s.hashing bb (in_range 0 r.start) (chosen r) (leaf_given s.hashing r) over rest

  range_less : r.start < end_of r
  range_less = omega (arith, ok.nonempty)

  split : ts ≡ before ++ (over ++ after)
  split = groups r.start (end_of r) 0 r.leaves ts range_less (peaks_spans s.rule r.leaves)

  rest_is : drop (length (range_parts s.bagging r.inactive r.start (end_of r) ts)) r.digests ≡ rest
  rest_is = ap (λ m. drop m r.digests) (layout_counts s r)

  -- no place stands twice under the peaks
  once : Distinct (flat_map node_places ts)
  once = subst Distinct (full_nodes s r.leaves r.inactive) (sub_distinct (filtered (full_places s r.leaves r.inactive)) (claim_places.once s r.leaves r.inactive))

  node_in : (us : List Tree) (p : Place) → Member (flat_map node_places us) p → (q : ℕ) × (p ≡ Node q)
  node_in [] p m = elim m [ ]
  node_in (u ∷ us) p m = ⊎_elim (λ w. tree_in u p w) (λ w. node_in us p w) (member_split (node_places u) (flat_map node_places us) p m)
    where
      tree_in : (t : Tree) (p : Place) → Member (node_places t) p → (q : ℕ) × (p ≡ Node q)
      tree_in (leaf q n) p m = elim m [ ]
      tree_in (join q l u) p (inl e) = (q, sym e)
      tree_in (join q l u) p (inr m) = ⊎_elim (λ w. tree_in l p w) (λ w. tree_in u p w) (member_split (node_places l) (node_places u) p m)

  shown : Shows (input_at (pinned_inputs s r pins)) (flat_map node_places ts) nodes
  shown = shows (input_at (pinned_inputs s r pins)) (flat_map node_places ts) nodes (λ p m.
      let w = node_in ts p m in
      let all = map (rebuilt_node s.hashing bb) before ++ (peak_values s.hashing (chosen r) (leaf_given s.hashing r) over rest ++ take j (drop i r.digests)) in
      let head : Input D = record { place = Root; argument = Bytes (root_string s.hashing s.domain s.bagging r.leaves r.inactive (folded s.hashing.fold s.bagging r.inactive all)) } in
      subst (λ z. input_at (pinned_inputs s r pins) z ≡ input_at nodes z) (sym w.1)
      (ap (λ xs. input_at xs (Node w.0)) (pinned_by_peaks s r pins root ok)
      ∙ sym (at_nodes head (fold_inputs s.hashing s.bagging r.inactive all) nodes refl (fold_tier s.hashing s.bagging r.inactive all) w.0)))

  pub pinned_sees : AllByRecursion (SeesDown (pinned_children s.hashing (pin_at s r.start pins) r.start (end_of r) f) (input_at (pinned_inputs s r pins))) (peaks_of s.rule r.leaves)
  pinned_sees =
      let h = s.hashing in
      let ns = (forest s.rule r.leaves).nodes in
      let built = peaks_built s.rule r.leaves in
      let both = (pinned_is_rebuilt s r pins root).0 ok in
      let single = single_before s.bagging r.inactive before in
      let folded = length (fold_all (folded_prefix s.bagging r.inactive before)) in
      let has = pinned_children h bb r.start (end_of r) f in
      let told : (p : ℕ) (d : D) → Member (over_pairs h (chosen r) (leaf_given h r) over rest) (p, d) → f p ≡ d = λ p d m.
      is p d (member_right (single_pairs h single (drop folded r.digests)) _ (p, d)
      (member_left _ (single_pairs h (single_after s.bagging r.inactive (length before + length over) after) (drop (length single) (drop folded r.digests))) (p, d)
      (subst (λ ds. Member (over_pairs h (chosen r) (leaf_given h r) over ds) (p, d)) (sym rest_is) m))) in
      subst (AllByRecursion (SeesDown has (input_at (pinned_inputs s r pins)))) (sym split)
      (all_see h bb r.start (end_of r) range_less f (input_at (pinned_inputs s r pins)) ns (leaf_given h r) before over after rest
      (all_filter (IsBuilt ns) _ ts built) (all_before r.start ts) (all_filter (IsBuilt ns) _ ts built) (all_after (end_of r) ts)
      (subst (λ us. Distinct (flat_map node_places us)) split once) (subst (λ us. Shows (input_at (pinned_inputs s r pins)) (flat_map node_places us) nodes) split shown)
      (subst (AllRebuilt h (tree_meets (in_range 0 r.start)) (rebuilt_node h bb) (flat_map (siblings (chosen r)) over)) rest_is both.1.nodes) told)

pub pinned_is_seen : {D : Type 0} → PinnedIsSeen D
pinned_is_seen s r pins root ok f is = pinned_sees s r pins root ok f is
