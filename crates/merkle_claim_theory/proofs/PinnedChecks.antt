-- The pinned check: the honest inputs are accepted, and no others, but for collisions.
use Rattle.std.proofs.Common.{◌≡◌, ℕ, zero, suc, Bool, true, false, cond, ◌||◌, nat_le, leb-true, ◌+◌, ◌-◌, ◌≤◌, ◌<◌, List, [], ◌∷◌, ◌++◌, ◌⊎◌, inl, inr, refl}
use Rattle.std.proofs.Common.{ap, ap₂, sym, ◌∙◌, subst, ⊎_elim, arith, length, map, flat_map, take, drop, reverse, Option, Some, None, option_map, IfSome}
use Rattle.std.proofs.Common.{MatchOption, slice_get}
use Rattle.std.specs.List.{AllByRecursion}
use Rattle.std.proofs.lemmas.Bool.{ne_eqb, cases_Bool, cases_lt, false≢true}
use Rattle.std.proofs.Math.Seq.{take-nil}
use Rattle.std.proofs.lemmas.List.{length-map, length-take-le, get_or-take, reverse-append}
use Rattle.merkle_base.specs.Tree.{Tree, leaf, join, position, first_leaf, width, IsUnder, IsBuilt, end_leaf}
use Rattle.merkle_base.specs.Digests.{peak_digests}
use Rattle.merkle_base.specs.Forest.{forest, size}
use Rattle.merkle_base.proofs.Growth.{forest_grown, built_at, IsBuilt-front}
use Rattle.merkle_base.proofs.Nodes.{forest_prefix, first_under, end_under, width_pos, peak_of}
use Rattle.merkle_base.proofs.Paths.{position_under}
use Rattle.merkle_root_theory.specs.Expression.{PrefixFold, Holds, value}
use Rattle.merkle_base.specs.Hashing.{Hashing}
use Rattle.merkle_root_theory.specs.Collision.{Member}
use Rattle.merkle_root_theory.specs.Plan.{Plan, peak, folding, left_fold_plan, root_plan, tree_meets, meets, siblings, outside_parts, path_siblings, tree_digest, plan_digest, honest_digests}
use Rattle.merkle_base.specs.declared.family.Bagging.{Bagging}
use Rattle.merkle_base.specs.declared.family.Bagging.TheVariants.{ForwardFold, BackwardFold}
use Rattle.merkle_root_theory.specs.Claim.{InTree, InPlan}
use Rattle.merkle_claim_theory.specs.Order.{Distinct}
use Rattle.merkle_claim_theory.specs.MultiClaim.{or_empty}
use Rattle.merkle_claim_theory.specs.PinnedClaim.{pinned_of, PinsTree, PinsPlan, PinsAll, PinsTrees}
use Rattle.merkle_root_theory.specs.Outside.{fold_all, bag_all, layout, Unmet, HasLayout}
use Rattle.merkle_root_theory.specs.Check.{in_range, root_of, list_expression, RangeInput, chosen, leaf_given}
use Rattle.merkle_base.specs.Scheme.{Scheme}
use Rattle.merkle_base.specs.Places.{peaks_of, wholly_before}
use Rattle.merkle_root_theory.specs.Range.{end_of, overlapping, wholly_after, range_parts, range_siblings, leaf_of, plan_root, IsLawfulScheme, IsHonestNonempty}
use Rattle.merkle_base.specs.Table.{digest_for}
use Rattle.merkle_claim_theory.specs.Pinned.{pin_positions, pinned_on, AcceptsPinnedSome, honest_pins, PinnedCollides, HonestPinnedIsAccepted, AcceptedPinnedIsHonest, PinsAreOldPeaks}
use Rattle.merkle_claim_theory.proofs.HonestClaims.{member_split}
use Rattle.merkle_base.proofs.Cases.{by_test}
use Rattle.merkle_root_theory.proofs.PeakGroups.{meets_not, meets_yes, range_layout, groups}
use Rattle.merkle_base.proofs.PeakLists.{Spans, spans_end, peaks_built, peaks_spans}
use Rattle.merkle_root_theory.proofs.OutsideNodes.{right_fold_unmet, unmet_take, unmet_drop}
use Rattle.merkle_root_theory.proofs.Extraction.{all_filter, all_take, all_drop}
use Rattle.merkle_root_theory.proofs.RangeChecks.{covers, tree_in, small_leaves, small_inactive, honest_leaves, honest_some, elements_are, empty_root}
use Rattle.merkle_root_theory.proofs.ListChecks.{is_chosen}
use Rattle.merkle_root_theory.proofs.ListRoots.{digests_are}
use Rattle.merkle_root_theory.proofs.HonestInputs.{range_of_some, range_of_cases, cases_of_range}
use Rattle.merkle_root_theory.proofs.RangeDigests.{range_digests_are, digest_count_is}
use Rattle.merkle_claim_theory.specs.Multiproof.{AllHolds}
use Rattle.merkle_claim_theory.proofs.ListedDigests.{filtered_member, EachPeak, each_left_fold, left_fold_each, all_cut, listed, listed_is, listed_some}
use Rattle.merkle_claim_theory.proofs.ListedDigests.{each_of, plan_for, roots, below_root, roots_same, no_other_list}
use Rattle.merkle_claim_theory.proofs.Multiproofs.{all_member, member_all, told_some, if_some}
use Rattle.merkle_claim_theory.proofs.ToldDigests.{pins_trees_append, pins_all_append, no_other_pins}
use Rattle.merkle_claim_theory.proofs.HonestTold.{trees_left, plans_left, honest_pins_accepted}
use Rattle.merkle_root_theory.proofs.Walks.{siblings_unmet, siblings_join}
use Rattle.merkle_root_theory.proofs.Collisions.{member_left, member_right}
use Rattle.merkle_base.proofs.Lists.{one_there}
use Rattle.merkle_claim_theory.proofs.PlacesOnce.{member_map}

-- the digest of a node, if there is one
abbrev digest_of : {D : Type 0} → Hashing D → (ℕ → D) → Option Tree → D
digest_of h X None = h.empty
digest_of h X (Some t) = tree_digest h X t

-- ---- peaks of one forest
pub spans_first : (o n : ℕ) (ts : List Tree) (u : Tree) → Spans o n ts → Member ts u → o ≤ first_leaf u
spans_first o n [] u c m = elim m [ ]
spans_first o n (t ∷ ts) u c (inl e) = omega (arith, c.0, ap first_leaf e)
spans_first o n (t ∷ ts) u c (inr m) = omega (arith, spans_first (o + width t) n ts u c.1 m)

spans_last : (o n : ℕ) (ts : List Tree) (u : Tree) → Spans o n ts → Member ts u → end_leaf u ≤ n
spans_last o n [] u c m = elim m [ ]
spans_last o n (t ∷ ts) u c (inl e) = omega (arith, c.0, ap end_leaf e, spans_end (o + width t) n ts c.1)
spans_last o n (t ∷ ts) u c (inr m) = spans_last (o + width t) n ts u c.1 m

pub apart : (o n : ℕ) (ts : List Tree) (u v : Tree) → Spans o n ts → Member ts u → Member ts v → (u ≡ v) ⊎ ((end_leaf u ≤ first_leaf v) ⊎ (end_leaf v ≤ first_leaf u))
apart o n [] u v c m w = elim m [ ]
apart o n (t ∷ ts) u v c (inl d) (inl e) = inl (sym d ∙ e)
apart o n (t ∷ ts) u v c (inl d) (inr w) = inr (inl (omega (arith, spans_first (o + width t) n ts v c.1 w, c.0, ap end_leaf d)))
apart o n (t ∷ ts) u v c (inr m) (inl e) = inr (inr (omega (arith, spans_first (o + width t) n ts u c.1 m, c.0, ap end_leaf e)))
apart o n (t ∷ ts) u v c (inr m) (inr w) = apart (o + width t) n ts u v c.1 m w

-- two of them with one location are one
same_at : (o n i : ℕ) (ts : List Tree) (u v : Tree) → Spans o n ts → Member ts u → Member ts v → first_leaf u ≤ i → i < end_leaf u → first_leaf v ≤ i → i < end_leaf v → u ≡ v
same_at o n i ts u v c m w a b d e = ⊎_elim (λ x. x) (⊎_elim (λ x. absurd (omega (arith, x, a, b, d, e))) (λ x. absurd (omega (arith, x, a, b, d, e)))) (apart o n ts u v c m w)

-- a node of the forest lies under the peak that has its first location
member_get : (ts : List Tree) (i : ℕ) (t : Tree) → slice_get ts i ≡ Some t → Member ts t
member_get [] i t e = absurd (cc)
member_get (x ∷ ts) zero t e = inl (cc)
member_get (x ∷ ts) (suc i) t e = inr (member_get ts i t e)

member_reverse : (ts : List Tree) (t : Tree) → Member ts t → Member (reverse ts) t
member_reverse [] t m = elim m [ ]
member_reverse (x ∷ ts) t (inl e) = subst (λ z. Member z t) (sym (reverse-append (x ∷ []) ts)) (member_right (reverse ts) (x ∷ []) t (inl e))
member_reverse (x ∷ ts) t (inr m) = subst (λ z. Member z t) (sym (reverse-append (x ∷ []) ts)) (member_left (reverse ts) (x ∷ []) t (member_reverse ts t m))

position_member : (ts : List Tree) (p : ℕ) → Member (map position ts) p → (v : Tree) × Member ts v × (position v ≡ p)
position_member [] p m = elim m [ ]
position_member (t ∷ ts) p (inl e) = (t, inl refl, e)
position_member (t ∷ ts) p (inr m) = let w = position_member ts p m in (w.0, inr w.1, w.2)

module _ {D : Type 0} (s : Scheme D) (n start : ℕ) (l : start ≤ n) where
  abbrev ns : List Tree
  ns = (forest s.rule n).nodes

  -- a peak over the first leaves is built in the whole forest
  pin_built : (u : Tree) → Member (peaks_of s.rule start) u → IsBuilt ns u
  pin_built u m = let w = forest_prefix s.rule start n l in
      subst (λ z. IsBuilt z u) (sym w.1) (IsBuilt-front (forest s.rule start).nodes w.0 u (all_member _ (peaks_of s.rule start) u (peaks_built s.rule start) m))

  -- and lies under the peak that has one of its locations
  pin_under : (u t : Tree) (i : ℕ) → Member (peaks_of s.rule start) u → Member (peaks_of s.rule n) t → first_leaf u ≤ i → i < end_leaf u → first_leaf t ≤ i → i < end_leaf t → IsUnder u t
  pin_under u t i m w a b d e =
      let x = peak_of u (forest s.rule n).peaks ((forest_grown s.rule n).under (position u) u (built_at ns u (pin_built u m))) in
      let y : Member (peaks_of s.rule n) x.1 = member_reverse (forest s.rule n).peaks x.1 (member_get (forest s.rule n).peaks x.0 x.1 x.2) in
      let bx = all_member (IsBuilt ns) (peaks_of s.rule n) x.1 (peaks_built s.rule n) y in
      let f1 = first_under ns u x.1 x.3 bx in
      let f2 = end_under ns u x.1 x.3 bx in
      subst (IsUnder u) (same_at 0 n i (peaks_of s.rule n) x.1 t (peaks_spans s.rule n) y w (omega (arith, f1, a)) (omega (arith, f2, b)) d e) x.3

  -- no peak over the first leaves stands above another
  none_above : (u : Tree) → Member (peaks_of s.rule start) u → (p : ℕ) (a b : Tree) → IsUnder u a ⊎ IsUnder u b → IsBuilt ns (join p a b) → Member (pin_positions s start) p → ⊥
  none_above u m p a b under built w =
      let v = position_member (peaks_of s.rule start) p w in
      let same : v.0 ≡ join p a b = one_there (subst (λ z. slice_get ns z ≡ Some v.0) v.2 (built_at ns v.0 (pin_built v.0 v.1))) (built_at ns (join p a b) built) in
      let u' : IsUnder u (join p a b) = inr under in
      let f1 = first_under ns u (join p a b) u' built in
      let f2 = end_under ns u (join p a b) u' built in
      let e : u ≡ v.0 = same_at 0 start (first_leaf u) (peaks_of s.rule start) u v.0 (peaks_spans s.rule start) m v.1 (omega arith)
      (omega (arith, width_pos u)) (omega (arith, f1, ap first_leaf same)) (omega (arith, f2, width_pos u, ap end_leaf same)) in
      let q : position u ≡ p = ap position e ∙ v.2 in
      ⊎_elim (λ x. absurd (omega (arith, position_under ns u a x built.4, built.1, q))) (λ x. absurd (omega (arith, position_under ns u b x built.5, built.2, q))) under

  -- the positions of the pins are distinct
  pins_apart : (o : ℕ) (ts : List Tree) → Spans o start ts → ((u : Tree) → Member ts u → IsBuilt ns u) → Distinct (map position ts)
  pins_apart o [] c f = tt
  pins_apart o (t ∷ ts) c f = (no_other ts (λ u m. inr m), pins_apart (o + width t) ts c.1 (λ u m. f u (inr m)))
    where
      no_other : (us : List Tree) → ((u : Tree) → Member us u → Member (t ∷ ts) u) → Member (map position ts) (position t) → ⊥
      no_other us g m = at ts (λ u w. w) m
        where
          at : (vs : List Tree) → ((u : Tree) → Member vs u → Member ts u) → Member (map position vs) (position t) → ⊥
          at [] g m = m
          at (v ∷ vs) g (inl e) =
              let same : v ≡ t = one_there (subst (λ z. slice_get ns z ≡ Some v) e (built_at ns v (f v (inr (g v (inl refl)))))) (built_at ns t (f t (inl refl))) in
              absurd (omega (arith, spans_first (o + width t) start ts v c.1 (g v (inl refl)), ap first_leaf same, c.0, width_pos t))
          at (v ∷ vs) g (inr m) = at vs (λ u w. g u (inr w)) m

  pub distinct_pins : Distinct (pin_positions s start)
  distinct_pins = pins_apart 0 (peaks_of s.rule start) (peaks_spans s.rule start) pin_built

-- ---- lists of pins
absent : {D : Type 0} (ps : List ℕ) (ds : List D) (p : ℕ) → (Member ps p → ⊥) → digest_for ps ds p ≡ None
absent [] ds p f = refl
absent (q ∷ ps) [] p f = refl
absent (q ∷ ps) (d ∷ ds) p f = ap (λ z. cond z (Some d) (digest_for ps ds p)) (ne_eqb q p (λ e. f (inl e))) ∙ absent ps ds p (λ m. f (inr m))

match_some : {D : Type 0} (o : Option D) (P : Type 0) (Q : D → Type 0) → MatchOption o P Q → IfSome o Q
match_some None P Q w = tt
match_some (Some d) P Q w = w

some_match : {D : Type 0} (o : Option D) (P : Type 0) (Q : D → Type 0) → (o ≡ None → P) → IfSome o Q → MatchOption o P Q
some_match None P Q f w = f refl
some_match (Some d) P Q f w = w

none≢some : {D : Type 0} (d : D) → None ≡ Some d → ⊥
none≢some d e = cc

module _ {D : Type 0} (s : Scheme D) (n start e : ℕ) (l : start ≤ n) (more : start < e) (X : ℕ → D) where
  abbrev nodes : List Tree
  nodes = (forest s.rule n).nodes

  abbrev c : ℕ → Bool
  c = in_range start e

  abbrev w : ℕ → Bool
  w = in_range 0 start

  -- before the range it is not met
  old_unmet : (t : Tree) → IsBuilt nodes t → end_leaf t ≤ start → tree_meets c t ≡ true → ⊥
  old_unmet t b x m = false≢true (sym (meets_not start e nodes t b (inl x)) ∙ m)

  old_met : (t : Tree) → IsBuilt nodes t → first_leaf t < start → tree_meets w t ≡ true
  old_met t b x = meets_yes 0 start nodes t b x (omega (arith, width_pos t)) (omega (arith, x))

  pin_end : (u : Tree) → Member (peaks_of s.rule start) u → end_leaf u ≤ start
  pin_end u m = spans_last 0 start (peaks_of s.rule start) u (peaks_spans s.rule start) m

  module _ (pins : List D) where
    abbrev b : ℕ → Option D
    b = digest_for (pin_positions s start) pins

    abbrev Right : Tree → Type 0
    Right u = IfSome (b (position u)) (λ d. d ≡ tree_digest s.hashing X u)

    -- down from a part before the range to a pin
    pins_below : (t u : Tree) → PinsTree s.hashing b X t → IsBuilt nodes t → IsUnder u t → Member (peaks_of s.rule start) u → Right u
    pins_below (leaf p i) u v built x m = subst (λ z. IfSome (b (position z)) (λ d. d ≡ tree_digest s.hashing X z)) (sym x) (told_some s.hashing.empty (b p) (X i) v)
    pins_below (join p a a') u v built (inl x) m = subst (λ z. IfSome (b (position z)) (λ d. d ≡ tree_digest s.hashing X z)) (sym x) (match_some (b p) _ _ v)
    pins_below (join p a a') u v built (inr (inl x)) m =
        let z : b p ≡ None = absent (pin_positions s start) pins p (none_above s n start l u m p a a' (inl x) built) in
        pins_below a u (subst (λ o. MatchOption o (PinsTree s.hashing b X a × PinsTree s.hashing b X a') (λ d. d ≡ tree_digest s.hashing X (join p a a'))) z v).0 built.4 x m
    pins_below (join p a a') u v built (inr (inr x)) m =
        let z : b p ≡ None = absent (pin_positions s start) pins p (none_above s n start l u m p a a' (inr x) built) in
        pins_below a' u (subst (λ o. MatchOption o (PinsTree s.hashing b X a × PinsTree s.hashing b X a') (λ d. d ≡ tree_digest s.hashing X (join p a a'))) z v).1 built.5 x m

    -- down from a peak
    walk_unmet : (t u : Tree) → PinsTrees s.hashing b w X (siblings c t) → IsBuilt nodes t → IsUnder u t → Member (peaks_of s.rule start) u → tree_meets c t ≡ false → Right u
    walk_unmet t u v built x m q = let one = subst (PinsTrees s.hashing b w X) (siblings_unmet c t q) v in
        pins_below t u (one.0 (old_met t built (omega (arith, first_under nodes u t x built, pin_end u m, width_pos u)))) built x m

    pub walk : (t u : Tree) → PinsTrees s.hashing b w X (siblings c t) → IsBuilt nodes t → IsUnder u t → Member (peaks_of s.rule start) u → Right u
    walk (leaf p i) u v built x m =
        ⊎_elim (λ q. absurd (old_unmet (leaf p i) built (subst (λ z. end_leaf z ≤ start) x (pin_end u m)) q))
        (λ q. walk_unmet (leaf p i) u v built x m q) (cases_Bool (tree_meets c (leaf p i)))
    walk (join p a a') u v built x m = ⊎_elim
        (λ q. let z = trees_left s.hashing b X w (siblings c a) (siblings c a') (subst (PinsTrees s.hashing b w X) (siblings_join c p a a' q) v) in
        ⊎_elim (λ y. absurd (old_unmet (join p a a') built (subst (λ z. end_leaf z ≤ start) y (pin_end u m)) q))
        (⊎_elim (λ y. walk a u z.0 built.4 y m) (λ y. walk a' u z.1 built.5 y m)) x)
        (λ q. walk_unmet (join p a a') u v built x m q) (cases_Bool (tree_meets c (join p a a')))

  -- the honest pins
  abbrev f : ℕ → D
  f p = digest_of s.hashing X (slice_get nodes p)

  abbrev hb : ℕ → Option D
  hb = digest_for (pin_positions s start) (map f (pin_positions s start))

  at_node : (t : Tree) → IsBuilt nodes t → f (position t) ≡ tree_digest s.hashing X t
  at_node t built = ap (digest_of s.hashing X) (built_at nodes t built)

  -- the pin at a location, under t
  abbrev PinAt : Tree → ℕ → Type 0
  PinAt t i = (u : Tree) × Member (peaks_of s.rule start) u × IsUnder u t × InTree u i

  pin_digest : (u : Tree) → Member (peaks_of s.rule start) u → hb (position u) ≡ Some (f (position u))
  pin_digest u m = listed_some (pin_positions s start) f (position u) (member_map position (peaks_of s.rule start) u m)

  pin_left : (p : ℕ) (a a' : Tree) (i : ℕ) → IsBuilt nodes (join p a a') → InTree a i → (v : PinAt (join p a a') i) → (v.0 ≡ join p a a' → ⊥) → PinAt a i
  pin_left p a a' i built m v other = ⊎_elim (λ x. absurd (other x)) (⊎_elim (λ x. (v.0, v.1, x, v.3))
      (λ x. let i1 = tree_in nodes v.0 i (pin_built s n start l v.0 v.1) v.3 in let i2 = tree_in nodes a i built.4 m in
      absurd (omega (arith, first_under nodes v.0 a' x built.5, i1.0, i2.1, built.3)))) v.2

  pin_right : (p : ℕ) (a a' : Tree) (i : ℕ) → IsBuilt nodes (join p a a') → InTree a' i → (v : PinAt (join p a a') i) → (v.0 ≡ join p a a' → ⊥) → PinAt a' i
  pin_right p a a' i built m v other = ⊎_elim (λ x. absurd (other x)) (⊎_elim
      (λ x. let i1 = tree_in nodes v.0 i (pin_built s n start l v.0 v.1) v.3 in let i2 = tree_in nodes a' i built.5 m in absurd (omega (arith, end_under nodes v.0 a x built.4, i1.1, i2.0, built.3)))
      (λ x. (v.0, v.1, x, v.3))) v.2

  pins_tree : (t : Tree) → IsBuilt nodes t → ((i : ℕ) → InTree t i → PinAt t i) → PinsTree s.hashing hb X t
  pins_tree (leaf p i) built v = let u = v i refl in
      subst (λ z. or_empty s.hashing (hb (position z)) ≡ tree_digest s.hashing X z) u.2 (ap (or_empty s.hashing) (pin_digest u.0 u.1) ∙ at_node u.0 (pin_built s n start l u.0 u.1))
  pins_tree (join p a a') built v = some_match (hb p) _ _
      (λ z. (
        pins_tree a built.4 (λ i m. pin_left p a a' i built m (v i (inl m)) (λ q. none≢some _ (sym z ∙ sym (ap (λ y. hb (position y)) q) ∙ pin_digest (v i (inl m)).0 (v i (inl m)).1))),
        pins_tree a' built.5 (λ i m. pin_right p a a' i built m (v i (inr m)) (λ q. none≢some _ (sym z ∙ sym (ap (λ y. hb (position y)) q) ∙ pin_digest (v i (inr m)).0 (v i (inr m)).1))),
      ))
      (if_some (hb p) _ _ (at_node (join p a a') built) (listed_is (pin_positions s start) f p))

  honest_unmet : (t : Tree) → IsBuilt nodes t → ((i : ℕ) → i < start → InTree t i → PinAt t i) → tree_meets c t ≡ false → PinsTrees s.hashing hb w X (siblings c t)
  honest_unmet t built v q = subst (PinsTrees s.hashing hb w X) (sym (siblings_unmet c t q)) ((λ z. pins_tree t built (λ i m. v i (before z i m) m)), tt)
    where
      before : tree_meets w t ≡ true → (i : ℕ) → InTree t i → i < start
      before z i m = ⊎_elim (λ x. ⊎_elim (λ y. absurd (false≢true (sym q ∙ meets_yes start e nodes t built (omega (arith, y, more)) x more)))
          (λ y. absurd (false≢true (sym (meets_not 0 start nodes t built (inr y)) ∙ z))) (cases_lt (first_leaf t) start))
          (λ x. omega (arith, x, (tree_in nodes t i built m).1)) (cases_lt start (end_leaf t))

  honest_walk : (t : Tree) → IsBuilt nodes t → ((i : ℕ) → i < start → InTree t i → PinAt t i) → PinsTrees s.hashing hb w X (siblings c t)
  honest_walk (leaf p i) built v =
      ⊎_elim (λ q. subst (λ z. PinsTrees s.hashing hb w X (cond z [] (leaf p i ∷ []))) (sym q) tt) (λ q. honest_unmet (leaf p i) built v q)
      (cases_Bool (tree_meets c (leaf p i)))
  honest_walk (join p a a') built v = ⊎_elim
      (λ q. subst (PinsTrees s.hashing hb w X) (sym (siblings_join c p a a' q)) (pins_trees_append s.hashing hb X w (siblings c a) (siblings c a')
      (honest_walk a built.4 (λ i x m. pin_left p a a' i built m (v i x (inl m))
      (λ z. old_unmet (join p a a') built (subst (λ y. end_leaf y ≤ start) z (pin_end (v i x (inl m)).0 (v i x (inl m)).1)) q)))
      (honest_walk a' built.5 (λ i x m. pin_right p a a' i built m (v i x (inr m))
      (λ z. old_unmet (join p a a') built (subst (λ y. end_leaf y ≤ start) z (pin_end (v i x (inr m)).0 (v i x (inr m)).1)) q)))))
      (λ q. honest_unmet (join p a a') built v q) (cases_Bool (tree_meets c (join p a a')))

  -- each peak of the whole forest
  honest_peaks : AllByRecursion (λ t. PinsTrees s.hashing hb w X (siblings c t)) (peaks_of s.rule n)
  honest_peaks = member_all _ (peaks_of s.rule n) (λ t m. let built = all_member (IsBuilt nodes) (peaks_of s.rule n) t (peaks_built s.rule n) m in
      honest_walk t built (λ i x y. let u = covers s start i x in
      let i1 = tree_in nodes u.0 i (pin_built s n start l u.0 u.1) u.2 in let i2 = tree_in nodes t i built y in
      (u.0, u.1, pin_under s n start l u.0 t i u.1 m i1.0 i1.1 i2.0 i2.1, u.2)))

-- ---- the parts of the layout that lie before the range
module _ {D : Type 0} (h : Hashing D) (b : ℕ → Option D) (X : ℕ → D) where
  plan_each : (p : Plan) → PinsPlan h b X p → EachPeak (PinsTree h b X) p
  plan_each (peak t) v = v
  plan_each (folding place l r) v = (plan_each l v.0, plan_each r v.1)

  each_plan : (p : Plan) → EachPeak (PinsTree h b X) p → PinsPlan h b X p
  each_plan (peak t) v = v
  each_plan (folding place l r) v = (each_plan l v.0, each_plan r v.1)

  module _ (w : ℕ → Bool) where
    abbrev IsMet : Tree → Type 0
    IsMet t = tree_meets w t ≡ true

    left_fold_met : (acc : Plan) (i : ℕ) (ts : List Tree) → meets w acc ≡ true → meets w (left_fold_plan acc i ts) ≡ true
    left_fold_met acc i [] e = e
    left_fold_met acc i (t ∷ ts) e = left_fold_met (folding (PrefixFold i) acc (peak t)) (suc i) ts (ap (λ z. z || tree_meets w t) e)

    unpack_folded : (ts : List Tree) → AllByRecursion IsMet ts → PinsAll h b w X (fold_all ts) → AllByRecursion (PinsTree h b X) ts
    unpack_folded [] m v = tt
    unpack_folded (t ∷ ts) m v = let z = each_left_fold (PinsTree h b X) (peak t) 1 ts (plan_each (left_fold_plan (peak t) 1 ts) (v.0 (left_fold_met (peak t) 1 ts m.0))) in (z.0, z.1)

    unpack_single : (ts : List Tree) → AllByRecursion IsMet ts → PinsAll h b w X (map peak ts) → AllByRecursion (PinsTree h b X) ts
    unpack_single [] m v = tt
    unpack_single (t ∷ ts) m v = (v.0 m.0, unpack_single ts m.1 v.1)

    unpack : (bagging : Bagging) (k : ℕ) (before over after : List Tree) → AllByRecursion IsMet before → PinsAll h b w X (layout bagging k before over after) → AllByRecursion (PinsTree h b X) before
    unpack ForwardFold k before over after m v = unpack_folded before m (plans_left h b X w (fold_all before) _ v).0
    unpack BackwardFold k before over after m v =
        let z = plans_left h b X w (fold_all (take k before)) _ v in
        all_cut (PinsTree h b X) k before (unpack_folded (take k before) (all_take IsMet k before m) z.0)
        (unpack_single (drop k before) (all_drop IsMet k before m) (plans_left h b X w (map peak (drop k before)) _ z.1).0)

    pack_folded : (ts : List Tree) → AllByRecursion (PinsTree h b X) ts → PinsAll h b w X (fold_all ts)
    pack_folded [] v = tt
    pack_folded (t ∷ ts) v = ((λ _. each_plan (left_fold_plan (peak t) 1 ts) (left_fold_each (PinsTree h b X) (peak t) 1 ts v.0 v.1)), tt)

    pack_single : (ts : List Tree) → AllByRecursion (PinsTree h b X) ts → PinsAll h b w X (map peak ts)
    pack_single [] v = tt
    pack_single (t ∷ ts) v = ((λ _. v.0), pack_single ts v.1)

    pack_after : (ts : List Tree) → Unmet w ts → PinsAll h b w X (map peak ts)
    pack_after [] u = tt
    pack_after (t ∷ ts) u = ((λ e. absurd (false≢true (sym u.0 ∙ e))), pack_after ts u.1)

    pack_right_fold : (i : ℕ) (ts : List Tree) → Unmet w ts → PinsAll h b w X (bag_all i ts)
    pack_right_fold i [] u = tt
    pack_right_fold i (t ∷ ts) u = ((λ e. absurd (false≢true (sym (right_fold_unmet w i t ts u) ∙ e))), tt)

    pack : (bagging : Bagging) (k : ℕ) (before over after : List Tree) → AllByRecursion (PinsTree h b X) before → Unmet w after → PinsAll h b w X (layout bagging k before over after)
    pack ForwardFold k before over after v u = pins_all_append h b X w (fold_all before) _ (pack_folded before v) (pins_all_append h b X w (map peak after) [] (pack_after after u) tt)
    pack BackwardFold k before over after v u =
        let met = length before + length over in
        pins_all_append h b X w (fold_all (take k before)) _ (pack_folded (take k before) (all_take (PinsTree h b X) k before v))
        (pins_all_append h b X w (map peak (drop k before)) _ (pack_single (drop k before) (all_drop (PinsTree h b X) k before v))
        (pins_all_append h b X w (map peak (take (k - met) after)) _ (pack_after (take (k - met) after) (unmet_take w (k - met) after u))
        (pack_right_fold (met + (k - met)) (drop (k - met) after) (unmet_drop w (k - met) after u))))

    -- the siblings of several peaks, and of one of them
    siblings_of : (c : ℕ → Bool) (ts : List Tree) (t : Tree) → Member ts t → PinsTrees h b w X (flat_map (siblings c) ts) → PinsTrees h b w X (siblings c t)
    siblings_of c [] t m v = elim m [ ]
    siblings_of c (x ∷ ts) t (inl e) v = subst (λ z. PinsTrees h b w X (siblings c z)) e (trees_left h b X w (siblings c x) (flat_map (siblings c) ts) v).0
    siblings_of c (x ∷ ts) t (inr m) v = siblings_of c ts t m (trees_left h b X w (siblings c x) (flat_map (siblings c) ts) v).1

    of_siblings : (c : ℕ → Bool) (ts : List Tree) → AllByRecursion (λ t. PinsTrees h b w X (siblings c t)) ts → PinsTrees h b w X (flat_map (siblings c) ts)
    of_siblings c [] v = tt
    of_siblings c (t ∷ ts) v = pins_trees_append h b X w (siblings c t) (flat_map (siblings c) ts) v.0 (of_siblings c ts v.1)

module _ {D : Type 0} (s : Scheme D) (n start e : ℕ) (l : start ≤ n) (more : start < e) (X : ℕ → D) where
  abbrev ts : List Tree
  ts = peaks_of s.rule n

  before_end : (t : Tree) → Member (wholly_before start ts) t → end_leaf t ≤ start
  before_end t m = leb-true (end_leaf t) start (filtered_member (λ t. nat_le (end_leaf t) start) ts t m).1

  before_met : AllByRecursion (λ t. tree_meets (in_range 0 start) t ≡ true) (wholly_before start ts)
  before_met = member_all _ (wholly_before start ts)
      (λ t m. old_met s n start e l more X t (all_member _ ts t (peaks_built s.rule n) (filtered_member (λ t. nat_le (end_leaf t) start) ts t m).0)
      (omega (arith, before_end t m, width_pos t)))

  after_unmet : (us : List Tree) → AllByRecursion (IsBuilt (forest s.rule n).nodes) us → Unmet (in_range 0 start) (wholly_after e us)
  after_unmet [] h = tt
  after_unmet (t ∷ us) h = by_test (λ z. nat_le e (first_leaf t) ≡ z → Unmet (in_range 0 start) (cond z (t ∷ wholly_after e us) (wholly_after e us))) (nat_le e (first_leaf t))
      (λ _ q. (meets_not 0 start _ t h.0 (inr (omega (arith, leb-true e (first_leaf t) q, more))), after_unmet us h.1)) (λ _ _. after_unmet us h.1) refl

  map_positions : (us : List Tree) → ((u : Tree) → Member us u → IsBuilt (forest s.rule n).nodes u) → map (f s n start e l more X) (map position us) ≡ map (tree_digest s.hashing X) us
  map_positions [] g = refl
  map_positions (u ∷ us) g = ap₂ (λ a b. a ∷ b) (at_node s n start e l more X u (g u (inl refl))) (map_positions us (λ v m. g v (inr m)))

  -- where the parts before the range are rebuilt to the list's digests the pins are the list's
  pub pins_are : (bagging : Bagging) (k : ℕ) (pins : List D) → e ≤ n → length pins ≡ length (peaks_of s.rule start)
      → PinsAll s.hashing (digest_for (pin_positions s start) pins) (in_range 0 start) X (range_parts bagging k start e ts)
      → PinsTrees s.hashing (digest_for (pin_positions s start) pins) (in_range 0 start) X (range_siblings start e ts)
      → pins ≡ map (tree_digest s.hashing X) (peaks_of s.rule start)
  pins_are bagging k pins far long v z =
      listed (pin_positions s start) pins (f s n start e l more X) (distinct_pins s n start l)
      (long ∙ sym (length-map (peaks_of s.rule start) position)) right ∙ map_positions (peaks_of s.rule start) (λ u m. pin_built s n start l u m)
    where
      b : ℕ → Option D
      b = digest_for (pin_positions s start) pins

      split : ts ≡ wholly_before start ts ++ (overlapping start e ts ++ wholly_after e ts)
      split = groups start e 0 n ts more (peaks_spans s.rule n)

      trees : AllByRecursion (PinsTree s.hashing (digest_for (pin_positions s start) pins) X) (wholly_before start ts)
      trees = unpack s.hashing (digest_for (pin_positions s start) pins) X (in_range 0 start) bagging k (wholly_before start ts) (overlapping start e ts) (wholly_after e ts) before_met v

      -- of a peak with a pin under it
      part : (t u : Tree) → Member ts t → Member (peaks_of s.rule start) u → IsUnder u t
          → PinsTrees s.hashing (digest_for (pin_positions s start) pins) (in_range 0 start) X (siblings (in_range start e) t)
      part t u m q x = ⊎_elim
          (λ y. subst (PinsTrees s.hashing (digest_for (pin_positions s start) pins) (in_range 0 start) X)
          (sym (siblings_unmet (in_range start e) t (meets_not start e _ t built (inl (before_end t y)))))
          ((λ _. all_member _ (wholly_before start ts) t trees y), tt))
          (λ y. ⊎_elim (λ o. siblings_of s.hashing (digest_for (pin_positions s start) pins) X (in_range 0 start) (in_range start e) (overlapping start e ts) t o z)
          (λ o. absurd (omega (
            arith,
            leb-true e (first_leaf t) (filtered_member (λ t. nat_le e (first_leaf t)) ts t o).1,
            first_under _ u t x built,
            pin_end s n start e l more X u q,
            width_pos u,
            more,
          )))
          (member_split (overlapping start e ts) (wholly_after e ts) t y))
          (member_split (wholly_before start ts) (overlapping start e ts ++ wholly_after e ts) t (subst (λ us. Member us t) split m))
        where
          built : IsBuilt (forest s.rule n).nodes t
          built = all_member _ ts t (peaks_built s.rule n) m

      right : (p : ℕ) → Member (pin_positions s start) p → IfSome (digest_for (pin_positions s start) pins p) (λ d. d ≡ f s n start e l more X p)
      right p m =
          let u = position_member (peaks_of s.rule start) p m in
          let ub = pin_built s n start l u.0 u.1 in
          let in_n : first_leaf u.0 < n = omega (arith, pin_end s n start e l more X u.0 u.1, width_pos u.0, l) in
          let t = covers s n (first_leaf u.0) in_n in
          let tb = all_member (IsBuilt (forest s.rule n).nodes) ts t.0 (peaks_built s.rule n) t.1 in
          let i = tree_in (forest s.rule n).nodes t.0 (first_leaf u.0) tb t.2 in
          let x = pin_under s n start l u.0 t.0 (first_leaf u.0) u.1 t.1 (omega arith) (omega (arith, width_pos u.0)) i.0 i.1 in
          subst (λ q. IfSome (digest_for (pin_positions s start) pins q) (λ d. d ≡ f s n start e l more X q)) u.2
          (if_some (digest_for (pin_positions s start) pins (position u.0)) _ _ (sym (at_node s n start e l more X u.0 ub))
          (walk s n start e l more X pins t.0 u.0 (part t.0 u.0 t.1 u.1 x) tb x u.1))

  -- the list's pins rebuild them
  pub pins_rebuild : (bagging : Bagging) (k : ℕ) (pins : List D) → e ≤ n → pins ≡ map (tree_digest s.hashing X) (peaks_of s.rule start)
      → PinsAll s.hashing (digest_for (pin_positions s start) pins) (in_range 0 start) X (range_parts bagging k start e ts)
      × PinsTrees s.hashing (digest_for (pin_positions s start) pins) (in_range 0 start) X (range_siblings start e ts)
  pins_rebuild bagging k pins far q =
      let same : map (f s n start e l more X) (pin_positions s start) ≡ pins = map_positions (peaks_of s.rule start) (λ u m. pin_built s n start l u m) ∙ sym q in
      let all : AllByRecursion (λ t. PinsTrees s.hashing (digest_for (pin_positions s start) pins) (in_range 0 start) X (siblings (in_range start e) t)) ts =
      subst (λ ds. AllByRecursion (λ t. PinsTrees s.hashing (digest_for (pin_positions s start) ds) (in_range 0 start) X
      (siblings (in_range start e) t)) ts) same (honest_peaks s n start e l more X) in (
        pack s.hashing (digest_for (pin_positions s start) pins) X (in_range 0 start) bagging k (wholly_before start ts) (overlapping start e ts) (wholly_after e ts)
            (member_all _ (wholly_before start ts)
            (λ t m. let m' = (filtered_member (λ t. nat_le (end_leaf t) start) ts t m).0 in let built =
            all_member (IsBuilt (forest s.rule n).nodes) ts t (peaks_built s.rule n) m' in
            (subst (PinsTrees s.hashing (digest_for (pin_positions s start) pins) (in_range 0 start) X)
            (siblings_unmet (in_range start e) t (meets_not start e _ t built (inl (before_end t m)))) (all_member _ ts t all m')).0
            (all_member _ (wholly_before start ts) t before_met m))) (after_unmet ts (peaks_built s.rule n)),
        of_siblings s.hashing (digest_for (pin_positions s start) pins) X (in_range 0 start) (in_range start e) (overlapping start e ts) (all_filter _ _ ts all),
      )

-- ---- the pins are the digests of the peaks of the first leaves
module _ {D : Type 0} (s : Scheme D) (xs : List D) (start : ℕ) (l : start ≤ length xs) where
  same_tree : (t : Tree) → IsBuilt (forest s.rule start).nodes t → end_leaf t ≤ start → tree_digest s.hashing (leaf_of s.hashing (take start xs)) t ≡ tree_digest s.hashing (leaf_of s.hashing xs) t
  same_tree (leaf p i) b e = get_or-take start xs i s.hashing.empty (omega arith)
  same_tree (join p a a') b e = ap₂ (s.hashing.node p) (same_tree a b.4 (omega (arith, e, b.3))) (same_tree a' b.5 (omega (arith, e, b.3)))

  same_map : (us : List Tree) → AllByRecursion (IsBuilt (forest s.rule start).nodes) us → ((u : Tree) → Member us u → end_leaf u ≤ start)
      → map (tree_digest s.hashing (leaf_of s.hashing (take start xs))) us ≡ map (tree_digest s.hashing (leaf_of s.hashing xs)) us
  same_map [] b f = refl
  same_map (u ∷ us) b f = ap₂ (λ x y. x ∷ y) (same_tree u b.0 (f u (inl refl))) (same_map us b.1 (λ v m. f v (inr m)))

  pub honest_pins_are : honest_pins s xs start ≡ map (tree_digest s.hashing (leaf_of s.hashing xs)) (peaks_of s.rule start)
  honest_pins_are =
      let old = take start xs in
      digests_are s.hashing old (peaks_of s.rule (length old))
      ∙ ap (λ n. map (tree_digest s.hashing (leaf_of s.hashing old)) (peaks_of s.rule n)) (length-take-le start xs l)
      ∙ same_map (peaks_of s.rule start) (peaks_built s.rule start) (λ u m. spans_last 0 start (peaks_of s.rule start) u (peaks_spans s.rule start) m)

none_pinned : {D : Type 0} (s : Scheme D) → peak_digests s.hashing s.rule [] ≡ []
unfolding forest
none_pinned s = refl

-- those of the empty list
no_pins : {D : Type 0} (s : Scheme D) (xs : List D) (start : ℕ) → xs ≡ [] → honest_pins s xs start ≡ []
no_pins s xs start none = ap (λ (ys : List _). honest_pins s ys start) none ∙ ap (peak_digests s.hashing s.rule) (take-nil start) ∙ none_pinned s

pub pins_are_old_peaks : {D : Type 0} → PinsAreOldPeaks D
pins_are_old_peaks s xs start l = honest_pins_are s xs start l ∙ sym (digests_are s.hashing xs (peaks_of s.rule start))

-- ---- the check
each_in_plan : (P : ℕ → Type 0) (p : Plan) → ((i : ℕ) → InPlan p i → P i) → EachPeak (λ t. (i : ℕ) → InTree t i → P i) p
each_in_plan P (peak t) g = g
each_in_plan P (folding place l r) g = (each_in_plan P l (λ i m. g i (inl m)), each_in_plan P r (λ i m. g i (inr m)))

module _ {D : Type 0} (s : Scheme D) (size max_nodes : ℕ) (sound : IsLawfulScheme s size max_nodes) (xs : List D) (k : ℕ)
    (few : length xs ≤ s.max_leaves) (low : k ≤ length (peaks_of s.rule (length xs))) (r : RangeInput D) (pins : List D) where
  abbrev Z : ℕ → D
  Z = leaf_of s.hashing xs

  abbrev bb : ℕ → Option D
  bb = digest_for (pin_positions s r.start) pins

  Known : RangeInput D → Plan → Type 0
  Known r p = (r.digests ≡ honest_digests s.hashing Z (chosen r) p) × ((i : ℕ) → InPlan p i → chosen r i ≡ true → leaf_given s.hashing r i ≡ Z i)
      × PinsAll s.hashing bb (in_range 0 r.start) Z (outside_parts (chosen r) p) × PinsTrees s.hashing bb (in_range 0 r.start) Z (path_siblings (chosen r) p)

  layout_at : AcceptsPinnedSome s r pins (plan_root s xs k) → (p : Plan) → root_plan s.bagging r.inactive (peaks_of s.rule r.leaves) ≡ Some p
      → HasLayout (chosen r) (range_parts s.bagging r.inactive r.start (end_of r) (peaks_of s.rule r.leaves)) (range_siblings r.start (end_of r) (peaks_of s.rule r.leaves)) (Some p)
  layout_at ok p q = subst (HasLayout (chosen r) (range_parts s.bagging r.inactive r.start (end_of r) (peaks_of s.rule r.leaves)) (range_siblings r.start (end_of r) (peaks_of s.rule r.leaves))) q
      (range_layout s r.leaves r.inactive r.start (end_of r) (omega (arith, ok.nonempty)) ok.within)

  known_honest : (ok : AcceptsPinnedSome s r pins (plan_root s xs k)) → r.leaves ≡ length xs → r.inactive ≡ k → (p : Plan)
      → root_plan s.bagging r.inactive (peaks_of s.rule r.leaves) ≡ Some p → Known r p → IsHonestNonempty s xs k r × (pins ≡ honest_pins s xs r.start)
  unfolding Known
  known_honest ok d g p q w =
      let lay = layout_at ok p q in
      let within : end_of r ≤ length xs = omega (arith, ok.within, d) in
      let more : r.start < end_of r = omega (arith, ok.nonempty) in
      let leaves = each_of _ s.bagging r.inactive (peaks_of s.rule r.leaves) p q (each_in_plan (λ i. chosen r i ≡ true → leaf_given s.hashing r i ≡ Z i) p w.1) in (
        record {
          nonempty = ok.nonempty;
          within = within;
          leaves = d;
          inactive = g;
          digests = w.0 ∙ ap₂ (λ x y. map (plan_digest s.hashing Z) x ++ map (tree_digest s.hashing Z) y) lay.0 lay.1
              ∙ ap₂ (λ x y. map (plan_digest s.hashing Z) (range_parts s.bagging x r.start (end_of r) (peaks_of s.rule y))
              ++ map (tree_digest s.hashing Z) (range_siblings r.start (end_of r) (peaks_of s.rule y))) g d
              ∙ sym (range_digests_are s xs k r.start (end_of r));
          elements = elements_are s xs r within
              (λ i a b. (let t = covers s r.leaves i (omega (arith, b, ok.within)) in all_member _ (peaks_of s.rule r.leaves) t.0 leaves t.1 i t.2 (is_chosen r i a b)));
        },
        pins_are s r.leaves r.start (end_of r) (omega (arith, ok.within)) more Z s.bagging r.inactive pins ok.within ok.pinned
            (subst (PinsAll s.hashing bb (in_range 0 r.start) Z) lay.0 w.2) (subst (PinsTrees s.hashing bb (in_range 0 r.start) Z) lay.1 w.3)
            ∙ sym (honest_pins_are s xs r.start (omega (arith, within))),
      )

  pinned_honest : AcceptsPinnedSome s r pins (plan_root s xs k) → (IsHonestNonempty s xs k r × (pins ≡ honest_pins s xs r.start)) ⊎ PinnedCollides s r pins xs k
  unfolding Known
  pinned_honest ok =
      let pos : 0 < r.leaves = omega (arith, ok.nonempty, ok.within) in
      let p = plan_for s r.leaves r.inactive pos in
      let a1 = small_leaves s max_nodes r.leaves sound.lawful ok.leaves in
      let a2 = small_leaves s max_nodes (length xs) sound.lawful few in
      let b1 = small_inactive s max_nodes r.leaves r.inactive sound.lawful ok.leaves ok.inactive in
      let b2 = small_inactive s max_nodes (length xs) k sound.lawful few low in
      let lay = layout_at ok p.0 p.1 in
      let holds : Holds s.hashing (pinned_on s r pins p.0) = subst (λ o. AllHolds s (option_map (pinned_on s r pins) o)) p.1 ok.rebuilt in
      ⊎_elim (λ w. ⊎_elim (λ v. inl (known_honest ok w.0 w.1 p.0 p.1 v))
      (λ v. inr (below_root s size sound.bytes Z (pinned_on s r pins) r.leaves (length xs) r.inactive k a1 a2 b1 b2 p.0 p.1 w.0 w.1 v))
      (no_other_pins s.hashing sound.laws bb (in_range 0 r.start) (chosen r) Z (leaf_given s.hashing r) p.0 r.digests
      (ok.counts ∙ digest_count_is s r ∙ sym (ap₂ (λ x y. length x + length y) lay.0 lay.1)) holds w.2)) inr
      (roots s size sound.bytes Z (pinned_on s r pins) r.leaves (length xs) r.inactive k a1 a2 b1 b2 pos p.0 p.1 ok.root_is)

  honest_pinned : IsHonestNonempty s xs k r → pins ≡ honest_pins s xs r.start → AcceptsPinnedSome s r pins (plan_root s xs k)
  honest_pinned w q =
      let plain = honest_some s size max_nodes sound xs k few low r w in
      let more : r.start < end_of r = omega (arith, w.nonempty) in
      let pos : 0 < r.leaves = omega (arith, plain.nonempty, plain.within) in
      let p = plan_for s r.leaves r.inactive pos in
      let lay = subst (HasLayout (chosen r) (range_parts s.bagging r.inactive r.start (end_of r) (peaks_of s.rule r.leaves))
      (range_siblings r.start (end_of r) (peaks_of s.rule r.leaves))) p.1 (range_layout s r.leaves r.inactive r.start (end_of r) more plain.within) in
      let ds : r.digests ≡ honest_digests s.hashing Z (chosen r) p.0 = w.digests ∙ range_digests_are s xs k r.start (end_of r)
      ∙ ap₂ (λ x y. map (plan_digest s.hashing Z) (range_parts s.bagging x r.start (end_of r) (peaks_of s.rule y))
      ++ map (tree_digest s.hashing Z) (range_siblings r.start (end_of r) (peaks_of s.rule y))) (sym w.inactive) (sym w.leaves)
      ∙ sym (ap₂ (λ x y. map (plan_digest s.hashing Z) x ++ map (tree_digest s.hashing Z) y) lay.0 lay.1) in
      let old = q ∙ honest_pins_are s xs r.start (omega (arith, w.within)) in
      let z = pins_rebuild s r.leaves r.start (end_of r) (omega (arith, plain.within)) more Z s.bagging r.inactive pins plain.within old in
      let v : Holds s.hashing (pinned_on s r pins p.0) × (value s.hashing (pinned_on s r pins p.0) ≡ plan_digest s.hashing Z p.0) =
      subst (λ x. Holds s.hashing (pinned_of s.hashing bb (in_range 0 r.start) (chosen r) (leaf_given s.hashing r) p.0 x)
      × (value s.hashing (pinned_of s.hashing bb (in_range 0 r.start) (chosen r) (leaf_given s.hashing r) p.0 x) ≡ plan_digest s.hashing Z p.0)) (sym ds)
      (honest_pins_accepted s.hashing bb (in_range 0 r.start) (chosen r) Z (leaf_given s.hashing r) p.0 (honest_leaves s xs k r w)
      (subst (PinsAll s.hashing bb (in_range 0 r.start) Z) (sym lay.0) z.0) (subst (PinsTrees s.hashing bb (in_range 0 r.start) Z) (sym lay.1) z.1)) in
      record {
        nonempty = plain.nonempty;
        within = plain.within;
        leaves = plain.leaves;
        inactive = plain.inactive;
        counts = plain.counts ∙ sym (digest_count_is s r);
        pinned = ap length old ∙ length-map (peaks_of s.rule r.start) (tree_digest s.hashing Z);
        rebuilt = subst (λ o. AllHolds s (option_map (pinned_on s r pins) o)) (sym p.1) v.0;
        root_is = roots_same s Z (pinned_on s r pins) r.leaves r.inactive p.0 p.1 v.1 ∙ ap₂ (λ n j. root_of s n j (list_expression s Z n j)) w.leaves w.inactive;
      }

pub honest_pinned_is_accepted : {D : Type 0} → HonestPinnedIsAccepted D
honest_pinned_is_accepted s size max_nodes sound xs k few low r pins honest = ⊎_elim (λ w. inl (honest_pinned s size max_nodes sound xs k few low r pins w honest.1))
    (λ w. inr ((w.0, honest.1 ∙ no_pins s xs r.start w.1), empty_root s xs k low w.1)) (cases_of_range s xs k r low honest.0)

pub accepted_pinned_is_honest : {D : Type 0} → AcceptedPinnedIsHonest D
accepted_pinned_is_honest s size max_nodes sound xs k few low r pins ok =
    ⊎_elim (λ w. ⊎_elim (λ z. inl (range_of_some s xs k r z.0, z.1)) inr (pinned_honest s size max_nodes sound xs k few low r pins w))
    (λ w. ⊎_elim (λ z. inl (range_of_cases s xs k r low (inr (w.0.0, z)), w.0.1 ∙ sym (no_pins s xs r.start z))) inr
    (no_other_list s size max_nodes sound xs k few low (pinned_on s r pins) r.leaves r.inactive w.0.0.leaves w.0.0.inactive w.1)) ok
