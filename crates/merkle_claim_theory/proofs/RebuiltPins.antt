-- The pinned check is the range check and a comparison of what lies before the range with what the pins give.
use Rattle.std.proofs.Common.{◌≡◌, ℕ, Bool, true, false, cond, ◌||◌, ◌+◌, ◌<◌, ◌≤◌, suc, List, [], ◌∷◌, ◌++◌, take, refl, ap, ap₂, sym, ◌∙◌, subst, arith}
use Rattle.std.proofs.Common.{length, drop, Option, Some, None, option_map, drop-drop}
use Rattle.std.proofs.lemmas.Bool.{false≢true}
use Rattle.std.proofs.lemmas.List.{length-take-le}
use Rattle.merkle_base.proofs.Cases.{by_test}
use Rattle.merkle_base.specs.Hashing.{Hashing}
use Rattle.merkle_base.specs.Places.{peaks_of}
use Rattle.merkle_base.specs.Root.{root_string, peaks_root, list_root}
use Rattle.merkle_base.specs.Scheme.{Scheme}
use Rattle.merkle_base.specs.Tree.{Tree, leaf, join}
use Rattle.merkle_root_theory.specs.Expression.{Node, Expression, supplied, computed, hashed_at, cross_checked, value, Holds}
use Rattle.merkle_root_theory.specs.Plan.{Plan, peak, folding, root_plan, tree_meets, meets, siblings, outside_parts, path_siblings}
use Rattle.merkle_root_theory.specs.Claim.{next, tree_claim, claim, claim_of}
use Rattle.merkle_root_theory.specs.Outside.{HasLayout}
use Rattle.merkle_root_theory.specs.Check.{in_range, RangeInput, root_of, chosen, leaf_given}
use Rattle.merkle_root_theory.specs.Range.{end_of, range_parts, range_siblings, AcceptsNonempty}
use Rattle.merkle_root_theory.proofs.PeakGroups.{range_layout}
use Rattle.merkle_root_theory.proofs.RangeDigests.{digest_count_is}
use Rattle.merkle_claim_theory.specs.Multiproof.{AllHolds}
use Rattle.merkle_claim_theory.specs.Pinned.{pinned_on, pinned_expression, AcceptsPinnedSome, honest_pins}
use Rattle.merkle_claim_theory.specs.PinnedClaim.{pinned_or, pin_tree, pin_plan, outside_tree, outside_plan, pinned_tree, pinned_claim}
use Rattle.merkle_claim_theory.specs.Rebuilt.{AllRebuilt, rebuilt_node, rebuilt_part, pin_at, IsRebuilt, PinnedIsRebuilt, PinsGiveOldRoot}
use Rattle.merkle_claim_theory.proofs.ListedDigests.{plan_for}

-- ---- lists of parts
module _ {A D : Type 0} (h : Hashing D) (marked : A → Bool) (f : A → D) where
  pub rebuilt_append : (xs ys : List A) (ds : List D) → AllRebuilt h marked f xs ds → AllRebuilt h marked f ys (drop (length xs) ds) → AllRebuilt h marked f (xs ++ ys) ds
  rebuilt_append [] ys ds u v = v
  rebuilt_append (x ∷ xs) ys ds u v =
      let e : 1 + length xs ≡ suc (length xs) = omega arith in
      (u.0, rebuilt_append xs ys (drop 1 ds) u.1 (subst (AllRebuilt h marked f ys) (sym (drop-drop (length xs) 1 ds ∙ ap (λ n. drop n ds) e)) v))

  pub rebuilt_split : (xs ys : List A) (ds : List D) → AllRebuilt h marked f (xs ++ ys) ds → AllRebuilt h marked f xs ds × AllRebuilt h marked f ys (drop (length xs) ds)
  rebuilt_split [] ys ds u = (tt, u)
  rebuilt_split (x ∷ xs) ys ds u =
      let e : 1 + length xs ≡ suc (length xs) = omega arith in
      let w = rebuilt_split xs ys (drop 1 ds) u.1 in
      ((u.0, w.0), subst (AllRebuilt h marked f ys) (drop-drop (length xs) 1 ds ∙ ap (λ n. drop n ds) e) w.1)

module _ {D : Type 0} (h : Hashing D) (b : ℕ → Option D) (w : ℕ → Bool) where
  -- ---- what is rebuilt tells nothing
  pinned_or_holds : (o : Option D) (e : Expression D) → Holds h e → Holds h (pinned_or o e)
  pinned_or_holds None e x = x
  pinned_or_holds (Some d) e x = tt

  pin_tree_holds : (t : Tree) → Holds h (pin_tree h b t)
  pin_tree_holds (leaf p i) = tt
  pin_tree_holds (join p l r) = pinned_or_holds (b p) (computed (Node p) (pin_tree h b l) (pin_tree h b r)) (pin_tree_holds l, pin_tree_holds r)

  pin_plan_holds : (p : Plan) → Holds h (pin_plan h b p)
  pin_plan_holds (peak t) = pin_tree_holds t
  pin_plan_holds (folding place l r) = (pin_plan_holds l, pin_plan_holds r)

  -- ---- a part that is given
  given_holds : (y : Bool) (d : D) (e : Expression D) → Holds h (cond y (cross_checked d e) (supplied d)) → (y ≡ true → d ≡ value h e) × (value h (cond y (cross_checked d e) (supplied d)) ≡ d)
  given_holds true d e x = ((λ _. x.0), sym x.0)
  given_holds false d e x = ((λ q. absurd (false≢true q)), refl)

  holds_given : (y : Bool) (d : D) (e : Expression D) → Holds h e → (y ≡ true → d ≡ value h e) → Holds h (cond y (cross_checked d e) (supplied d))
  holds_given true d e x f = (f refl, x)
  holds_given false d e x f = tt

  module _ (c : ℕ → Bool) (X : ℕ → D) where
    abbrev Nodes : List Tree → List D → Type 0
    Nodes ts ds = AllRebuilt h (tree_meets w) (rebuilt_node h b) ts ds

    abbrev Parts : List Plan → List D → Type 0
    Parts ps ds = AllRebuilt h (meets w) (rebuilt_part h b) ps ds

    -- ---- trees
    pinned_tree_rebuilt : (t : Tree) (ds : List D) → Holds h (pinned_tree h b w c X t ds) → Nodes (siblings c t) ds × (value h (pinned_tree h b w c X t ds) ≡ value h (tree_claim h c X t ds))
    pinned_tree_rebuilt (leaf p i) ds =
        let out = outside_tree h b w (leaf p i) (next h ds) in
        by_test (λ y. Holds h (cond y (supplied (X i)) (outside_tree h b w (leaf p i) (next h ds))) → Nodes (cond y [] (leaf p i ∷ [])) ds
        × (value h (cond y (supplied (X i)) (outside_tree h b w (leaf p i) (next h ds))) ≡ value h (cond y (supplied (X i)) (supplied (next h ds))))) (c i)
        (λ _ x. (tt, refl))
        (λ _ x. let g = given_holds (tree_meets w (leaf p i)) (next h ds) (pin_tree h b (leaf p i)) x in ((g.0, tt), g.1))
    pinned_tree_rebuilt (join p l r) ds =
        let u = pinned_tree_rebuilt l ds in let v = pinned_tree_rebuilt r (drop (length (siblings c l)) ds) in
        by_test (λ y. Holds h (cond y (computed (Node p) (pinned_tree h b w c X l ds) (pinned_tree h b w c X r (drop (length (siblings c l)) ds))) (outside_tree h b w (join p l r) (next h ds)))
        → Nodes (cond y (siblings c l ++ siblings c r) (join p l r ∷ [])) ds
        × (value h (cond y (computed (Node p) (pinned_tree h b w c X l ds) (pinned_tree h b w c X r (drop (length (siblings c l)) ds))) (outside_tree h b w (join p l r) (next h ds)))
        ≡ value h (cond y (computed (Node p) (tree_claim h c X l ds) (tree_claim h c X r (drop (length (siblings c l)) ds))) (supplied (next h ds))))) (tree_meets c l || tree_meets c r)
        (λ _ x. let y = u x.0 in let z = v x.1 in (rebuilt_append h (tree_meets w) (rebuilt_node h b) (siblings c l) (siblings c r) ds y.0 z.0, ap₂ (h.node p) y.1 z.1))
        (λ _ x. let g = given_holds (tree_meets w (join p l r)) (next h ds) (pin_tree h b (join p l r)) x in ((g.0, tt), g.1))

    rebuilt_pinned_tree : (t : Tree) (ds : List D) → Nodes (siblings c t) ds → Holds h (pinned_tree h b w c X t ds)
    rebuilt_pinned_tree (leaf p i) ds =
        by_test (λ y. Nodes (cond y [] (leaf p i ∷ [])) ds → Holds h (cond y (supplied (X i)) (outside_tree h b w (leaf p i) (next h ds)))) (c i)
        (λ _ x. tt)
        (λ _ x. holds_given (tree_meets w (leaf p i)) (next h ds) (pin_tree h b (leaf p i)) (pin_tree_holds (leaf p i)) x.0)
    rebuilt_pinned_tree (join p l r) ds =
        let u = rebuilt_pinned_tree l ds in let v = rebuilt_pinned_tree r (drop (length (siblings c l)) ds) in
        by_test (λ y. Nodes (cond y (siblings c l ++ siblings c r) (join p l r ∷ [])) ds
        → Holds h (cond y (computed (Node p) (pinned_tree h b w c X l ds) (pinned_tree h b w c X r (drop (length (siblings c l)) ds)))
        (outside_tree h b w (join p l r) (next h ds)))) (tree_meets c l || tree_meets c r)
        (λ _ x. let y = rebuilt_split h (tree_meets w) (rebuilt_node h b) (siblings c l) (siblings c r) ds x in (u y.0, v y.1))
        (λ _ x. holds_given (tree_meets w (join p l r)) (next h ds) (pin_tree h b (join p l r)) (pin_tree_holds (join p l r)) x.0)

    -- ---- plans
    pinned_rebuilt : (p : Plan) (os is : List D) → Holds h (pinned_claim h b w c X p os is) → Parts (outside_parts c p) os
        × Nodes (path_siblings c p) is × (value h (pinned_claim h b w c X p os is) ≡ value h (claim h c X p os is))
    pinned_rebuilt (peak t) os is =
        let u = pinned_tree_rebuilt t is in
        by_test (λ y. Holds h (cond y (pinned_tree h b w c X t is) (outside_plan h b w (peak t) (next h os))) → Parts (cond y [] (peak t ∷ [])) os × Nodes (cond y (siblings c t) []) is
        × (value h (cond y (pinned_tree h b w c X t is) (outside_plan h b w (peak t) (next h os))) ≡ value h (cond y (tree_claim h c X t is) (supplied (next h os))))) (tree_meets c t)
        (λ _ x. let y = u x in (tt, y.0, y.1))
        (λ _ x. let g = given_holds (meets w (peak t)) (next h os) (pin_plan h b (peak t)) x in ((g.0, tt), tt, g.1))
    pinned_rebuilt (folding place l r) os is =
        let u = pinned_rebuilt l os is in let v = pinned_rebuilt r (drop (length (outside_parts c l)) os) (drop (length (path_siblings c l)) is) in
        by_test (λ y. Holds h (cond y
        (computed place (pinned_claim h b w c X l os is)
        (pinned_claim h b w c X r (drop (length (outside_parts c l)) os) (drop (length (path_siblings c l)) is)))
        (outside_plan h b w (folding place l r) (next h os)))
        → Parts (cond y (outside_parts c l ++ outside_parts c r) (folding place l r ∷ [])) os × Nodes (cond y (path_siblings c l ++ path_siblings c r) []) is
        × (value h (cond y (computed place (pinned_claim h b w c X l os is)
        (pinned_claim h b w c X r (drop (length (outside_parts c l)) os) (drop (length (path_siblings c l)) is)))
        (outside_plan h b w (folding place l r) (next h os)))
        ≡ value h (cond y (computed place (claim h c X l os is)
        (claim h c X r (drop (length (outside_parts c l)) os) (drop (length (path_siblings c l)) is))) (supplied (next h os))))) (meets c l || meets c r)
        (λ _ x. let y = u x.0 in let z = v x.1 in (
          rebuilt_append h (meets w) (rebuilt_part h b) (outside_parts c l) (outside_parts c r) os y.0 z.0,
          rebuilt_append h (tree_meets w) (rebuilt_node h b) (path_siblings c l) (path_siblings c r) is y.1 z.1,
          ap₂ (hashed_at h place) y.2 z.2,
        ))
        (λ _ x. let g = given_holds (meets w (folding place l r)) (next h os) (pin_plan h b (folding place l r)) x in ((g.0, tt), tt, g.1))

    rebuilt_pinned : (p : Plan) (os is : List D) → Parts (outside_parts c p) os → Nodes (path_siblings c p) is → Holds h (pinned_claim h b w c X p os is)
    rebuilt_pinned (peak t) os is =
        let u = rebuilt_pinned_tree t is in
        by_test (λ y. Parts (cond y [] (peak t ∷ [])) os → Nodes (cond y (siblings c t) []) is
        → Holds h (cond y (pinned_tree h b w c X t is) (outside_plan h b w (peak t) (next h os)))) (tree_meets c t)
        (λ _ x y. u y)
        (λ _ x y. holds_given (meets w (peak t)) (next h os) (pin_plan h b (peak t)) (pin_plan_holds (peak t)) x.0)
    rebuilt_pinned (folding place l r) os is =
        let u = rebuilt_pinned l os is in let v = rebuilt_pinned r (drop (length (outside_parts c l)) os) (drop (length (path_siblings c l)) is) in
        by_test (λ y. Parts (cond y (outside_parts c l ++ outside_parts c r) (folding place l r ∷ [])) os → Nodes (cond y (path_siblings c l ++ path_siblings c r) []) is
        → Holds h (cond y (computed place (pinned_claim h b w c X l os is)
        (pinned_claim h b w c X r (drop (length (outside_parts c l)) os) (drop (length (path_siblings c l)) is)))
        (outside_plan h b w (folding place l r) (next h os)))) (meets c l || meets c r)
        (λ _ x y. let a = rebuilt_split h (meets w) (rebuilt_part h b) (outside_parts c l) (outside_parts c r) os x in let z =
        rebuilt_split h (tree_meets w) (rebuilt_node h b) (path_siblings c l) (path_siblings c r) is y in (u a.0 z.0, v a.1 z.1))
        (λ _ x y. holds_given (meets w (folding place l r)) (next h os) (pin_plan h b (folding place l r)) (pin_plan_holds (folding place l r)) x.0)

-- ---- the check
module _ {D : Type 0} (s : Scheme D) (r : RangeInput D) (pins : List D) (root : D) where
  same_root : (f g : Plan → Expression D) (o : Option Plan) (p : Plan) → o ≡ Some p → value s.hashing (f p) ≡ value s.hashing (g p)
      → root_of s r.leaves r.inactive (option_map f o) ≡ root_of s r.leaves r.inactive (option_map g o)
  same_root f g o p e v = subst (λ z. root_of s r.leaves r.inactive (option_map f z) ≡ root_of s r.leaves r.inactive (option_map g z)) (sym e)
      (ap (λ d. s.hashing.hash (root_string s.hashing s.domain s.bagging r.leaves r.inactive (Some d))) v)

  abbrev ts : List Tree
  ts = peaks_of s.rule r.leaves

  abbrev before : ℕ → Bool
  before = in_range 0 r.start

  abbrev given_parts : List Plan
  given_parts = range_parts s.bagging r.inactive r.start (end_of r) ts

  abbrev given_nodes : List Tree
  given_nodes = range_siblings r.start (end_of r) ts

  abbrev b : ℕ → Option D
  b = pin_at s r.start pins

  abbrev claimed : Plan → Expression D
  claimed p = claim_of s.hashing (chosen r) (leaf_given s.hashing r) p r.digests

  abbrev AtPlan : Plan → Type 0
  AtPlan p = (root_plan s.bagging r.inactive ts ≡ Some p) × (outside_parts (chosen r) p ≡ given_parts) × (path_siblings (chosen r) p ≡ given_nodes)

  plan_is : 0 < length r.elements → end_of r ≤ r.leaves → (p : Plan) × AtPlan p
  plan_is some within =
      let pos : 0 < r.leaves = omega (arith, some, within) in
      let p = plan_for s r.leaves r.inactive pos in
      let lay = subst (HasLayout (chosen r) given_parts given_nodes) p.1 (range_layout s r.leaves r.inactive r.start (end_of r) (omega (arith, some)) within) in
      (p.0, (p.1, lay.0, lay.1))

  abbrev AreRebuilt : List Plan → List Tree → Type 0
  AreRebuilt ps us = AllRebuilt s.hashing (meets before) (rebuilt_part s.hashing b) ps r.digests × AllRebuilt s.hashing (tree_meets before) (rebuilt_node s.hashing b) us (drop (length ps) r.digests)

  moved : (ps qs : List Plan) (us vs : List Tree) → ps ≡ qs → us ≡ vs → AreRebuilt ps us → AreRebuilt qs vs
  moved ps qs us vs e f x = subst (λ z. AreRebuilt z vs) e (subst (λ z. AreRebuilt ps z) f x)

  accepted_rebuilt : AcceptsPinnedSome s r pins root → AcceptsNonempty s r root × IsRebuilt s r pins
  accepted_rebuilt ok =
      let p = plan_is ok.nonempty ok.within in
      let holds : Holds s.hashing (pinned_on s r pins p.0) = subst (λ o. AllHolds s (option_map (pinned_on s r pins) o)) p.1.0 ok.rebuilt in
      let z = pinned_rebuilt s.hashing b before (chosen r) (leaf_given s.hashing r) p.0 r.digests (drop (length (outside_parts (chosen r) p.0)) r.digests) holds in
      let m = moved (outside_parts (chosen r) p.0) given_parts (path_siblings (chosen r) p.0) given_nodes p.1.1 p.1.2 (z.0, z.1) in (
        record {
          nonempty = ok.nonempty;
          within = ok.within;
          leaves = ok.leaves;
          inactive = ok.inactive;
          counts = ok.counts ∙ digest_count_is s r;
          root_is = same_root claimed (pinned_on s r pins) (root_plan s.bagging r.inactive ts) p.0 p.1.0 (sym z.2) ∙ ok.root_is;
        },
        record { pinned = ok.pinned; parts = m.0; nodes = m.1 },
      )

  rebuilt_accepted : AcceptsNonempty s r root → IsRebuilt s r pins → AcceptsPinnedSome s r pins root
  rebuilt_accepted ok v =
      let p = plan_is ok.nonempty ok.within in
      let m = moved given_parts (outside_parts (chosen r) p.0) given_nodes (path_siblings (chosen r) p.0) (sym p.1.1) (sym p.1.2) (v.parts, v.nodes) in
      let holds : Holds s.hashing (pinned_on s r pins p.0) =
      rebuilt_pinned s.hashing b before (chosen r) (leaf_given s.hashing r) p.0 r.digests (drop (length (outside_parts (chosen r) p.0)) r.digests) m.0 m.1 in
      let z = pinned_rebuilt s.hashing b before (chosen r) (leaf_given s.hashing r) p.0 r.digests (drop (length (outside_parts (chosen r) p.0)) r.digests) holds in
      record {
        nonempty = ok.nonempty;
        within = ok.within;
        leaves = ok.leaves;
        inactive = ok.inactive;
        counts = ok.counts ∙ sym (digest_count_is s r);
        pinned = v.pinned;
        rebuilt = subst (λ o. AllHolds s (option_map (pinned_on s r pins) o)) (sym p.1.0) holds;
        root_is = same_root (pinned_on s r pins) claimed (root_plan s.bagging r.inactive ts) p.0 p.1.0 z.2 ∙ ok.root_is;
      }

  -- what the range check accepts, where the digests that are given beside rebuilt ones are those
  pub held_accepted : AcceptsNonempty s r root → length pins ≡ length (peaks_of s.rule r.start) → AllHolds s (pinned_expression s r pins) → AcceptsPinnedSome s r pins root
  held_accepted ok count held =
      let p = plan_is ok.nonempty ok.within in
      let holds : Holds s.hashing (pinned_on s r pins p.0) = subst (λ o. AllHolds s (option_map (pinned_on s r pins) o)) p.1.0 held in
      let z = pinned_rebuilt s.hashing b before (chosen r) (leaf_given s.hashing r) p.0 r.digests (drop (length (outside_parts (chosen r) p.0)) r.digests) holds in
      record {
        nonempty = ok.nonempty;
        within = ok.within;
        leaves = ok.leaves;
        inactive = ok.inactive;
        counts = ok.counts ∙ sym (digest_count_is s r);
        pinned = count;
        rebuilt = held;
        root_is = same_root (pinned_on s r pins) claimed (root_plan s.bagging r.inactive ts) p.0 p.1.0 z.2 ∙ ok.root_is;
      }

pub pinned_is_rebuilt : {D : Type 0} → PinnedIsRebuilt D
pinned_is_rebuilt s r pins root = (accepted_rebuilt s r pins root, λ x. rebuilt_accepted s r pins root x.0 x.1)

-- ---- the root over the pins
module _ {D : Type 0} (s : Scheme D) (xs : List D) (start : ℕ) (pins : List D) (j : ℕ) where
  old_root : start ≤ length xs → pins ≡ honest_pins s xs start → peaks_root s start j j pins ≡ list_root s (take start xs) j
  old_root within e = ap (peaks_root s start j j) e ∙ ap (λ n. peaks_root s n j j (honest_pins s xs start)) (sym (length-take-le start xs within))

pub pins_give_old_root : {D : Type 0} → PinsGiveOldRoot D
pins_give_old_root s xs k r pins w j = old_root s xs r.start pins j (omega (arith, w.0.0)) w.1
