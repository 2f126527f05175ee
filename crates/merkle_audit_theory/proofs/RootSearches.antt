-- The search of two lists of inputs, each of them for one root.
use Rattle.std.proofs.Common.{◌≡◌, ◌≢◌, ℕ, ◌≤◌, ◌<◌, ◌^◌, Bool, true, false, not, cond, List, [], ◌∷◌, ◌++◌, flat_map, get_or, ◌+◌, ◌-◌, length, inl, inr, refl}
use Rattle.std.proofs.Common.{ap, ap₂, sym, ◌∙◌, subst, ⊎_elim, arith, bytes_eq, Option, Some, None, option_map, Ok}
use Rattle.std.proofs.lemmas.Slice.Eq.{bytes_eq-Decides}
use Rattle.merkle_base.specs.Hashing.{Hashing}
use Rattle.merkle_base.specs.Places.{peaks_of}
use Rattle.merkle_base.specs.Root.{list_root}
use Rattle.merkle_base.specs.Scheme.{Scheme}
use Rattle.merkle_base.specs.Tree.{Tree}
use Rattle.merkle_base.specs.declared.family.Bagging.{Bagging}
use Rattle.merkle_base.specs.declared.family.Bagging.TheVariants.{ForwardFold, BackwardFold}
use Rattle.merkle_base.proofs.Lists.{cons_head}
use Rattle.merkle_root_theory.specs.Check.{string_of, all_inputs, RangeInput, in_range, range_expression, range_inputs}
use Rattle.merkle_root_theory.specs.Claim.{claim_of}
use Rattle.merkle_root_theory.specs.Collision.{Collision}
use Rattle.merkle_root_theory.specs.Expression.{Root, Argument, Bytes, Input, Expression, value}
use Rattle.merkle_root_theory.specs.Plan.{Plan, root_plan, plan_expression}
use Rattle.merkle_root_theory.specs.Range.{leaf_of, list_inputs, IsLawfulScheme, Accepts}
use Rattle.merkle_root_theory.specs.Reconstruction.{reconstructed}
use Rattle.merkle_root_theory.specs.RootString.{ByteLaws, SameFolded}
use Rattle.merkle_root_theory.proofs.Collisions.{decided}
use Rattle.merkle_root_theory.proofs.RangeChecks.{small_leaves, small_inactive}
use Rattle.merkle_root_theory.proofs.Reconstruction.{leads_is_accepted}
use Rattle.merkle_root_theory.proofs.RootStrings.{tells_all}
use Rattle.merkle_claim_theory.specs.FirstCollision.{or_else, first_collision}
use Rattle.merkle_claim_theory.specs.Multiproof.{MultiInput, multi_on, multi_expression, AcceptsMulti}
use Rattle.merkle_claim_theory.specs.Order.{node_places}
use Rattle.merkle_claim_theory.specs.Pinned.{pinned_on, pinned_expression, AcceptsPinned}
use Rattle.merkle_claim_theory.specs.Verdict.{multi_inputs, pinned_inputs}
use Rattle.merkle_audit_theory.specs.Cuts.{IsSublist, places_in, peak_places, full_places}
use Rattle.merkle_audit_theory.specs.Differences.{is_difference, difference_for, first_difference}
use Rattle.merkle_audit_theory.specs.Searches.{input_at, looked_up}
use Rattle.merkle_audit_theory.specs.Tiers.{AreOfTier}
use Rattle.merkle_audit_theory.proofs.AcceptedDifferences.{differences_collide}
use Rattle.merkle_audit_theory.proofs.ClaimCuts.{claim_places}
use Rattle.merkle_audit_theory.proofs.SublistFacts.{sub_all}
use Rattle.merkle_audit_theory.proofs.TieredInputs.{searched}

one_string : {D : Type 0} (a b : List ℕ) → ◌≡◌ {A = Argument D} (Bytes a) (Bytes b) → a ≡ b
one_string a b e = cc

-- ---- one string, one leaf count, one order
module _ {D : Type 0} (s : Scheme D) where
  at_plans : (n k k' : ℕ) (ts : List Tree) (E E' : Plan → Expression D)
      → SameFolded k (option_map (value s.hashing) (option_map E (root_plan s.bagging k ts))) k' (option_map (value s.hashing) (option_map E' (root_plan s.bagging k' ts)))
      → peak_places s k ts ≡ peak_places s k' ts
  at_plans n k k' [] E E' w = refl
  at_plans n k k' (t ∷ ts) E E' w = ap (λ i. peak_places s i (t ∷ ts)) (both s.bagging w)
    where
      both : (b : Bagging) → SameFolded k (option_map (value s.hashing) (option_map E (root_plan b k (t ∷ ts)))) k' (option_map (value s.hashing) (option_map E' (root_plan b k' (t ∷ ts)))) → k ≡ k'
      both ForwardFold w = w.0
      both BackwardFold w = w.0

  module _ (size : ℕ) (bytes : ByteLaws s.hashing size) (n n' k k' : ℕ) (a : n < 2 ^ 64) (a' : n' < 2 ^ 64) (b : k < 2 ^ 64) (b' : k' < 2 ^ 64) (E E' : Plan → Expression D) where
    pub one_order : string_of s n k (option_map E (root_plan s.bagging k (peaks_of s.rule n))) ≡ string_of s n' k' (option_map E' (root_plan s.bagging k' (peaks_of s.rule n')))
        → (n ≡ n') × (full_places s n k ≡ full_places s n' k')
    one_order q =
        let w = tells_all s.hashing size bytes s.domain s.domain s.bagging s.bagging n n' k k' _ _ a a' b b' q in
        let same : n ≡ n' = w.2 in
        let folded = subst (λ m. SameFolded k (option_map (value s.hashing) (option_map E (root_plan s.bagging k (peaks_of s.rule m)))) k'
        (option_map (value s.hashing) (option_map E' (root_plan s.bagging k' (peaks_of s.rule n'))))) same w.3 in
        (same, ap (λ m. full_places s m k) same ∙ ap (λ l. Root ∷ l) (at_plans n' k k' (peaks_of s.rule n') E E' folded))

-- ---- the answer of a search in parts
module _ {D : Type 0} (h : Hashing D) (p q : List ℕ) where
  abbrev x : Input D
  x = record { place = Root; argument = Bytes p }

  abbrev y : Input D
  y = record { place = Root; argument = Bytes q }

  equal_strings : p ≡ q → bytes_eq p q ≡ true
  equal_strings e = (bytes_eq-Decides p q).1 e

  other_strings : p ≢ q → bytes_eq p q ≡ false
  other_strings n = at_test (bytes_eq p q) refl
    where
      at_test : (b : Bool) → bytes_eq p q ≡ b → b ≡ false
      at_test true e = absurd (n ((bytes_eq-Decides p q).0 e))
      at_test false e = refl

  none_at_root : p ≡ q → difference_for h (x ∷ []) y ≡ None
  none_at_root e = ap (λ b. cond (not b) (Some (record { place = Root; claimed = Bytes p; listed = Bytes q })) None) (equal_strings e)

  first_at_root : (xs ys : List (Input D)) → p ≢ q → first_difference h (x ∷ xs) (y ∷ ys) ≡ Some (record { place = Root; claimed = Bytes p; listed = Bytes q })
  first_at_root xs ys n = ap (λ b. or_else
      (cond (not b) (Some (record { place = Root; claimed = Bytes p; listed = Bytes q })) (difference_for h xs y)) (first_difference h (x ∷ xs) ys)) (other_strings n)

module _ {D : Type 0} (s : Scheme D) (n n' k k' : ℕ) (xs ys : List (Input D)) (p q : List ℕ) (fx nx fy ny : List (Input D))
    (left : xs ≡ record { place = Root; argument = Bytes p } ∷ fx ++ nx) (right : ys ≡ record { place = Root; argument = Bytes q } ∷ fy ++ ny)
    (tfx : AreOfTier 1 fx) (tnx : AreOfTier 2 nx) (tfy : AreOfTier 1 fy) (tny : AreOfTier 2 ny)
    (sx : IsSublist (places_in xs) (full_places s n k)) (sy : IsSublist (places_in ys) (full_places s n' k'))
    (one : p ≡ q → full_places s n k ≡ full_places s n' k') (o : Option (Collision D)) where
  parted_search : (p ≢ q → o ≡ Some (record { place = Root; claimed = Bytes p; listed = Bytes q }))
      → (p ≡ q → o ≡ or_else (first_difference s.hashing fx fy) (looked_up (is_difference s.hashing) (flat_map node_places (peaks_of s.rule n')) (input_at xs) (input_at ys)))
      → o ≡ first_difference s.hashing xs ys
  parted_search apart same = ⊎_elim equal other (decided _ (bytes_eq-Decides p q))
    where
      other : p ≢ q → o ≡ first_difference s.hashing xs ys
      other d = apart d ∙ sym (ap₂ (first_difference s.hashing) left right ∙ first_at_root s.hashing p q (fx ++ nx) (fy ++ ny) d)

      equal : p ≡ q → o ≡ first_difference s.hashing xs ys
      equal e =
          let found = λ (us vs : List (Input D)). or_else (first_difference s.hashing fx fy)
          (looked_up (is_difference s.hashing) (flat_map node_places (peaks_of s.rule n')) (input_at us) (input_at vs)) in
          let vx = subst (λ zs. IsSublist (places_in zs) (full_places s n' k')) left (subst (IsSublist (places_in xs)) (one e) sx) in
          let vy = subst (λ zs. IsSublist (places_in zs) (full_places s n' k')) right sy in
          same e ∙ ap₂ found left right
          ∙ sym (ap₂ (first_difference s.hashing) left right
          ∙ searched s n' k' (record { place = Root; argument = Bytes p }) (record { place = Root; argument = Bytes q }) fx nx fy ny refl refl tfx tnx tfy tny vx vy
          ∙ ap (λ z. or_else z (found (record { place = Root; argument = Bytes p } ∷ fx ++ nx) (record { place = Root; argument = Bytes q } ∷ fy ++ ny))) (none_at_root s.hashing p q e))

-- ---- accepted inputs
module _ {D : Type 0} (s : Scheme D) (size max_nodes : ℕ) (sound : IsLawfulScheme s size max_nodes) where
  small_counts : (r : RangeInput D) (root : D) → Accepts s r root → (r.leaves < 2 ^ 64) × (r.inactive < 2 ^ 64)
  small_counts r root (inl w) = (small_leaves s max_nodes r.leaves sound.lawful w.leaves, small_inactive s max_nodes r.leaves r.inactive sound.lawful w.leaves w.inactive)
  small_counts r root (inr w) = (omega (arith, w.0.leaves), omega (arith, w.0.inactive))

  abbrev claimed : RangeInput D → Plan → Expression D
  claimed r p = claim_of s.hashing (in_range r.start (r.start + length r.elements)) (λ i. get_or r.elements (i - r.start) s.hashing.empty) p r.digests

  head_string : (e : Option (Expression D)) (n k : ℕ) (p : List ℕ) (zs : List (Input D)) → all_inputs s n k e ≡ record { place = Root; argument = Bytes p } ∷ zs → string_of s n k e ≡ p
  head_string e n k p zs q = one_string _ _ (ap (λ (i : Input D). i.argument) (cons_head _ _ _ _ q))

  -- a range input against a list, of which o is the answer of a search
  module _ (X : List D) (k : ℕ) (few : length X ≤ s.max_leaves) (low : k ≤ length (peaks_of s.rule (length X))) (r : RangeInput D) (ok : reconstructed s r ≡ Ok (list_root s X k))
      (p q : List ℕ) (fx nx fy ny : List (Input D))
      (left : range_inputs s r ≡ record { place = Root; argument = Bytes p } ∷ fx ++ nx) (right : list_inputs s X k ≡ record { place = Root; argument = Bytes q } ∷ fy ++ ny)
      (tfx : AreOfTier 1 fx) (tnx : AreOfTier 2 nx) (tfy : AreOfTier 1 fy) (tny : AreOfTier 2 ny) (o : Option (Collision D)) where
    pub range_searched : (p ≢ q → o ≡ Some (record { place = Root; claimed = Bytes p; listed = Bytes q }))
        → (p ≡ q → r.leaves ≡ length X
        → o ≡ or_else (first_difference s.hashing fx fy)
        (looked_up (is_difference s.hashing) (flat_map node_places (peaks_of s.rule (length X))) (input_at (range_inputs s r)) (input_at (list_inputs s X k))))
        → o ≡ first_collision s.hashing (range_inputs s r) (list_inputs s X k)
    range_searched apart same =
        let c = small_counts r (list_root s X k) ((leads_is_accepted s r (list_root s X k)).0 ok) in
        let order : p ≡ q → (r.leaves ≡ length X) × (full_places s r.leaves r.inactive ≡ full_places s (length X) k) = λ e.
        one_order s size sound.bytes r.leaves (length X) r.inactive k c.0 (small_leaves s max_nodes (length X) sound.lawful few) c.1 (small_inactive s max_nodes (length X) k sound.lawful few low)
        (claimed r) (plan_expression (leaf_of s.hashing X))
        (head_string (range_expression s r) r.leaves r.inactive p (fx ++ nx) left ∙ e
        ∙ sym (head_string (option_map (plan_expression (leaf_of s.hashing X)) (root_plan s.bagging k (peaks_of s.rule (length X)))) (length X) k
        q (fy ++ ny) right)) in
        parted_search s r.leaves (length X) r.inactive k (range_inputs s r) (list_inputs s X k) p q fx nx fy ny left right tfx tnx tfy tny
        (claim_places.range s r) (subst (λ ps. IsSublist ps (full_places s (length X) k)) (sym (claim_places.listed s X k)) (sub_all (full_places s (length X) k)))
        (λ e. (order e).1) o apart (λ e. same e (order e).0)
        ∙ differences_collide.range s size max_nodes sound X k few low r ok

  -- two range inputs against one root
  module _ (root : D) (r t : RangeInput D) (ok : reconstructed s r ≡ Ok root) (ok' : reconstructed s t ≡ Ok root)
      (p q : List ℕ) (fx nx fy ny : List (Input D))
      (left : range_inputs s r ≡ record { place = Root; argument = Bytes p } ∷ fx ++ nx) (right : range_inputs s t ≡ record { place = Root; argument = Bytes q } ∷ fy ++ ny)
      (tfx : AreOfTier 1 fx) (tnx : AreOfTier 2 nx) (tfy : AreOfTier 1 fy) (tny : AreOfTier 2 ny) (o : Option (Collision D)) where
    pub pair_searched : (p ≢ q → o ≡ Some (record { place = Root; claimed = Bytes p; listed = Bytes q }))
        → (p ≡ q → r.leaves ≡ t.leaves
        → o ≡ or_else (first_difference s.hashing fx fy)
        (looked_up (is_difference s.hashing) (flat_map node_places (peaks_of s.rule t.leaves)) (input_at (range_inputs s r)) (input_at (range_inputs s t))))
        → o ≡ first_collision s.hashing (range_inputs s r) (range_inputs s t)
    pair_searched apart same =
        let c = small_counts r root ((leads_is_accepted s r root).0 ok) in
        let d = small_counts t root ((leads_is_accepted s t root).0 ok') in
        let order : p ≡ q → (r.leaves ≡ t.leaves) × (full_places s r.leaves r.inactive ≡ full_places s t.leaves t.inactive) = λ e.
        one_order s size sound.bytes r.leaves t.leaves r.inactive t.inactive c.0 d.0 c.1 d.1 (claimed r) (claimed t)
        (head_string (range_expression s r) r.leaves r.inactive p (fx ++ nx) left ∙ e ∙ sym (head_string (range_expression s t) t.leaves t.inactive q (fy ++ ny) right)) in
        parted_search s r.leaves t.leaves r.inactive t.inactive (range_inputs s r) (range_inputs s t) p q fx nx fy ny left right tfx tnx tfy tny
        (claim_places.range s r) (claim_places.range s t) (λ e. (order e).1) o apart (λ e. same e (order e).0)
        ∙ differences_collide.pair s size max_nodes sound root r t ok ok'

  -- scattered leaves against a list
  module _ (X : List D) (k : ℕ) (few : length X ≤ s.max_leaves) (low : k ≤ length (peaks_of s.rule (length X))) (r : MultiInput D) (ok : AcceptsMulti s r (list_root s X k))
      (p q : List ℕ) (fx nx fy ny : List (Input D))
      (left : multi_inputs s r ≡ record { place = Root; argument = Bytes p } ∷ fx ++ nx) (right : list_inputs s X k ≡ record { place = Root; argument = Bytes q } ∷ fy ++ ny)
      (tfx : AreOfTier 1 fx) (tnx : AreOfTier 2 nx) (tfy : AreOfTier 1 fy) (tny : AreOfTier 2 ny) (o : Option (Collision D)) where
    pub multi_searched : (p ≢ q → o ≡ Some (record { place = Root; claimed = Bytes p; listed = Bytes q }))
        → (p ≡ q → r.leaves ≡ length X
        → o ≡ or_else (first_difference s.hashing fx fy)
        (looked_up (is_difference s.hashing) (flat_map node_places (peaks_of s.rule (length X))) (input_at (multi_inputs s r)) (input_at (list_inputs s X k))))
        → o ≡ first_collision s.hashing (multi_inputs s r) (list_inputs s X k)
    multi_searched apart same =
        let order : p ≡ q → (r.leaves ≡ length X) × (full_places s r.leaves r.inactive ≡ full_places s (length X) k) = λ e.
        one_order s size sound.bytes r.leaves (length X) r.inactive k (small_leaves s max_nodes r.leaves sound.lawful ok.leaves) (small_leaves s max_nodes (length X) sound.lawful few)
        (small_inactive s max_nodes r.leaves r.inactive sound.lawful ok.leaves ok.inactive) (small_inactive s max_nodes (length X) k sound.lawful few low)
        (multi_on s r) (plan_expression (leaf_of s.hashing X))
        (head_string (multi_expression s r) r.leaves r.inactive p (fx ++ nx) left ∙ e
        ∙ sym (head_string (option_map (plan_expression (leaf_of s.hashing X)) (root_plan s.bagging k (peaks_of s.rule (length X)))) (length X) k
        q (fy ++ ny) right)) in
        parted_search s r.leaves (length X) r.inactive k (multi_inputs s r) (list_inputs s X k) p q fx nx fy ny left right tfx tnx tfy tny
        (claim_places.multi s r) (subst (λ ps. IsSublist ps (full_places s (length X) k)) (sym (claim_places.listed s X k)) (sub_all (full_places s (length X) k)))
        (λ e. (order e).1) o apart (λ e. same e (order e).0)
        ∙ differences_collide.multi s size max_nodes sound X k few low r ok

  -- a range input with pins against a list
  module _ (X : List D) (k : ℕ) (few : length X ≤ s.max_leaves) (low : k ≤ length (peaks_of s.rule (length X))) (r : RangeInput D) (pins : List D) (ok : AcceptsPinned s r pins (list_root s X k))
      (p q : List ℕ) (fx nx fy ny : List (Input D))
      (left : pinned_inputs s r pins ≡ record { place = Root; argument = Bytes p } ∷ fx ++ nx) (right : list_inputs s X k ≡ record { place = Root; argument = Bytes q } ∷ fy ++ ny)
      (tfx : AreOfTier 1 fx) (tnx : AreOfTier 2 nx) (tfy : AreOfTier 1 fy) (tny : AreOfTier 2 ny) (o : Option (Collision D)) where
    pub pinned_searched : (p ≢ q → o ≡ Some (record { place = Root; claimed = Bytes p; listed = Bytes q }))
        → (p ≡ q → r.leaves ≡ length X
        → o ≡ or_else (first_difference s.hashing fx fy)
        (looked_up (is_difference s.hashing) (flat_map node_places (peaks_of s.rule (length X))) (input_at (pinned_inputs s r pins)) (input_at (list_inputs s X k))))
        → o ≡ first_collision s.hashing (pinned_inputs s r pins) (list_inputs s X k)
    pinned_searched apart same =
        let c = small_counts r (list_root s X k) ((leads_is_accepted s r (list_root s X k)).0 ok.0) in
        let order : p ≡ q → (r.leaves ≡ length X) × (full_places s r.leaves r.inactive ≡ full_places s (length X) k) = λ e.
        one_order s size sound.bytes r.leaves (length X) r.inactive k c.0 (small_leaves s max_nodes (length X) sound.lawful few) c.1 (small_inactive s max_nodes (length X) k sound.lawful few low)
        (pinned_on s r pins) (plan_expression (leaf_of s.hashing X))
        (head_string (pinned_expression s r pins) r.leaves r.inactive p (fx ++ nx) left ∙ e
        ∙ sym (head_string (option_map (plan_expression (leaf_of s.hashing X)) (root_plan s.bagging k (peaks_of s.rule (length X)))) (length X) k
        q (fy ++ ny) right)) in
        parted_search s r.leaves (length X) r.inactive k (pinned_inputs s r pins) (list_inputs s X k) p q fx nx fy ny left right tfx tnx tfy tny
        (claim_places.pinned s r pins) (subst (λ ps. IsSublist ps (full_places s (length X) k)) (sym (claim_places.listed s X k)) (sub_all (full_places s (length X) k)))
        (λ e. (order e).1) o apart (λ e. same e (order e).0)
        ∙ differences_collide.pinned s size max_nodes sound X k few low r pins ok
