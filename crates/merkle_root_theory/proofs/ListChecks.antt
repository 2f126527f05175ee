-- A check against a root: the root's string first, and then the expressions below it.
use Rattle.std.proofs.Common.{◌≡◌, ℕ, suc, zero, pred, true, ◌&&◌, nat_le, nat_lt, ◌+◌, ◌-◌, ◌≤◌, ◌<◌, ◌^◌, List, [], ◌∷◌, ◌⊎◌, inl, inr, refl, ap, ap₂, sym}
use Rattle.std.proofs.Common.{◌∙◌, subst, ⊎_elim, arith, length, map, drop, take, Option, Some, None, option_map, le-leb, lt-ltb, length-append, add-sub_of_le}
use Rattle.std.proofs.Common.{leb-true, ltb-true}
use Rattle.std.proofs.lemmas.Slice.Eq.{bytes_eq-Decides}
use Rattle.std.proofs.lemmas.List.{length-map}
use Rattle.std.proofs.Math.Nat.{add-sub_cancel_left}
use Rattle.std.proofs.lemmas.Bool.{and_parts}
use Rattle.merkle_base.specs.Hashing.{EqDecides}
use Rattle.merkle_root_theory.specs.Expression.{Root, Bytes, Expression, value}
use Rattle.merkle_root_theory.specs.Collision.{Member, Collision, Collides}
use Rattle.merkle_root_theory.specs.RootString.{ByteLaws, SameFolded}
use Rattle.merkle_base.specs.Root.{root_string}
use Rattle.merkle_base.specs.Tree.{Tree}
use Rattle.merkle_root_theory.specs.Plan.{Plan, peak, left_fold_plan, right_fold_plan, with_right_fold_plan, root_plan, plan_expression, outside_parts, path_siblings, plan_digest, tree_digest}
use Rattle.merkle_base.specs.declared.family.Bagging.{Bagging}
use Rattle.merkle_base.specs.declared.family.Bagging.TheVariants.{ForwardFold, BackwardFold}
use Rattle.merkle_root_theory.specs.Claim.{claim_of, InTree, InPlan}
use Rattle.merkle_root_theory.specs.Check.{string_of, root_of, inputs_of, all_inputs, list_expression, RangeInput, chosen, leaf_given, range_expression}
use Rattle.merkle_root_theory.specs.Check.{HasDigestCount, HasHonestDigests, IsHonestByPlan, CoversEachLeaf, PlanCheckSound, SharesLeaves, PairConsistent}
use Rattle.merkle_root_theory.specs.Check.{HonestRangeAccepted}
use Rattle.merkle_base.specs.Scheme.{Scheme}
use Rattle.merkle_base.specs.Places.{peaks_of}
use Rattle.merkle_root_theory.proofs.Collisions.{decided}
use Rattle.merkle_root_theory.proofs.RootStrings.{tells_all}
use Rattle.merkle_root_theory.proofs.Claims.{nothing_else, pair_agrees, honest_accepted}

-- every peak's locations are the plan's
left_fold_keeps : (acc : Plan) (i : ℕ) (ts : List Tree) (j : ℕ) → InPlan acc j → InPlan (left_fold_plan acc i ts) j
left_fold_keeps acc i [] j m = m
left_fold_keeps acc i (t ∷ ts) j m = left_fold_keeps _ (suc i) ts j (inl m)

left_fold_has : (acc : Plan) (i : ℕ) (ts : List Tree) (t : Tree) (j : ℕ) → Member ts t → InTree t j → InPlan (left_fold_plan acc i ts) j
left_fold_has acc i [] t j m n = elim m [ ]
left_fold_has acc i (u ∷ ts) t j (inl e) n = left_fold_keeps _ (suc i) ts j (inr (subst (λ v. InTree v j) (sym e) n))
left_fold_has acc i (u ∷ ts) t j (inr m) n = left_fold_has _ (suc i) ts t j m n

right_fold_has : (i : ℕ) (u : Tree) (ts : List Tree) (t : Tree) (j : ℕ) → Member (u ∷ ts) t → InTree t j → InPlan (right_fold_plan i u ts) j
right_fold_has i u [] t j (inl e) n = subst (λ v. InTree v j) (sym e) n
right_fold_has i u [] t j (inr m) n = elim m [ ]
right_fold_has i u (v ∷ ts) t j (inl e) n = inl (subst (λ v. InTree v j) (sym e) n)
right_fold_has i u (v ∷ ts) t j (inr m) n = inr (right_fold_has (suc i) v ts t j m n)

join_right_fold_keeps : (acc : Plan) (i : ℕ) (ts : List Tree) (j : ℕ) → InPlan acc j → InPlan (with_right_fold_plan acc i ts) j
join_right_fold_keeps acc i [] j m = m
join_right_fold_keeps acc i (t ∷ ts) j m = inl m

join_right_fold_has : (acc : Plan) (i : ℕ) (ts : List Tree) (t : Tree) (j : ℕ) → Member ts t → InTree t j → InPlan (with_right_fold_plan acc i ts) j
join_right_fold_has acc i [] t j m n = elim m [ ]
join_right_fold_has acc i (u ∷ ts) t j m n = inr (right_fold_has i u ts t j m n)

member_cut : (n : ℕ) (ts : List Tree) (t : Tree) → Member ts t → Member (take n ts) t ⊎ Member (drop n ts) t
member_cut zero ts t m = inr m
member_cut (suc n) [] t m = elim m [ ]
member_cut (suc n) (u ∷ ts) t (inl e) = inl (inl e)
member_cut (suc n) (u ∷ ts) t (inr m) = ⊎_elim (λ w. inl (inr w)) inr (member_cut n ts t m)

InWhole : Option Plan → ℕ → Type 0
InWhole None j = ⊥
InWhole (Some p) j = InPlan p j

whole_has : (b : Bagging) (k : ℕ) (ts : List Tree) (t : Tree) (j : ℕ) → Member ts t → InTree t j → InWhole (root_plan b k ts) j
unfolding InWhole
whole_has ForwardFold k [] t j m n = elim m [ ]
whole_has BackwardFold k [] t j m n = elim m [ ]
whole_has ForwardFold k (u ∷ ts) t j (inl e) n = left_fold_keeps (peak u) 1 ts j (subst (λ v. InTree v j) (sym e) n)
whole_has ForwardFold k (u ∷ ts) t j (inr m) n = left_fold_has (peak u) 1 ts t j m n
whole_has BackwardFold k (u ∷ ts) t j (inl e) n = join_right_fold_keeps _ _ (drop (pred k) ts) j (left_fold_keeps (peak u) 1 (take (pred k) ts) j (subst (λ v. InTree v j) (sym e) n))
whole_has BackwardFold k (u ∷ ts) t j (inr m) n =
    ⊎_elim (λ w. join_right_fold_keeps _ _ (drop (pred k) ts) j (left_fold_has (peak u) 1 (take (pred k) ts) t j w n))
    (λ w. join_right_fold_has _ _ (drop (pred k) ts) t j w n) (member_cut (pred k) ts t m)

-- one root has one leaf count, one inactive count and one folded digest, or its strings collide
module _ {D : Type 0} (s : Scheme D) (size : ℕ) (bytes : ByteLaws s.hashing size) (n n' k k' : ℕ) (e e' : Option (Expression D)) (a : n < 2 ^ 64)
    (a' : n' < 2 ^ 64) (b : k < 2 ^ 64) (b' : k' < 2 ^ 64) where
  pub root_tells : root_of s n k e ≡ root_of s n' k' e'
      → ((n ≡ n') × SameFolded k (option_map (value s.hashing) e) k' (option_map (value s.hashing) e')) ⊎ ((c : Collision D) × Collides s.hashing (all_inputs s n k e) (all_inputs s n' k' e') c)
  root_tells same = at_test (decided _ (bytes_eq-Decides (string_of s n k e) (string_of s n' k' e')))
    where
      at_test : (string_of s n k e ≡ string_of s n' k' e') ⊎ (string_of s n k e ≡ string_of s n' k' e' → ⊥)
          → ((n ≡ n') × SameFolded k (option_map (value s.hashing) e) k' (option_map (value s.hashing) e')) ⊎ ((c : Collision D) × Collides s.hashing (all_inputs s n k e) (all_inputs s n' k' e') c)
      at_test (inl q) = let w = tells_all s.hashing size bytes s.domain s.domain s.bagging s.bagging n n' k k' _ _ a a' b b' q in inl (w.2, w.3)
      at_test (inr q) = inr (
        record { place = Root; claimed = Bytes (string_of s n k e); listed = Bytes (string_of s n' k' e') },
        record { claimed = inl refl; listed = inl refl; differ = λ p. q cc; one_digest = same },
      )

same_inactive : {A D : Type 0} (f : A → D) (k k' : ℕ) (r : RangeInput D) (o : Option Plan) (g : Plan → A) (x : Option D) → HasDigestCount r o
    → SameFolded k (option_map f (option_map g o)) k' x → k ≡ k'
same_inactive f k k' r None g x c w = elim c [ ]
same_inactive f k k' r (Some p) g None c w = elim w [ ]
same_inactive f k k' r (Some p) g (Some y) c w = w.0

pub is_chosen : {D : Type 0} (r : RangeInput D) (i : ℕ) → r.start ≤ i → i < r.start + length r.elements → chosen r i ≡ true
is_chosen r i a b = ap₂ ◌&&◌ (le-leb r.start i a) (lt-ltb i (r.start + length r.elements) b)

in_whole : {D : Type 0} (s : Scheme D) → CoversEachLeaf (peaks_of s.rule) → (n k i : ℕ) → i < n → InWhole (root_plan s.bagging k (peaks_of s.rule n)) i
in_whole s covers n k i a = let w = covers n i a in whole_has s.bagging k (peaks_of s.rule n) w.0 i w.1 w.2

module _ {D : Type 0} (s : Scheme D) (laws : EqDecides s.hashing) where
  -- a collision below the root
  lifted : (n n' k k' : ℕ) (e e' : Option (Expression D))
      → ((c : Collision D) × Collides s.hashing (inputs_of s.hashing e) (inputs_of s.hashing e') c) → (c : Collision D)
      × Collides s.hashing (all_inputs s n k e) (all_inputs s n' k' e') c
  lifted n n' k k' e e' c = (c.0, record { claimed = inr c.1.claimed; listed = inr c.1.listed; differ = c.1.differ; one_digest = c.1.one_digest })

  claim_at : RangeInput D → Plan → Expression D
  claim_at r p = claim_of s.hashing (chosen r) (leaf_given s.hashing r) p r.digests

  module _ (X : ℕ → D) (r : RangeInput D) (k k' : ℕ) where
    Told : Option Plan → Type 0
    Told o = HasHonestDigests s X r o × ((i : ℕ) → InWhole o i → chosen r i ≡ true → leaf_given s.hashing r i ≡ X i)

    below_root : (o : Option Plan) → HasDigestCount r o → SameFolded k (option_map (value s.hashing) (option_map (claim_at r) o)) k' (option_map (value s.hashing) (option_map (plan_expression X) o))
        → Told o ⊎ ((c : Collision D) × Collides s.hashing (inputs_of s.hashing (option_map (claim_at r) o)) (inputs_of s.hashing (option_map (plan_expression X) o)) c)
    unfolding claim_at Told InWhole
    below_root None c w = elim c [ ]
    below_root (Some p) c w = nothing_else s.hashing laws (chosen r) X (leaf_given s.hashing r) p r.digests c w.1

  module _ (r q : RangeInput D) (k k' : ℕ) where
    pair_below_root : (o : Option Plan) → HasDigestCount r o → SameFolded k (option_map (value s.hashing) (option_map (claim_at r) o)) k' (option_map (value s.hashing) (option_map (claim_at q) o))
        → ((i : ℕ) → InWhole o i → chosen r i ≡ true → chosen q i ≡ true → leaf_given s.hashing r i ≡ leaf_given s.hashing q i)
        ⊎ ((c : Collision D) × Collides s.hashing (inputs_of s.hashing (option_map (claim_at r) o)) (inputs_of s.hashing (option_map (claim_at q) o)) c)
    unfolding claim_at InWhole
    pair_below_root None c w = elim c [ ]
    pair_below_root (Some p) c w = pair_agrees s.hashing laws (chosen r) (chosen q) (leaf_given s.hashing r) (leaf_given s.hashing q) p r.digests q.digests w.1

pub no_other_range : {D : Type 0} → PlanCheckSound D
unfolding claim_at Told
no_other_range {D = D} s size laws bytes covers X n k a b r ok =
    ⊎_elim same_string inr (root_tells s size bytes r.leaves n r.inactive k (range_expression s r) (list_expression s X n k) ok.leaves a ok.inactive b ok.root_is)
  where
    o : Option Plan
    o = root_plan s.bagging r.inactive (peaks_of s.rule r.leaves)

    o' : Option Plan
    o' = root_plan s.bagging k (peaks_of s.rule n)

    Answer : Type 0
    Answer = IsHonestByPlan s X n k r ⊎ ((c : Collision D) × Collides s.hashing (all_inputs s r.leaves r.inactive (range_expression s r)) (all_inputs s n k (list_expression s X n k)) c)

    honest : r.leaves ≡ n → r.inactive ≡ k → Told s laws X r r.inactive k o' → IsHonestByPlan s X n k r
    honest p q w = record {
      leaves = p;
      inactive = q;
      digests = w.0;
      elements = λ j m.
          let far : r.start + j < n = omega (arith, p, ok.within, m) in
          rw (add-sub_cancel_left r.start j) at (w.1 (r.start + j) (in_whole s covers n k (r.start + j) far) (is_chosen r (r.start + j) (omega arith) (omega arith)));
    }

    same_string : ((r.leaves ≡ n) × SameFolded r.inactive (option_map (value s.hashing) (range_expression s r)) k (option_map (value s.hashing) (list_expression s X n k))) → Answer
    same_string w =
        let q : r.inactive ≡ k = same_inactive (value s.hashing) r.inactive k r o (claim_at s laws r) _ ok.counts w.1 in
        let e : o ≡ o' = ap₂ (λ x y. root_plan s.bagging x (peaks_of s.rule y)) q w.0 in
        let v = subst (λ z. Told s laws X r r.inactive k z
        ⊎ ((c : Collision D) × Collides s.hashing (inputs_of s.hashing (range_expression s r)) (inputs_of s.hashing (option_map (plan_expression X) z)) c)) e
        (below_root s laws X r r.inactive k o ok.counts
        (subst (λ z. SameFolded r.inactive (option_map (value s.hashing) (range_expression s r)) k
        (option_map (value s.hashing) (option_map (plan_expression X) z))) (sym e) w.1)) in
        ⊎_elim (λ t. inl (honest w.0 q t)) (λ c. inr (lifted s laws r.leaves n r.inactive k (range_expression s r) (list_expression s X n k) c)) v

pub pair_consistent : {D : Type 0} → PairConsistent D
unfolding claim_at
pair_consistent {D = D} s size laws bytes covers root r q ok ok' =
    ⊎_elim same_string inr (root_tells s size bytes r.leaves q.leaves r.inactive q.inactive (range_expression s r) (range_expression s q) ok.leaves
    ok'.leaves ok.inactive ok'.inactive (ok.root_is ∙ sym ok'.root_is))
  where
    o : Option Plan
    o = root_plan s.bagging r.inactive (peaks_of s.rule r.leaves)

    o' : Option Plan
    o' = root_plan s.bagging q.inactive (peaks_of s.rule q.leaves)

    Answer : Type 0
    Answer = SharesLeaves s.hashing r q ⊎ ((c : Collision D) × Collides s.hashing (all_inputs s r.leaves r.inactive (range_expression s r)) (all_inputs s q.leaves q.inactive (range_expression s q)) c)

    Shared : Option Plan → Type 0
    Shared z = (i : ℕ) → InWhole z i → chosen r i ≡ true → chosen q i ≡ true → leaf_given s.hashing r i ≡ leaf_given s.hashing q i

    shares : r.leaves ≡ q.leaves → r.inactive ≡ q.inactive → Shared o' → SharesLeaves s.hashing r q
    shares p t w = (p, t, λ i a b c d. w i (in_whole s covers q.leaves q.inactive i (omega (arith, d, ok'.within))) (is_chosen r i a b) (is_chosen q i c d))

    same_string : ((r.leaves ≡ q.leaves) × SameFolded r.inactive (option_map (value s.hashing) (range_expression s r)) q.inactive (option_map (value s.hashing) (range_expression s q))) → Answer
    same_string w =
        let t : r.inactive ≡ q.inactive = same_inactive (value s.hashing) r.inactive q.inactive r o (claim_at s laws r) _ ok.counts w.1 in
        let e : o ≡ o' = ap₂ (λ x y. root_plan s.bagging x (peaks_of s.rule y)) t w.0 in
        let v = subst (λ z. Shared z ⊎ ((c : Collision D) × Collides s.hashing (inputs_of s.hashing (range_expression s r)) (inputs_of s.hashing (option_map (claim_at s laws q) z)) c)) e
        (pair_below_root s laws r q r.inactive q.inactive o ok.counts
        (subst (λ z. SameFolded r.inactive (option_map (value s.hashing) (range_expression s r)) q.inactive
        (option_map (value s.hashing) (option_map (claim_at s laws q) z))) (sym e) w.1)) in
        ⊎_elim (λ x. inl (shares w.0 t x)) (λ c. inr (lifted s laws r.leaves q.leaves r.inactive q.inactive (range_expression s r) (range_expression s q) c)) v

module _ {D : Type 0} (s : Scheme D) (X : ℕ → D) (r : RangeInput D) where
  honest_counts : (o : Option Plan) → HasHonestDigests s X r o → HasDigestCount r o
  honest_counts None w = w
  honest_counts (Some p) w = ap length w ∙ length-append (map (plan_digest s.hashing X) (outside_parts (chosen r) p)) _
      ∙ ap₂ ◌+◌ (length-map (outside_parts (chosen r) p) (plan_digest s.hashing X)) (length-map (path_siblings (chosen r) p) (tree_digest s.hashing X))

  pub honest_value : (o : Option Plan) → ((i : ℕ) → chosen r i ≡ true → leaf_given s.hashing r i ≡ X i) → HasHonestDigests s X r o
      → option_map (value s.hashing) (option_map (λ p. claim_of s.hashing (chosen r) (leaf_given s.hashing r) p r.digests) o) ≡ option_map (value s.hashing) (option_map (plan_expression X) o)
  honest_value None same w = elim w [ ]
  honest_value (Some p) same w =
      ap Some (ap (λ ds. value s.hashing (claim_of s.hashing (chosen r) (leaf_given s.hashing r) p ds)) w
      ∙ honest_accepted s.hashing (chosen r) X (leaf_given s.hashing r) p same)

pub was_chosen : {D : Type 0} (r : RangeInput D) (i : ℕ) → chosen r i ≡ true → (r.start ≤ i) × (i < r.start + length r.elements)
was_chosen r i e = let w = and_parts (nat_le r.start i) (nat_lt i (r.start + length r.elements)) e in (leb-true r.start i w.0, ltb-true i (r.start + length r.elements) w.1)

pub honest_range_accepted : {D : Type 0} → HonestRangeAccepted D
honest_range_accepted s X n k a b r within honest =
    let e : root_plan s.bagging k (peaks_of s.rule n) ≡ root_plan s.bagging r.inactive (peaks_of s.rule r.leaves) =
    ap₂ (λ x y. root_plan s.bagging x (peaks_of s.rule y)) (sym honest.inactive) (sym honest.leaves) in
    let w : HasHonestDigests s X r (root_plan s.bagging r.inactive (peaks_of s.rule r.leaves)) = subst (λ z. HasHonestDigests s X r z) e honest.digests in
    let same : (i : ℕ) → chosen r i ≡ true → leaf_given s.hashing r i ≡ X i = λ i q. let v = was_chosen r i q in
    honest.elements (i - r.start) (omega (arith, v.0, v.1)) ∙ ap X (add-sub_of_le v.0) in
    record {
      within = omega (arith, within, honest.leaves);
      leaves = omega (arith, a, honest.leaves);
      inactive = omega (arith, b, honest.inactive);
      counts = honest_counts s X r (root_plan s.bagging r.inactive (peaks_of s.rule r.leaves)) w;
      root_is = ap s.hashing.hash (ap (root_string s.hashing s.domain s.bagging r.leaves r.inactive) (honest_value s X r (root_plan s.bagging r.inactive (peaks_of s.rule r.leaves)) same w)
          ∙ ap (λ z. root_string s.hashing s.domain s.bagging r.leaves r.inactive (option_map (value s.hashing) (option_map (plan_expression X) z))) (sym e)
          ∙ ap₂ (λ x y. root_string s.hashing s.domain s.bagging x y (option_map (value s.hashing) (list_expression s X n k))) honest.leaves honest.inactive);
    }

-- an honest input is given the list's leaves
pub honest_leaf : {D : Type 0} (s : Scheme D) (X : ℕ → D) (n k : ℕ) (r : RangeInput D) → IsHonestByPlan s X n k r → (i : ℕ) → chosen r i ≡ true → leaf_given s.hashing r i ≡ X i
honest_leaf s X n k r honest i q =
    let v = was_chosen r i q in
    honest.elements (i - r.start) (omega (arith, v.0, v.1)) ∙ ap X (add-sub_of_le v.0)
