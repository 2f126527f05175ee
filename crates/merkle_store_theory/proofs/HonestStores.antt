-- What is read off an honest claim is honest.
use Rattle.std.proofs.Common.{◌≡◌, ℕ, Bool, true, cond, ◌||◌, ◌≤◌, ◌<◌, nat_le, nat_lt, List, [], ◌∷◌, ◌++◌, refl, ap, ap₂, sym, ◌∙◌, subst, arith, length, map}
use Rattle.std.proofs.Common.{drop, Some, append-nil, drop_at, leb-true, ltb-true, le-leb, lt-ltb}
use Rattle.std.proofs.lemmas.Bool.{and_from, and_parts}
use Rattle.std.proofs.lemmas.List.{map-append, length-map}
use Rattle.merkle_base.specs.Tree.{Tree, leaf, join}
use Rattle.merkle_base.specs.Hashing.{Hashing}
use Rattle.merkle_base.specs.Places.{peaks_of}
use Rattle.merkle_base.proofs.Cases.{by_test}
use Rattle.merkle_root_theory.specs.Expression.{value}
use Rattle.merkle_root_theory.specs.Plan.{Plan, peak, folding, root_plan, tree_meets, meets, siblings, outside_parts, path_siblings, plan_digest, tree_digest}
use Rattle.merkle_root_theory.specs.Claim.{tree_claim, claim}
use Rattle.merkle_base.specs.Scheme.{Scheme}
use Rattle.merkle_root_theory.specs.Check.{in_range, leaf_given}
use Rattle.merkle_root_theory.specs.Outside.{HasLayout}
use Rattle.merkle_root_theory.specs.Range.{end_of, leaf_of, range_parts, range_siblings}
use Rattle.merkle_claim_theory.specs.Store.{sub_siblings, sub_outside_parts, sub_inner}
use Rattle.merkle_root_theory.proofs.Claims.{split_left, split_right, tree_honest, plan_honest}
use Rattle.merkle_claim_theory.proofs.ListedDigests.{plan_for}
use Rattle.merkle_root_theory.proofs.PeakGroups.{range_layout}
use Rattle.merkle_root_theory.proofs.RangeChecks.{honest_leaves}
use Rattle.merkle_root_theory.proofs.RangeDigests.{range_digests_are}
use Rattle.merkle_store_theory.specs.StoreLaws.{HonestStoreIsHonest}
use Rattle.merkle_store_theory.proofs.Gathered.{meets_within, plan_within}
use Rattle.merkle_store_theory.proofs.StoreProofs.{answers_claim}

module _ {D : Type 0} (h : Hashing D) (c d : ℕ → Bool) (X Y : ℕ → D) (within : (i : ℕ) → d i ≡ true → c i ≡ true) (agrees : (i : ℕ) → c i ≡ true → Y i ≡ X i) where
  siblings_honest : (t : Tree) (ds rest : List D) → ds ≡ map (tree_digest h X) (siblings c t) ++ rest → sub_siblings h c d Y t ds ≡ map (tree_digest h X) (siblings d t)
  siblings_honest (leaf p i) ds rest e =
      by_test (λ b. cond b [] (value h (tree_claim h c Y (leaf p i) ds) ∷ []) ≡ map (tree_digest h X) (cond b [] (leaf p i ∷ []))) (d i) (λ _. refl)
      (λ _. ap (λ z. z ∷ []) (tree_honest h c X Y agrees (leaf p i) ds rest e))
  siblings_honest (join p l r) ds rest e =
      let u = siblings_honest l ds (map (tree_digest h X) (siblings c r) ++ rest) in
      let v = siblings_honest r (drop (length (siblings c l)) ds) rest in
      by_test (λ b. cond b (sub_siblings h c d Y l ds ++ sub_siblings h c d Y r (drop (length (siblings c l)) ds))
      (value h (tree_claim h c Y (join p l r) ds) ∷ []) ≡ map (tree_digest h X) (cond b (siblings d l ++ siblings d r) (join p l r ∷ [])))
      (tree_meets d l || tree_meets d r)
      (λ q. let f = subst (λ z. ds ≡ map (tree_digest h X) (cond z (siblings c l ++ siblings c r) (join p l r ∷ [])) ++ rest) (meets_within c d within (join p l r) q) e in
      ap₂ ◌++◌ (u (split_left _ (siblings c l) (siblings c r) ds rest f)) (v (split_right _ (siblings c l) (siblings c r) ds rest f))
      ∙ sym (map-append (tree_digest h X) (siblings d l) (siblings d r)))
      (λ _. ap (λ z. z ∷ []) (tree_honest h c X Y agrees (join p l r) ds rest e))

  outside_parts_honest : (p : Plan) (os is ro ri : List D) → os ≡ map (plan_digest h X) (outside_parts c p) ++ ro
      → is ≡ map (tree_digest h X) (path_siblings c p) ++ ri → sub_outside_parts h c d Y p os is ≡ map (plan_digest h X) (outside_parts d p)
  outside_parts_honest (peak t) os is ro ri e f =
      by_test (λ b. cond b [] (value h (claim h c Y (peak t) os is) ∷ []) ≡ map (plan_digest h X) (cond b [] (peak t ∷ []))) (tree_meets d t)
      (λ _. refl) (λ _. ap (λ z. z ∷ []) (plan_honest h c X Y agrees (peak t) os is ro ri e f))
  outside_parts_honest (folding q l r) os is ro ri e f =
      let u = outside_parts_honest l os is (map (plan_digest h X) (outside_parts c r) ++ ro) (map (tree_digest h X) (path_siblings c r) ++ ri) in
      let v = outside_parts_honest r (drop (length (outside_parts c l)) os) (drop (length (path_siblings c l)) is) ro ri in
      by_test (λ b. cond b (sub_outside_parts h c d Y l os is
      ++ sub_outside_parts h c d Y r (drop (length (outside_parts c l)) os) (drop (length (path_siblings c l)) is))
      (value h (claim h c Y (folding q l r) os is) ∷ [])
      ≡ map (plan_digest h X) (cond b (outside_parts d l ++ outside_parts d r) (folding q l r ∷ []))) (meets d l || meets d r)
      (λ m. let w = plan_within c d within (folding q l r) m in
      let eo = subst (λ z. os ≡ map (plan_digest h X) (cond z (outside_parts c l ++ outside_parts c r) (folding q l r ∷ [])) ++ ro) w e in
      let ei = subst (λ z. is ≡ map (tree_digest h X) (cond z (path_siblings c l ++ path_siblings c r) []) ++ ri) w f in
      ap₂ ◌++◌ (u (split_left _ (outside_parts c l) (outside_parts c r) os ro eo) (split_left _ (path_siblings c l) (path_siblings c r) is ri ei))
      (v (split_right _ (outside_parts c l) (outside_parts c r) os ro eo) (split_right _ (path_siblings c l) (path_siblings c r) is ri ei))
      ∙ sym (map-append (plan_digest h X) (outside_parts d l) (outside_parts d r)))
      (λ _. ap (λ z. z ∷ []) (plan_honest h c X Y agrees (folding q l r) os is ro ri e f))

  inner_honest : (p : Plan) (os is ro ri : List D) → os ≡ map (plan_digest h X) (outside_parts c p) ++ ro
      → is ≡ map (tree_digest h X) (path_siblings c p) ++ ri → sub_inner h c d Y p os is ≡ map (tree_digest h X) (path_siblings d p)
  inner_honest (peak t) os is ro ri e f = by_test (λ b. cond b (sub_siblings h c d Y t is) [] ≡ map (tree_digest h X) (cond b (siblings d t) [])) (tree_meets d t)
      (λ q. siblings_honest t is ri (subst (λ z. is ≡ map (tree_digest h X) (cond z (siblings c t) []) ++ ri) (meets_within c d within t q) f)) (λ _. refl)
  inner_honest (folding q l r) os is ro ri e f =
      let u = inner_honest l os is (map (plan_digest h X) (outside_parts c r) ++ ro) (map (tree_digest h X) (path_siblings c r) ++ ri) in
      let v = inner_honest r (drop (length (outside_parts c l)) os) (drop (length (path_siblings c l)) is) ro ri in
      by_test (λ b. cond b (sub_inner h c d Y l os is
      ++ sub_inner h c d Y r (drop (length (outside_parts c l)) os) (drop (length (path_siblings c l)) is)) []
      ≡ map (tree_digest h X) (cond b (path_siblings d l ++ path_siblings d r) [])) (meets d l || meets d r)
      (λ m. let w = plan_within c d within (folding q l r) m in
      let eo = subst (λ z. os ≡ map (plan_digest h X) (cond z (outside_parts c l ++ outside_parts c r) (folding q l r ∷ [])) ++ ro) w e in
      let ei = subst (λ z. is ≡ map (tree_digest h X) (cond z (path_siblings c l ++ path_siblings c r) []) ++ ri) w f in
      ap₂ ◌++◌ (u (split_left _ (outside_parts c l) (outside_parts c r) os ro eo) (split_left _ (path_siblings c l) (path_siblings c r) is ri ei))
      (v (split_right _ (outside_parts c l) (outside_parts c r) os ro eo) (split_right _ (path_siblings c l) (path_siblings c r) is ri ei))
      ∙ sym (map-append (tree_digest h X) (path_siblings d l) (path_siblings d r)))
      (λ _. refl)

-- the parts outside a range of so many leaves, and the siblings
laid : {D : Type 0} (s : Scheme D) (n k a b : ℕ) → a < b → b ≤ n → (p : Plan) → root_plan s.bagging k (peaks_of s.rule n) ≡ Some p
    → (outside_parts (in_range a b) p ≡ range_parts s.bagging k a b (peaks_of s.rule n)) × (path_siblings (in_range a b) p ≡ range_siblings a b (peaks_of s.rule n))
laid s n k a b l m p e = subst (HasLayout (in_range a b) (range_parts s.bagging k a b (peaks_of s.rule n)) (range_siblings a b (peaks_of s.rule n))) e (range_layout s n k a b l m)

pub honest_store_is_honest : {D : Type 0} → HonestStoreIsHonest D
honest_store_is_honest s xs k r root a b honest ok some low high =
    let h = s.hashing in
    let n = r.leaves in
    let j = r.inactive in
    let ts = peaks_of s.rule r.leaves in
    let c = in_range r.start (end_of r) in
    let d = in_range a b in
    let X = leaf_of s.hashing xs in
    let Y = leaf_given s.hashing r in
    let f = plan_digest h X in
    let g = tree_digest h X in
    let plan = plan_for s r.leaves r.inactive (omega (arith, ok.nonempty, ok.within)) in
    let lc = laid s r.leaves r.inactive r.start (end_of r) (omega (arith, ok.nonempty)) ok.within plan.0 plan.1 in
    let ld = laid s r.leaves r.inactive a b some (omega (arith, high, ok.within)) plan.0 plan.1 in
    let within : (i : ℕ) → in_range a b i ≡ true → in_range r.start (end_of r) i ≡ true =
    λ i e. let w = and_parts (nat_le a i) (nat_lt i b) e in let x = leb-true a i w.0 in let y = ltb-true i b w.1 in
    and_from _ _ (le-leb r.start i (omega (arith, x, low))) (lt-ltb i (end_of r) (omega (arith, y, high))) in
    let agrees = honest_leaves s xs k r honest in
    let same : r.digests ≡ map f (range_parts s.bagging j r.start (end_of r) ts) ++ map g (range_siblings r.start (end_of r) ts) =
    honest.digests ∙ range_digests_are s xs k r.start (end_of r)
    ∙ ap₂ (λ x y. map f (range_parts s.bagging x r.start (end_of r) (peaks_of s.rule y))
    ++ map g (range_siblings r.start (end_of r) (peaks_of s.rule y))) (sym honest.inactive) (sym honest.leaves) in
    let is = drop (length (range_parts s.bagging j r.start (end_of r) ts)) r.digests in
    let os_are : r.digests ≡ map f (outside_parts c plan.0) ++ map g (range_siblings r.start (end_of r) ts) = same ∙ ap (λ z. map f z ++ map g (range_siblings r.start (end_of r) ts)) (sym lc.0) in
    let is_are : is ≡ map g (path_siblings c plan.0) ++ [] =
    ap (drop (length (range_parts s.bagging j r.start (end_of r) ts))) same
    ∙ drop_at (map f (range_parts s.bagging j r.start (end_of r) ts)) (map g (range_siblings r.start (end_of r) ts)) _
    (length-map (range_parts s.bagging j r.start (end_of r) ts) f)
    ∙ ap (map g) (sym lc.1) ∙ sym (append-nil (map g (path_siblings c plan.0))) in
    answers_claim s r root ok a b some low high plan.0 plan.1
    ∙ ap₂ ◌++◌ (outside_parts_honest h c d X Y within agrees plan.0 r.digests is _ [] os_are is_are ∙ ap (map f) ld.0)
    (inner_honest h c d X Y within agrees plan.0 r.digests is _ [] os_are is_are ∙ ap (map g) ld.1)
    ∙ ap₂ (λ x y. map f (range_parts s.bagging x a b (peaks_of s.rule y)) ++ map g (range_siblings a b (peaks_of s.rule y))) honest.inactive honest.leaves
    ∙ sym (range_digests_are s xs k a b)
