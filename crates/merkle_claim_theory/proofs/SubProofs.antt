-- What proves a range proves its parts.
use Rattle.std.proofs.Common.{◌≡◌, ℕ, Bool, true, cond, ◌||◌, ◌+◌, ◌-◌, ◌≤◌, ◌<◌, List, [], ◌∷◌, ◌++◌, inl, inr, refl, ap, ap₂, sym, ◌∙◌, subst, ⊎_elim, arith}
use Rattle.std.proofs.Common.{length, drop, get_or, Some, option_map, length-append, drop_at, append_assoc, append-nil, map, unwrap_or}
use Rattle.std.proofs.lemmas.List.{get_or-take, get_or-drop, map-append}
use Rattle.std.proofs.lemmas.Bool.{eq-eqb, ne_eqb, or_right, or_cases}
use Rattle.merkle_base.specs.Tree.{Tree, leaf, join, position}
use Rattle.merkle_root_theory.specs.Expression.{Node, hashed_at, supplied, computed, value}
use Rattle.merkle_base.specs.Hashing.{Hashing}
use Rattle.merkle_root_theory.specs.Plan.{Plan, peak, folding, root_plan, tree_meets, meets, siblings, outside_parts, path_siblings}
use Rattle.merkle_root_theory.specs.Claim.{next, tree_claim, claim, claim_of}
use Rattle.merkle_root_theory.specs.Outside.{HasLayout}
use Rattle.merkle_root_theory.specs.Check.{RangeInput, chosen, leaf_given, range_expression}
use Rattle.merkle_base.specs.Scheme.{Scheme}
use Rattle.merkle_base.specs.Places.{peaks_of}
use Rattle.merkle_base.specs.Root.{root_string}
use Rattle.merkle_root_theory.specs.Range.{end_of, range_parts, range_siblings, AcceptsNonempty}
use Rattle.merkle_claim_theory.specs.Store.{sub_siblings, sub_outside_parts, sub_inner, sub_digests, IsPartOf, PartIsAccepted, read_pair, SiblingsAreRead}
use Rattle.merkle_root_theory.specs.Collision.{Member}
use Rattle.merkle_claim_theory.specs.Order.{Distinct}
use Rattle.merkle_base.specs.Table.{digest_for}
use Rattle.merkle_root_theory.specs.Extract.{inner_pairs}
use Rattle.merkle_root_theory.proofs.Collisions.{member_left, member_right}
use Rattle.merkle_claim_theory.proofs.PlacesOnce.{member_map}
use Rattle.merkle_base.proofs.Cases.{by_test}
use Rattle.merkle_root_theory.proofs.ListChecks.{was_chosen, is_chosen}
use Rattle.merkle_root_theory.proofs.PeakGroups.{range_layout}
use Rattle.merkle_claim_theory.proofs.ListedDigests.{plan_for}

module _ {D : Type 0} (h : Hashing D) (c d : ℕ → Bool) (Y Z : ℕ → D) (within : (i : ℕ) → d i ≡ true → c i ≡ true) (agrees : (i : ℕ) → d i ≡ true → Z i ≡ Y i) where
  meets_sub : (t : Tree) → tree_meets d t ≡ true → tree_meets c t ≡ true
  meets_sub (leaf p i) m = within i m
  meets_sub (join p l r) m = ⊎_elim (λ w. ap (λ z. z || tree_meets c r) (meets_sub l w)) (λ w. or_right (tree_meets c l) _ (meets_sub r w)) (or_cases (tree_meets d l) _ m)

  meets_sub_plan : (p : Plan) → meets d p ≡ true → meets c p ≡ true
  meets_sub_plan (peak t) m = meets_sub t m
  meets_sub_plan (folding place l r) m = ⊎_elim (λ w. ap (λ z. z || meets c r) (meets_sub_plan l w)) (λ w. or_right (meets c l) _ (meets_sub_plan r w)) (or_cases (meets d l) _ m)

  sub_count : (t : Tree) (ds : List D) → length (sub_siblings h c d Y t ds) ≡ length (siblings d t)
  sub_count (leaf p i) ds = by_test (λ b. length (cond b [] (value h (tree_claim h c Y (leaf p i) ds) ∷ [])) ≡ length (cond b [] (leaf p i ∷ []))) (d i) (λ _. refl) (λ _. refl)
  sub_count (join p l r) ds = by_test
      (λ b. length (cond b (sub_siblings h c d Y l ds ++ sub_siblings h c d Y r (drop (length (siblings c l)) ds))
      (value h (tree_claim h c Y (join p l r) ds) ∷ [])) ≡ length (cond b (siblings d l ++ siblings d r) (join p l r ∷ []))) (tree_meets d l || tree_meets d r)
      (λ _. length-append (sub_siblings h c d Y l ds) _ ∙ ap₂ ◌+◌ (sub_count l ds) (sub_count r (drop (length (siblings c l)) ds)) ∙ sym (length-append (siblings d l) (siblings d r))) (λ _. refl)

  outside_parts_count : (p : Plan) (os is : List D) → length (sub_outside_parts h c d Y p os is) ≡ length (outside_parts d p)
  outside_parts_count (peak t) os is = by_test (λ b. length (cond b [] (value h (claim h c Y (peak t) os is) ∷ [])) ≡ length (cond b [] (peak t ∷ []))) (tree_meets d t) (λ _. refl) (λ _. refl)
  outside_parts_count (folding place l r) os is =
      by_test (λ b. length (cond b (sub_outside_parts h c d Y l os is
      ++ sub_outside_parts h c d Y r (drop (length (outside_parts c l)) os) (drop (length (path_siblings c l)) is))
      (value h (claim h c Y (folding place l r) os is) ∷ []))
      ≡ length (cond b (outside_parts d l ++ outside_parts d r) (folding place l r ∷ []))) (meets d l || meets d r)
      (λ _. length-append (sub_outside_parts h c d Y l os is) _
      ∙ ap₂ ◌+◌ (outside_parts_count l os is)
      (outside_parts_count r (drop (length (outside_parts c l)) os) (drop (length (path_siblings c l)) is))
      ∙ sym (length-append (outside_parts d l) (outside_parts d r))) (λ _. refl)

  inner_count : (p : Plan) (os is : List D) → length (sub_inner h c d Y p os is) ≡ length (path_siblings d p)
  inner_count (peak t) os is = by_test (λ b. length (cond b (sub_siblings h c d Y t is) []) ≡ length (cond b (siblings d t) [])) (tree_meets d t) (λ _. sub_count t is) (λ _. refl)
  inner_count (folding place l r) os is =
      by_test (λ b. length (cond b (sub_inner h c d Y l os is
      ++ sub_inner h c d Y r (drop (length (outside_parts c l)) os) (drop (length (path_siblings c l)) is)) [])
      ≡ length (cond b (path_siblings d l ++ path_siblings d r) [])) (meets d l || meets d r)
      (λ _. length-append (sub_inner h c d Y l os is) _
      ∙ ap₂ ◌+◌ (inner_count l os is) (inner_count r (drop (length (outside_parts c l)) os) (drop (length (path_siblings c l)) is))
      ∙ sym (length-append (path_siblings d l) (path_siblings d r))) (λ _. refl)

  left_part : (us vs es rest : List D) → es ≡ (us ++ vs) ++ rest → es ≡ us ++ (vs ++ rest)
  left_part us vs es rest e = e ∙ append_assoc us vs rest

  right_part : (n : ℕ) (us vs es rest : List D) → length us ≡ n → es ≡ (us ++ vs) ++ rest → drop n es ≡ vs ++ rest
  right_part n us vs es rest l e = ap (drop n) (left_part us vs es rest e) ∙ drop_at us (vs ++ rest) n l

  tree_sub : (t : Tree) (ds es rest : List D) → es ≡ sub_siblings h c d Y t ds ++ rest → value h (tree_claim h d Z t es) ≡ value h (tree_claim h c Y t ds)
  tree_sub (leaf p j) ds es rest =
      by_test (λ b. es ≡ cond b [] (value h (tree_claim h c Y (leaf p j) ds) ∷ []) ++ rest
      → value h (cond b (supplied (Z j)) (supplied (next h es))) ≡ value h (tree_claim h c Y (leaf p j) ds)) (d j)
      (λ q e. agrees j q ∙ sym (ap (λ b. value h (cond b (supplied (Y j)) (supplied (next h ds)))) (within j q))) (λ _ e. ap (next h) e)
  tree_sub (join p l r) ds es rest =
      let sl = sub_siblings h c d Y l ds in
      let sr = sub_siblings h c d Y r (drop (length (siblings c l)) ds) in
      let u = tree_sub l ds es (sr ++ rest) in
      let v = tree_sub r (drop (length (siblings c l)) ds) (drop (length (siblings d l)) es) rest in
      by_test (λ b. es ≡ cond b (sl ++ sr) (value h (tree_claim h c Y (join p l r) ds) ∷ []) ++ rest
      → value h (cond b (computed (Node p) (tree_claim h d Z l es) (tree_claim h d Z r (drop (length (siblings d l)) es))) (supplied (next h es)))
      ≡ value h (tree_claim h c Y (join p l r) ds)) (tree_meets d l || tree_meets d r)
      (λ q e. ap₂ (h.node p) (u (left_part sl sr es rest e)) (v (right_part (length (siblings d l)) sl sr es rest (sub_count l ds) e))
      ∙ sym (ap (λ b. value h (cond b (computed (Node p) (tree_claim h c Y l ds) (tree_claim h c Y r (drop (length (siblings c l)) ds))) (supplied (next h ds)))) (meets_sub (join p l r) q)))
      (λ _ e. ap (next h) e)

  plan_sub : (p : Plan) (os is xs ys ro ri : List D) → xs ≡ sub_outside_parts h c d Y p os is ++ ro → ys ≡ sub_inner h c d Y p os is ++ ri
      → value h (claim h d Z p xs ys) ≡ value h (claim h c Y p os is)
  plan_sub (peak t) os is xs ys ro ri = by_test (λ b. xs ≡ cond b [] (value h (claim h c Y (peak t) os is) ∷ []) ++ ro → ys ≡ cond b (sub_siblings h c d Y t is) [] ++ ri
      → value h (cond b (tree_claim h d Z t ys) (supplied (next h xs))) ≡ value h (claim h c Y (peak t) os is)) (tree_meets d t)
      (λ q e f. tree_sub t is ys ri f ∙ sym (ap (λ b. value h (cond b (tree_claim h c Y t is) (supplied (next h os)))) (meets_sub t q))) (λ _ e f. ap (next h) e)
  plan_sub (folding place l r) os is xs ys ro ri =
      let os' = drop (length (outside_parts c l)) os in
      let is' = drop (length (path_siblings c l)) is in
      let ol = sub_outside_parts h c d Y l os is in
      let or = sub_outside_parts h c d Y r os' is' in
      let il = sub_inner h c d Y l os is in
      let ir = sub_inner h c d Y r os' is' in
      let u = plan_sub l os is xs ys (or ++ ro) (ir ++ ri) in
      let v = plan_sub r os' is' (drop (length (outside_parts d l)) xs) (drop (length (path_siblings d l)) ys) ro ri in
      by_test (λ b. xs ≡ cond b (ol ++ or) (value h (claim h c Y (folding place l r) os is) ∷ []) ++ ro → ys ≡ cond b (il ++ ir) [] ++ ri
      → value h (cond b (computed place (claim h d Z l xs ys)
      (claim h d Z r (drop (length (outside_parts d l)) xs) (drop (length (path_siblings d l)) ys))) (supplied (next h xs)))
      ≡ value h (claim h c Y (folding place l r) os is)) (meets d l || meets d r)
      (λ q e f. ap₂ (hashed_at h place) (u (left_part ol or xs ro e) (left_part il ir ys ri f))
      (v (right_part (length (outside_parts d l)) ol or xs ro (outside_parts_count l os is) e)
      (right_part (length (path_siblings d l)) il ir ys ri (inner_count l os is) f))
      ∙ sym (ap (λ b. value h (cond b (computed place (claim h c Y l os is) (claim h c Y r os' is')) (supplied (next h os)))) (meets_sub_plan (folding place l r) q)))
      (λ _ e f. ap (next h) e)

module _ {D : Type 0} (s : Scheme D) (r q : RangeInput D) (root : D) (ok : AcceptsNonempty s r root) (part : IsPartOf s r q) where
  abbrev plan : (p : Plan) × (root_plan s.bagging r.inactive (peaks_of s.rule r.leaves) ≡ Some p)
  plan = plan_for s r.leaves r.inactive (omega (arith, ok.nonempty, ok.within))

  inside : (i : ℕ) → chosen q i ≡ true → chosen r i ≡ true
  inside i m = let w = was_chosen q i m in is_chosen r i (omega (arith, w.0, part.from)) (omega (arith, w.1, part.to))

  agree : (i : ℕ) → chosen q i ≡ true → leaf_given s.hashing q i ≡ leaf_given s.hashing r i
  agree i m =
      let w = was_chosen q i m in
      let j : i - q.start < length q.elements = omega (arith, w.0, w.1) in
      let e : q.start - r.start + (i - q.start) ≡ i - r.start = omega (arith, w.0, part.from) in
      ap (λ z. get_or z (i - q.start) s.hashing.empty) part.elements ∙ get_or-take (length q.elements) (drop (q.start - r.start) r.elements) (i - q.start) s.hashing.empty j
      ∙ get_or-drop (q.start - r.start) r.elements (i - q.start) s.hashing.empty ∙ ap (λ z. get_or r.elements z s.hashing.empty) e

  abbrev os : List D
  os = sub_outside_parts s.hashing (chosen r) (chosen q) (leaf_given s.hashing r) plan.0 r.digests (drop (length (outside_parts (chosen r) plan.0)) r.digests)

  abbrev is : List D
  is = sub_inner s.hashing (chosen r) (chosen q) (leaf_given s.hashing r) plan.0 r.digests (drop (length (outside_parts (chosen r) plan.0)) r.digests)

  given_digests : q.digests ≡ os ++ is
  given_digests = part.digests ∙ ap (sub_digests s r q) plan.1

  few : length os ≡ length (outside_parts (chosen q) plan.0)
  few = outside_parts_count s.hashing (chosen r) (chosen q) (leaf_given s.hashing r) (leaf_given s.hashing q) inside agree plan.0 r.digests _

  few_inner : length is ≡ length (path_siblings (chosen q) plan.0)
  few_inner = inner_count s.hashing (chosen r) (chosen q) (leaf_given s.hashing r) (leaf_given s.hashing q) inside agree plan.0 r.digests _

  layout : HasLayout (chosen q) (range_parts s.bagging q.inactive q.start (end_of q) (peaks_of s.rule q.leaves)) (range_siblings q.start (end_of q) (peaks_of s.rule q.leaves)) (Some plan.0)
  layout = subst (HasLayout (chosen q) (range_parts s.bagging q.inactive q.start (end_of q) (peaks_of s.rule q.leaves)) (range_siblings q.start (end_of q) (peaks_of s.rule q.leaves)))
      (ap₂ (λ k n. root_plan s.bagging k (peaks_of s.rule n)) part.inactive part.leaves ∙ plan.1)
      (range_layout s q.leaves q.inactive q.start (end_of q) (omega (arith, part.nonempty)) (omega (arith, part.to, ok.within, part.leaves)))

  counts : length q.digests ≡ length (range_parts s.bagging q.inactive q.start (end_of q) (peaks_of s.rule q.leaves)) + length (range_siblings q.start (end_of q) (peaks_of s.rule q.leaves))
  counts = ap length given_digests ∙ length-append os is ∙ ap₂ ◌+◌ (few ∙ ap length layout.0) (few_inner ∙ ap length layout.1)

  same : option_map (value s.hashing) (range_expression s q) ≡ option_map (value s.hashing) (range_expression s r)
  same = ap (λ o. option_map (value s.hashing) (option_map (λ p. claim_of s.hashing (chosen q) (leaf_given s.hashing q) p q.digests) o))
      (ap₂ (λ k n. root_plan s.bagging k (peaks_of s.rule n)) part.inactive part.leaves ∙ plan.1)
      ∙ ap Some (plan_sub s.hashing (chosen r) (chosen q) (leaf_given s.hashing r) (leaf_given s.hashing q) inside agree plan.0 r.digests (drop (length (outside_parts (chosen r) plan.0)) r.digests)
      q.digests (drop (length (outside_parts (chosen q) plan.0)) q.digests) is [] given_digests
      (ap (drop (length (outside_parts (chosen q) plan.0))) given_digests ∙ drop_at os is _ few ∙ sym (append-nil is)))
      ∙ sym (ap (λ o. option_map (value s.hashing) (option_map (λ p. claim_of s.hashing (chosen r) (leaf_given s.hashing r) p r.digests) o)) plan.1)

pub part_is_accepted : {D : Type 0} → PartIsAccepted D
part_is_accepted s r q root ok part = record {
  nonempty = part.nonempty;
  within = omega (arith, part.to, ok.within, part.leaves);
  leaves = omega (arith, ok.leaves, part.leaves);
  inactive = subst (λ z. z ≤ length (peaks_of s.rule q.leaves)) (sym part.inactive) (subst (λ z. r.inactive ≤ length (peaks_of s.rule z)) (sym part.leaves) ok.inactive);
  counts = counts s r q root ok part;
  root_is = ap s.hashing.hash (ap₂ (λ n k. root_string s.hashing s.domain s.bagging n k (option_map (value s.hashing) (range_expression s q))) part.leaves part.inactive
      ∙ ap (root_string s.hashing s.domain s.bagging r.leaves r.inactive) (same s r q root ok part)) ∙ ok.root_is;
}

-- ---- read from pairs
pub found : {D : Type 0} (pairs : List (ℕ × D)) (x : ℕ × D) → Distinct (map (λ (y : ℕ × D). y.0) pairs) → Member pairs x
    → digest_for (map (λ (y : ℕ × D). y.0) pairs) (map (λ (y : ℕ × D). y.1) pairs) x.0 ≡ Some x.1
found [] x u m = elim m [ ]
found (y ∷ ys) x u (inl e) = ap (λ z. cond z (Some y.1) (digest_for (map (λ (y : ℕ × _). y.0) ys) (map (λ (y : ℕ × _). y.1) ys) x.0))
    (eq-eqb y.0 x.0 (ap (λ (z : ℕ × _). z.0) e)) ∙ ap (λ (z : ℕ × _). Some z.1) e
found (y ∷ ys) x u (inr m) = ap (λ z. cond z (Some y.1) (digest_for (map (λ (y : ℕ × _). y.0) ys) (map (λ (y : ℕ × _). y.1) ys) x.0))
    (ne_eqb y.0 x.0 (λ e. u.0 (subst (Member (map (λ (y : ℕ × _). y.0) ys)) (sym e) (member_map (λ (y : ℕ × _). y.0) ys x m)))) ∙ found ys x u.1 m

module _ {D : Type 0} (h : Hashing D) (c d : ℕ → Bool) (Y : ℕ → D) (within : (i : ℕ) → d i ≡ true → c i ≡ true) (R : ℕ → D) where
  reads : (t : Tree) (ds : List D) → ((x : ℕ × D) → Member (inner_pairs h c Y t ds) x → R x.0 ≡ x.1)
      → R (position t) ≡ value h (tree_claim h c Y t ds) → sub_siblings h c d Y t ds ≡ map (λ u. R (position u)) (siblings d t)
  reads (leaf p i) ds f e = by_test
      (λ b. cond b [] (value h (tree_claim h c Y (leaf p i) ds) ∷ []) ≡ map (λ u. R (position u)) (cond b [] (leaf p i ∷ []))) (d i) (λ _. refl)
      (λ _. ap (λ z. z ∷ []) (sym e))
  reads (join p l r) ds f e =
      let rest = drop (length (siblings c l)) ds in
      let last = (position l, value h (tree_claim h c Y l ds)) ∷ (position r, value h (tree_claim h c Y r rest)) ∷ [] in
      by_test (λ b. cond b (sub_siblings h c d Y l ds ++ sub_siblings h c d Y r rest) (value h (tree_claim h c Y (join p l r) ds) ∷ [])
      ≡ map (λ u. R (position u)) (cond b (siblings d l ++ siblings d r) (join p l r ∷ []))) (tree_meets d l || tree_meets d r)
      (λ q. let g = subst (λ z. (x : ℕ × D) → Member (cond z (inner_pairs h c Y l ds ++ (inner_pairs h c Y r rest ++ last)) []) x → R x.0 ≡ x.1)
      (meets_sub h c d Y Y within (λ i _. refl) (join p l r) q) f in
      ap₂ ◌++◌ (reads l ds (λ x m. g x (member_left (inner_pairs h c Y l ds) _ x m))
      (g (position l, value h (tree_claim h c Y l ds)) (member_right (inner_pairs h c Y l ds) _ _ (member_right (inner_pairs h c Y r rest) last _ (inl refl)))))
      (reads r rest (λ x m. g x (member_right (inner_pairs h c Y l ds) _ x (member_left (inner_pairs h c Y r rest) last x m)))
      (g (position r, value h (tree_claim h c Y r rest))
      (member_right (inner_pairs h c Y l ds) _ _ (member_right (inner_pairs h c Y r rest) last _ (inr (inl refl))))))
      ∙ sym (map-append (λ u. R (position u)) (siblings d l) (siblings d r)))
      (λ _. ap (λ z. z ∷ []) (sym e))

pub siblings_are_read : {D : Type 0} → SiblingsAreRead D
siblings_are_read h c d within Y t ds pairs once sub =
    let at = λ (x : ℕ × _) (m : Member pairs x). ap (λ o. unwrap_or o h.empty) (found pairs x once m) in
    reads h c d Y within (read_pair h pairs) t ds (λ x m. at x (sub x (member_left (inner_pairs h c Y t ds) _ x m)))
    (at (position t, value h (tree_claim h c Y t ds)) (sub _ (member_right (inner_pairs h c Y t ds) _ _ (inl refl))))
