-- A multi-proof has at most 122 positions for each location.
use Rattle.std.proofs.Common.{◌≡◌, ℕ, suc, true, false, cond, ◌||◌, nat_eq, ◌+◌, ◌*◌, ◌≤◌, ◌<◌, List, [], ◌∷◌, ◌++◌, ◌⊎◌, inl, inr, refl, ap, ap₂, sym, ◌∙◌}
use Rattle.std.proofs.Common.{subst, ⊎_elim, arith, length, map, flat_map, length-append, slice_get, slice_index, Some, reverse}
use Rattle.std.specs.List.{AllByRecursion, list_any, range_with_len}
use Rattle.std.proofs.lemmas.Bool.{eqb-true, ne_eqb, eq-eqb, or_right, cases_lt}
use Rattle.std.proofs.lemmas.List.{length-map, length-reverse, reverse-append}
use Rattle.merkle_base.specs.Tree.{Tree, leaf, join, position, height, first_leaf, width, IsBuilt, IsBalanced, end_leaf}
use Rattle.merkle_base.specs.Forest.{forest, size}
use Rattle.merkle_base.specs.Heights.{peak_heights, IsLawful}
use Rattle.merkle_base.proofs.Lists.{get_below}
use Rattle.merkle_base.proofs.Lookup.{index_map}
use Rattle.merkle_base.proofs.Balance.{heights_forest, peaks_balanced}
use Rattle.merkle_root_theory.specs.Collision.{Member}
use Rattle.merkle_claim_theory.specs.Order.{Distinct}
use Rattle.merkle_root_theory.specs.Plan.{tree_meets, siblings}
use Rattle.merkle_base.specs.Places.{peaks_of}
use Rattle.merkle_claim_theory.specs.Multiproof.{one_leaf_nodes, is_one_leaf_position, multi_positions, MultiSizeBound}
use Rattle.merkle_claim_theory.proofs.HonestClaims.{member_split}
use Rattle.merkle_root_theory.proofs.Collisions.{member_left, member_right}
use Rattle.merkle_base.proofs.PeakLists.{Spans, all_reverse, peaks_built, peaks_spans}
use Rattle.merkle_claim_theory.proofs.PlacesOnce.{member_map}
use Rattle.merkle_claim_theory.proofs.ListedDigests.{filtered_member, member_any, distinct_filter, distinct_range}
use Rattle.merkle_claim_theory.proofs.Multiproofs.{only, member_flat}
use Rattle.merkle_root_theory.proofs.Walks.{siblings_unmet, siblings_join}

-- a list without repetition is no longer than one that has its elements
parted : {A : Type 0} (ys : List A) (x : A) → Member ys x → (us : List A) × (vs : List A) × (ys ≡ us ++ x ∷ vs)
parted [] x m = elim m [ ]
parted (y ∷ ys) x (inl e) = ([], ys, ap (λ z. z ∷ ys) e)
parted (y ∷ ys) x (inr m) = let w = parted ys x m in (y ∷ w.0, w.1, ap (λ z. y ∷ z) w.2)

pub no_longer : {A : Type 0} (xs ys : List A) → Distinct xs → ((x : A) → Member xs x → Member ys x) → length xs ≤ length ys
no_longer [] ys d f = omega arith
no_longer (x ∷ xs) ys d f =
    let w = parted ys x (f x (inl refl)) in
    let r = no_longer xs (w.0 ++ w.1) d.1
    (λ z m. ⊎_elim (λ a. member_left w.0 w.1 z a) (⊎_elim (λ e. absurd (d.0 (subst (Member xs) (sym e) m))) (λ b. member_right w.0 w.1 z b))
    (member_split w.0 (x ∷ w.1) z (subst (λ l. Member l z) w.2 (f z (inr m))))) in
    omega (arith, r, ap length w.2, length-append w.0 (x ∷ w.1), length-append w.0 w.1)

-- one location in a tree, and out of it
only_not : (ns : List Tree) (i : ℕ) (t : Tree) → IsBuilt ns t → (i < first_leaf t) ⊎ (end_leaf t ≤ i) → tree_meets (only i) t ≡ false
only_not ns i (leaf p j) b (inl x) = ne_eqb j i (λ e. absurd (omega (arith, e, x)))
only_not ns i (leaf p j) b (inr x) = ne_eqb j i (λ e. absurd (omega (arith, e, x)))
only_not ns i (join p l r) b (inl x) = ap₂ ◌||◌ (only_not ns i l b.4 (inl x)) (only_not ns i r b.5 (inl (omega (arith, x, b.3))))
only_not ns i (join p l r) b (inr x) = ap₂ ◌||◌ (only_not ns i l b.4 (inr (omega (arith, x, b.3)))) (only_not ns i r b.5 (inr (omega (arith, x, b.3))))

only_in : (ns : List Tree) (i : ℕ) (t : Tree) → IsBuilt ns t → first_leaf t ≤ i → i < end_leaf t → tree_meets (only i) t ≡ true
only_in ns i (leaf p j) b x y = eq-eqb j i (omega arith)
only_in ns i (join p l r) b x y =
    ⊎_elim (λ z. ap (λ q. q || tree_meets (only i) r) (only_in ns i l b.4 x z))
    (λ z. or_right (tree_meets (only i) l) _ (only_in ns i r b.5 (omega (arith, z, b.3)) (omega (arith, y, b.3)))) (cases_lt i (end_leaf l))

path_count : (ns : List Tree) (i : ℕ) (t : Tree) → IsBuilt ns t → IsBalanced t → first_leaf t ≤ i → i < end_leaf t → length (siblings (only i) t) ≡ height t
path_count ns i (leaf p j) b h x y = ap (λ z. length (cond z [] (leaf p j ∷ []))) (only_in ns i (leaf p j) b x y)
path_count ns i (join p l r) b h x y = ap length (siblings_join (only i) p l r (only_in ns i (join p l r) b x y)) ∙ length-append (siblings (only i) l) (siblings (only i) r) ∙ ⊎_elim
    (λ z. omega (arith, ap length (siblings_unmet (only i) r (only_not ns i r b.5 (inl (omega (arith, z, b.3))))), path_count ns i l b.4 h.1 x z))
    (λ z. omega (arith, ap length (siblings_unmet (only i) l (only_not ns i l b.4 (inr z))), path_count ns i r b.5 h.2 (omega (arith, z, b.3)) (omega (arith, y, b.3)), h.0)) (cases_lt i (end_leaf l))

others : (ns : List Tree) (i o n : ℕ) (ts : List Tree) → Spans o n ts → AllByRecursion (IsBuilt ns) ts → i < o → length (one_leaf_nodes i ts) ≡ length ts
others ns i o n [] c b x = refl
others ns i o n (t ∷ ts) c b x = length-append (siblings (only i) t) (one_leaf_nodes i ts)
    ∙ ap₂ ◌+◌ (ap length (siblings_unmet (only i) t (only_not ns i t b.0 (inl (omega (arith, x, c.0))))))
    (others ns i (o + width t) n ts c.1 b.1 (omega (arith, x))) ∙ omega arith

leaf_nodes_count : (ns : List Tree) (i o n : ℕ) (ts : List Tree) → Spans o n ts → AllByRecursion (IsBuilt ns) ts → AllByRecursion IsBalanced ts
    → o ≤ i → i < n → (t : Tree) × Member ts t × (length (one_leaf_nodes i ts) + 1 ≡ length ts + height t)
leaf_nodes_count ns i o n [] c b h x y = absurd (omega (arith, c, x, y))
leaf_nodes_count ns i o n (t ∷ ts) c b h x y = ⊎_elim
    (λ z. (
      t,
      inl refl,
      omega (
        arith,
        length-append (siblings (only i) t) (one_leaf_nodes i ts),
        path_count ns i t b.0 h.0 (omega (arith, x, c.0)) z,
        others ns i (o + width t) n ts c.1 b.1 (omega (arith, z, c.0)),
      ),
    ))
    (λ z. let w = leaf_nodes_count ns i (o + width t) n ts c.1 b.1 h.1 (omega (arith, z, c.0)) y in
    (w.0, inr w.1, omega (arith, w.2, length-append (siblings (only i) t) (one_leaf_nodes i ts), ap length (siblings_unmet (only i) t (only_not ns i t b.0 (inr z)))))) (cases_lt i (end_leaf t))

reverse_member : (ts : List Tree) (t : Tree) → Member ts t → (i : ℕ) × (slice_get ts i ≡ Some t)
reverse_member [] t m = elim m [ ]
reverse_member (x ∷ ts) t (inl e) = (0, ap Some e)
reverse_member (x ∷ ts) t (inr m) = let w = reverse_member ts t m in (suc w.0, w.1)

-- under a lawful rule a leaf needs no more nodes than there are peaks beside the one over it, and its height
pub one_leaf_few : (rule : List ℕ → List ℕ) (max_leaves max_nodes : ℕ) → IsLawful rule max_leaves max_nodes → (n : ℕ) → n ≤ max_leaves
    → ((j : ℕ) → j < length (peak_heights rule n) → slice_index (peak_heights rule n) j + length (peak_heights rule n) ≤ 123)
    → (i : ℕ) → i < n → length (one_leaf_nodes i (peaks_of rule n)) ≤ 122
one_leaf_few rule max_leaves max_nodes law n few bound i x =
    let balanced = all_reverse IsBalanced (forest rule n).peaks (peaks_balanced rule max_leaves law.equal n few) in
    let w = leaf_nodes_count (forest rule n).nodes i 0 n (peaks_of rule n) (peaks_spans rule n) (peaks_built rule n) balanced (omega arith) x in
    let j = reverse_member (forest rule n).peaks w.0 (back (forest rule n).peaks w.0 w.1) in
    let hs = heights_forest rule n in
    let long : length (forest rule n).peaks ≡ length (peak_heights rule n) = sym (length-map (forest rule n).peaks height) ∙ ap length hs in
    let high : height w.0 ≡ slice_index (peak_heights rule n) j.0 = index_map (forest rule n).peaks j.0 w.0 j.1 ∙ ap (λ z. slice_index z j.0) hs in
    omega (arith, w.2, length-reverse (forest rule n).peaks, long, high, bound j.0 (omega (arith, get_below (forest rule n).peaks j.0 w.0 j.1, long)))
  where
    back : (us : List Tree) (t : Tree) → Member (reverse us) t → Member us t
    back [] t m = elim m [ ]
    back (u ∷ us) t m = ⊎_elim (λ a. inr (back us t a)) (⊎_elim inl (λ z. elim z [ ])) (member_split (reverse us) (u ∷ []) t (subst (λ l. Member l t) (reverse-append (u ∷ []) us) m))

-- so at most 122 positions for each location
pub positions_few : (rule : List ℕ → List ℕ) (max_leaves max_nodes : ℕ) → IsLawful rule max_leaves max_nodes → (n : ℕ) → n ≤ max_leaves
    → ((j : ℕ) → j < length (peak_heights rule n) → slice_index (peak_heights rule n) j + length (peak_heights rule n) ≤ 123)
    → (locations : List ℕ) → AllByRecursion (λ i. i < n) locations → length (multi_positions rule n locations) ≤ 122 * length locations
positions_few rule max_leaves max_nodes law n few bound locations below = all_below
  where
    one : (i : ℕ) → i < n → length (one_leaf_nodes i (peaks_of rule n)) ≤ 122
    one = one_leaf_few rule max_leaves max_nodes law n few bound

    sums : (is : List ℕ) → AllByRecursion (λ i. i < n) is → length (flat_map (λ i. map position (one_leaf_nodes i (peaks_of rule n))) is) ≤ 122 * length is
    sums [] h = omega arith
    sums (i ∷ is) h = omega (
      arith,
      length-append (map position (one_leaf_nodes i (peaks_of rule n))) (flat_map (λ i. map position (one_leaf_nodes i (peaks_of rule n))) is),
      length-map (one_leaf_nodes i (peaks_of rule n)) position,
      one i h.0,
      sums is h.1,
    )

    inside : (p : ℕ) → Member (multi_positions rule n locations) p → Member (flat_map (λ i. map position (one_leaf_nodes i (peaks_of rule n))) locations) p
    inside p m =
        let u = filtered_member (λ p. list_any (is_one_leaf_position (peaks_of rule n) p) locations) (range_with_len 0 (size rule n)) p m in
        let v = member_any (is_one_leaf_position (peaks_of rule n) p) locations u.1 in
        let x = member_any (λ t. nat_eq (position t) p) (one_leaf_nodes v.0 (peaks_of rule n)) v.2 in
        member_flat (λ i. map position (one_leaf_nodes i (peaks_of rule n))) locations v.0 p v.1
        (subst (Member (map position (one_leaf_nodes v.0 (peaks_of rule n)))) (eqb-true (position x.0) p x.2) (member_map position (one_leaf_nodes v.0 (peaks_of rule n)) x.0 x.1))

    all_below : length (multi_positions rule n locations) ≤ 122 * length locations
    all_below = omega (arith, no_longer (multi_positions rule n locations) _ (distinct_filter _ (range_with_len 0 (size rule n)) (distinct_range 0 (size rule n))) inside, sums locations below)

pub at_most_122 : {D : Type 0} → MultiSizeBound D
at_most_122 s max_nodes law n few bound locations below = positions_few s.rule s.max_leaves max_nodes law n few bound locations below
