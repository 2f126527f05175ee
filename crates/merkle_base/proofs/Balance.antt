-- Under a lawful rule: heights, balanced trees, and what follows.
use Rattle.std.proofs.Common.{◌≡◌, ℕ, zero, suc, ◌^◌, ◌≤◌, List, [], ◌∷◌, length, map, Some, slice_get, arith, refl, sym, ap, inl, inr, ◌∙◌, subst, pow-suc}
use Rattle.std.specs.List.{AllByRecursion}
use Rattle.merkle_base.specs.Tree.{Tree, leaf, join, height, first_leaf, width, IsUnder, IsBuilt, IsBalanced}
use Rattle.merkle_base.specs.Forest.{Forest, append_leaf, forest, Covers, IsUnderOne}
use Rattle.merkle_base.specs.Heights.{EqualAt, raised, all_raised, AreEqualMerges, peak_heights, MergesEqual, weight}
use Rattle.merkle_base.specs.Laws.{IsGrown}
use Rattle.merkle_base.proofs.Growth.{forest_grown}
use Rattle.merkle_base.proofs.Merges.{merge_peaks, merged, all_merged, merge_all-parts}
use Rattle.merkle_base.proofs.Nodes.{first_under, end_under, end_under_one, width_pos}

-- ---- the heights of the peaks
pub heights_joined : (p i : ℕ) (ts : List Tree) → map height (merge_peaks p i ts) ≡ raised i (map height ts)
heights_joined p i [] = refl
heights_joined p zero (b ∷ []) = refl
heights_joined p zero (b ∷ a ∷ ts) = refl
heights_joined p (suc i) (t ∷ ts) = ap (λ (hs : List ℕ). height t ∷ hs) (heights_joined p i ts)

pub heights_merges : (is : List ℕ) (f : Forest) → map height (all_merged is f).peaks ≡ all_raised is (map height f.peaks)
heights_merges [] f = refl
heights_merges (i ∷ is) f = heights_merges is (merged i f) ∙ ap (all_raised is) (heights_joined (length f.nodes) i f.peaks)

-- the heights of the peaks grow by themselves
pub heights_forest : (rule : List ℕ → List ℕ) (n : ℕ) → map height (forest rule n).peaks ≡ peak_heights rule n
unfolding forest peak_heights
heights_forest rule zero = refl
heights_forest rule (suc n) =
    let f : Forest = append_leaf n (forest rule n) in
    ap (λ (g : Forest). map height g.peaks) (merge_all-parts (rule (map height f.peaks)) f)
    ∙ heights_merges (rule (0 ∷ map height (forest rule n).peaks)) (append_leaf n (forest rule n)) ∙ ap (λ (hs : List ℕ). all_raised (rule (0 ∷ hs)) (0 ∷ hs)) (heights_forest rule n)

-- ---- balance
pub balanced_joined : (p i : ℕ) (ts : List Tree) → EqualAt i (map height ts) → AllByRecursion IsBalanced ts → AllByRecursion IsBalanced (merge_peaks p i ts)
balanced_joined p i [] e h = tt
balanced_joined p zero (b ∷ []) e h = h
balanced_joined p zero (b ∷ a ∷ ts) e h = ((e, h.1.0, h.0), h.1.1)
balanced_joined p (suc i) (t ∷ ts) e h = (h.0, balanced_joined p i ts e h.1)

pub balanced_merges : (is : List ℕ) (f : Forest) → AreEqualMerges is (map height f.peaks) → AllByRecursion IsBalanced f.peaks → AllByRecursion IsBalanced (all_merged is f).peaks
balanced_merges [] f e h = h
balanced_merges (i ∷ is) f e h =
    balanced_merges is (merged i f) (subst (AreEqualMerges is) (sym (heights_joined (length f.nodes) i f.peaks)) e.1) (balanced_joined (length f.nodes) i f.peaks e.0 h)

pub peaks_balanced : (rule : List ℕ → List ℕ) (max_leaves : ℕ) → MergesEqual rule max_leaves → (n : ℕ) → n ≤ max_leaves → AllByRecursion IsBalanced (forest rule n).peaks
unfolding forest
peaks_balanced rule max_leaves equal zero h = tt
peaks_balanced rule max_leaves equal (suc n) h =
    let f : Forest = append_leaf n (forest rule n) in
    subst (λ (g : Forest). AllByRecursion IsBalanced g.peaks) (sym (merge_all-parts (rule (map height f.peaks)) f))
    (balanced_merges (rule (map height f.peaks)) f
    (subst (λ (hs : List ℕ). AreEqualMerges (rule (0 ∷ hs)) (0 ∷ hs)) (sym (heights_forest rule n)) (equal n h))
    (tt, peaks_balanced rule max_leaves equal n (omega arith)))

pub balanced_under : (a t : Tree) → IsUnder a t → IsBalanced t → IsBalanced a
balanced_under a (leaf p n) u h = subst IsBalanced (sym u) h
balanced_under a (join p l r) u h = elim u [ inl e ↦ subst IsBalanced (sym e) h | inr v ↦ elim v [ inl w ↦ balanced_under a l w h.1 | inr w ↦ balanced_under a r w h.2 ] ]

pub balanced_under_one : (a : Tree) (ts : List Tree) → IsUnderOne a ts → AllByRecursion IsBalanced ts → IsBalanced a
balanced_under_one a [] u h = absurd u
balanced_under_one a (t ∷ ts) u h = elim u [ inl w ↦ balanced_under a t w h.0 | inr w ↦ balanced_under_one a ts w h.1 ]

pub node_balanced : (rule : List ℕ → List ℕ) (max_leaves : ℕ) → MergesEqual rule max_leaves → (n p : ℕ) (t : Tree) → n ≤ max_leaves → slice_get (forest rule n).nodes p ≡ Some t → IsBalanced t
node_balanced rule max_leaves equal n p t h e = balanced_under_one t (forest rule n).peaks ((forest_grown rule n).under p t e) (peaks_balanced rule max_leaves equal n h)

pub balanced_count : (t : Tree) → IsBalanced t → width t ≡ 2 ^ height t
balanced_count (leaf p n) h = refl
balanced_count (join p l r) h =
    let e : width r ≡ 2 ^ height l = balanced_count r h.2 ∙ ap (λ (k : ℕ). 2 ^ k) (sym h.0) in
    omega (arith, balanced_count l h.1, e, pow-suc 2 (height l))

pub height_under : (a t : Tree) → IsUnder a t → IsBalanced t → height a ≤ height t
height_under a (leaf p n) u h = rw u (omega arith)
height_under a (join p l r) u h = elim u [ inl e ↦ rw e (omega arith) | inr v ↦ elim v [ inl w ↦ omega (arith, height_under a l w h.1) | inr w ↦ omega (arith, height_under a r w h.2, h.0) ] ]

-- ---- a node is known by its first leaf and its height
pub same_under : (ns : List Tree) (a b t : Tree) → IsBuilt ns t → IsBalanced t → IsUnder a t → IsUnder b t → first_leaf a ≡ first_leaf b → height a ≡ height b → a ≡ b
same_under ns a b (leaf p n) k h u v f e = u ∙ sym v
same_under ns a b (join p l r) k h u v f e = elim u [
  | inl x ↦ elim v [
    | inl y ↦ x ∙ sym y
    | inr y ↦ elim y [
      | inl z ↦ absurd (omega (arith, ap height x, height_under b l z h.1))
      | inr z ↦ absurd (omega (arith, ap height x, height_under b r z h.2, h.0))
    ]
  ]
  | inr x ↦ elim x [
    | inl w ↦ elim v [
      | inl y ↦ absurd (omega (arith, ap height y, height_under a l w h.1))
      | inr y ↦ elim y [
        | inl z ↦ same_under ns a b l k.4 h.1 w z f e
        | inr z ↦ absurd (omega (arith, end_under ns a l w k.4, first_under ns b r z k.5, k.3, width_pos a))
      ]
    ]
    | inr w ↦ elim v [
      | inl y ↦ absurd (omega (arith, ap height y, height_under a r w h.2, h.0))
      | inr y ↦ elim y [
        | inl z ↦ absurd (omega (arith, end_under ns b l z k.4, first_under ns a r w k.5, k.3, width_pos b))
        | inr z ↦ same_under ns a b r k.5 h.2 w z f e
      ]
    ]
  ]
]

pub same_under_one : (ns : List Tree) (n : ℕ) (a b : Tree) (ts : List Tree) → Covers n ts → AllByRecursion (IsBuilt ns) ts
    → AllByRecursion IsBalanced ts → IsUnderOne a ts → IsUnderOne b ts → first_leaf a ≡ first_leaf b → height a ≡ height b → a ≡ b
same_under_one ns n a b [] c k h u v f e = absurd u
same_under_one ns n a b (t ∷ ts) c k h u v f e = elim u [
  | inl x ↦ elim v [
    | inl y ↦ same_under ns a b t k.0 h.0 x y f e
    | inr y ↦ absurd (omega (arith, first_under ns a t x k.0, end_under_one ns (first_leaf t) b ts c.1 k.1 y, width_pos b))
  ]
  | inr x ↦ elim v [
    | inl y ↦ absurd (omega (arith, first_under ns b t y k.0, end_under_one ns (first_leaf t) a ts c.1 k.1 x, width_pos a))
    | inr y ↦ same_under_one ns (first_leaf t) a b ts c.1 k.1 h.1 x y f e
  ]
]

pub same_node : (rule : List ℕ → List ℕ) (max_leaves : ℕ) → MergesEqual rule max_leaves → (n p q : ℕ) (a b : Tree) → n ≤ max_leaves
    → slice_get (forest rule n).nodes p ≡ Some a → slice_get (forest rule n).nodes q ≡ Some b → first_leaf a ≡ first_leaf b → height a ≡ height b → a ≡ b
same_node rule max_leaves equal n p q a b h d e f g =
    let k : IsGrown n (forest rule n) = forest_grown rule n in
    same_under_one (forest rule n).nodes n a b (forest rule n).peaks k.covers k.built (peaks_balanced rule max_leaves equal n h) (k.under p a d) (k.under q b e) f g

-- the peaks of n leaves have n leaves
pub covers_weight : (n : ℕ) (ts : List Tree) → Covers n ts → AllByRecursion IsBalanced ts → weight (map height ts) ≡ n
covers_weight n [] c b = sym c
covers_weight n (t ∷ ts) c b = omega (arith, c.0, covers_weight (first_leaf t) ts c.1 b.1, balanced_count t b.0)
