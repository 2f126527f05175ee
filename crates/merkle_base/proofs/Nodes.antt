-- The nodes of a forest: where they stand, how they grow, and that each stands under one peak.
use Rattle.std.proofs.Common.{◌≡◌, ℕ, zero, suc, ◌+◌, ◌-◌, ◌<◌, ◌≤◌, List, [], ◌∷◌, ◌++◌, length, map, reverse, flat_map, length-append, append_assoc}
use Rattle.std.proofs.Common.{append-nil, Some, slice_get, arith, refl, sym, ap, inl, inr, ◌∙◌, subst}
use Rattle.std.specs.List.{AllByRecursion, range_with_len}
use Rattle.std.proofs.lemmas.List.{reverse-append}
use Rattle.std.proofs.lemmas.Bool.{cases_lt}
use Rattle.merkle_base.specs.Tree.{Tree, leaf, join, height, first_leaf, width, locations, IsUnder, IsBuilt}
use Rattle.merkle_base.specs.Forest.{Forest, append_leaf, forest, size, Covers, IsUnderOne, IsJoin}
use Rattle.merkle_base.specs.Laws.{IsGrown}
use Rattle.merkle_base.proofs.Lists.{get_front, get_push, get_below}
use Rattle.merkle_base.proofs.Growth.{forest_grown}
use Rattle.merkle_base.proofs.Merges.{parent_of_peaks, merged, all_merged, merge_all-parts}

-- ---- what stands under a built tree is built
pub built_under : (ns : List Tree) (a t : Tree) → IsUnder a t → IsBuilt ns t → IsBuilt ns a
built_under ns a (leaf p n) u h = subst (IsBuilt ns) (sym u) h
built_under ns a (join p l r) u h = elim u [ inl e ↦ subst (IsBuilt ns) (sym e) h | inr v ↦ elim v [ inl w ↦ built_under ns a l w h.4 | inr w ↦ built_under ns a r w h.5 ] ]

pub built_under_one : (ns : List Tree) (a : Tree) (ts : List Tree) → IsUnderOne a ts → AllByRecursion (IsBuilt ns) ts → IsBuilt ns a
built_under_one ns a [] u h = absurd u
built_under_one ns a (t ∷ ts) u h = elim u [ inl w ↦ built_under ns a t w h.0 | inr w ↦ built_under_one ns a ts w h.1 ]

-- each node is built: it stands at its position, its children before it, and so on down
pub node_built : (rule : List ℕ → List ℕ) (n p : ℕ) (t : Tree) → slice_get (forest rule n).nodes p ≡ Some t → IsBuilt (forest rule n).nodes t
node_built rule n p t e =
    let g : IsGrown n (forest rule n) = forest_grown rule n in
    built_under_one (forest rule n).nodes t (forest rule n).peaks (g.under p t e) g.built

-- ---- spans
pub width_pos : (t : Tree) → 0 < width t
width_pos (leaf p n) = omega arith
width_pos (join p l r) = omega (arith, width_pos l)

pub first_under : (ns : List Tree) (a t : Tree) → IsUnder a t → IsBuilt ns t → first_leaf t ≤ first_leaf a
first_under ns a (leaf p n) u h = rw u (omega arith)
first_under ns a (join p l r) u h = elim u [ inl e ↦ rw e (omega arith) | inr v ↦ elim v [ inl w ↦ first_under ns a l w h.4 | inr w ↦ omega (arith, first_under ns a r w h.5, h.3) ] ]

pub end_under : (ns : List Tree) (a t : Tree) → IsUnder a t → IsBuilt ns t → first_leaf a + width a ≤ first_leaf t + width t
end_under ns a (leaf p n) u h = rw u (omega arith)
end_under ns a (join p l r) u h = elim u [ inl e ↦ rw e (omega arith) | inr v ↦ elim v [ inl w ↦ omega (arith, end_under ns a l w h.4) | inr w ↦ omega (arith, end_under ns a r w h.5, h.3) ] ]

pub end_under_one : (ns : List Tree) (n : ℕ) (a : Tree) (ts : List Tree) → Covers n ts → AllByRecursion (IsBuilt ns) ts → IsUnderOne a ts → first_leaf a + width a ≤ n
end_under_one ns n a [] c h u = absurd u
end_under_one ns n a (t ∷ ts) c h u = elim u [ inl w ↦ omega (arith, end_under ns a t w h.0, c.0) | inr w ↦ omega (arith, end_under_one ns (first_leaf t) a ts c.1 h.1 w, c.0) ]

-- ---- lists of locations
pub range-add : (a m n : ℕ) → range_with_len a m ++ range_with_len (a + m) n ≡ range_with_len a (m + n)
range-add a zero n = ap₂' a n
  where
    ap₂' : (a n : ℕ) → range_with_len (a + 0) n ≡ range_with_len a (0 + n)
    ap₂' a n = rw (add0 a, zadd n) refl
      where
        add0 : (a : ℕ) → a + 0 ≡ a
        add0 a = omega arith

        zadd : (n : ℕ) → 0 + n ≡ n
        zadd n = omega arith
range-add a (suc m) n =
    let e : suc m + n ≡ suc (m + n) = omega arith in
    let d : a + suc m ≡ a + 1 + m = omega arith in
    rw (e, d) (ap (λ (xs : List ℕ). a ∷ xs) (range-add (a + 1) m n))

pub built_locations : (ns : List Tree) (t : Tree) → IsBuilt ns t → locations t ≡ range_with_len (first_leaf t) (width t)
built_locations ns (leaf p n) h = refl
built_locations ns (join p l r) h =
    rw (built_locations ns l h.4, built_locations ns r h.5, ← h.3) (range-add (first_leaf l) (width l) (width r))

-- ---- under exactly one peak
pub peak_of : (a : Tree) (ts : List Tree) → IsUnderOne a ts → (i : ℕ) × (t : Tree) × (slice_get ts i ≡ Some t) × IsUnder a t
peak_of a [] u = absurd u
peak_of a (t ∷ ts) u = elim u [ inl w ↦ (0, t, refl, w) | inr w ↦ (let h = peak_of a ts w in (suc h.0, h.1, h.2, h.3)) ]

pub under_get : (a : Tree) (ts : List Tree) (i : ℕ) (t : Tree) → slice_get ts i ≡ Some t → IsUnder a t → IsUnderOne a ts
under_get a [] i t e u = absurd (cc)
under_get a (s ∷ ts) zero t e u = inl (let d : s ≡ t = cc in subst (IsUnder a) (sym d) u)
under_get a (s ∷ ts) (suc i) t e u = inr (under_get a ts i t e u)

pub peak_unique : (ns : List Tree) (n : ℕ) (a : Tree) (ts : List Tree) → Covers n ts → AllByRecursion (IsBuilt ns) ts → (i j : ℕ) (s t : Tree)
    → slice_get ts i ≡ Some s → slice_get ts j ≡ Some t → IsUnder a s → IsUnder a t → i ≡ j
peak_unique ns n a [] c h i j s t d e u v = absurd (cc)
peak_unique ns n a (x ∷ ts) c h zero zero s t d e u v = refl
peak_unique ns n a (x ∷ ts) c h zero (suc j) s t d e u v =
    let same : x ≡ s = cc in
    absurd (omega (arith, first_under ns a x (subst (IsUnder a) (sym same) u) h.0, end_under_one ns (first_leaf x) a ts c.1 h.1 (under_get a ts j t e v), width_pos a))
peak_unique ns n a (x ∷ ts) c h (suc i) zero s t d e u v =
    let same : x ≡ t = cc in
    absurd (omega (arith, first_under ns a x (subst (IsUnder a) (sym same) v) h.0, end_under_one ns (first_leaf x) a ts c.1 h.1 (under_get a ts i s d u), width_pos a))
peak_unique ns n a (x ∷ ts) c h (suc i) (suc j) s t d e u v = ap suc (peak_unique ns (first_leaf x) a ts c.1 h.1 i j s t d e u v)

-- ---- growth
pub joins_of_joined : (p i : ℕ) (ts : List Tree) → AllByRecursion IsJoin (parent_of_peaks p i ts)
joins_of_joined p i [] = tt
joins_of_joined p zero (b ∷ []) = tt
joins_of_joined p zero (b ∷ a ∷ ts) = (tt, tt)
joins_of_joined p (suc i) (t ∷ ts) = joins_of_joined p i ts

pub all_append : {X : Type 0} (P : X → Type 0) (xs ys : List X) → AllByRecursion P xs → AllByRecursion P ys → AllByRecursion P (xs ++ ys)
all_append P [] ys h k = k
all_append P (x ∷ xs) ys h k = (h.0, all_append P xs ys h.1 k)

pub merges_append : (is : List ℕ) (f : Forest) → (js : List Tree) × ((all_merged is f).nodes ≡ f.nodes ++ js) × AllByRecursion IsJoin js
merges_append [] f = ([], sym (append-nil f.nodes), tt)
merges_append (i ∷ is) f =
    let h = merges_append is (merged i f) in
    let one : List Tree = parent_of_peaks (length f.nodes) i f.peaks in
    (one ++ h.0, h.1 ∙ append_assoc f.nodes one h.0, all_append IsJoin one h.0 (joins_of_joined (length f.nodes) i f.peaks) h.2)

-- with leaf n come that leaf and then merged nodes
pub forest_step : (rule : List ℕ → List ℕ) (n : ℕ) → (js : List Tree) × ((forest rule (suc n)).nodes ≡ (forest rule n).nodes ++ leaf (size rule n) n ∷ js) × AllByRecursion IsJoin js
unfolding forest
forest_step rule n =
    let f : Forest = append_leaf n (forest rule n) in
    let h = merges_append (rule (map height f.peaks)) f in
    (h.0, ap (λ (g : Forest). g.nodes) (merge_all-parts (rule (map height f.peaks)) f) ∙ h.1 ∙ append_assoc (forest rule n).nodes (leaf (size rule n) n ∷ []) h.0, h.2)

pub forest_prefix_add : (rule : List ℕ → List ℕ) (n k : ℕ) → (js : List Tree) × ((forest rule (k + n)).nodes ≡ (forest rule n).nodes ++ js)
forest_prefix_add rule n zero = ([], rw (e, append-nil) refl)
  where
    e : 0 + n ≡ n
    e = omega arith
forest_prefix_add rule n (suc k) =
    let e : suc k + n ≡ suc (k + n) = omega arith in
    let h = forest_prefix_add rule n k in
    let s = forest_step rule (k + n) in
    (h.0 ++ leaf (size rule (k + n)) (k + n) ∷ s.0, rw e (s.1 ∙ ap (λ (xs : List Tree). xs ++ leaf (size rule (k + n)) (k + n) ∷ s.0) h.1 ∙ append_assoc (forest rule n).nodes h.0 _))

-- a smaller forest's nodes are the first of a larger one's
pub forest_prefix : (rule : List ℕ → List ℕ) (n m : ℕ) → n ≤ m → (js : List Tree) × ((forest rule m).nodes ≡ (forest rule n).nodes ++ js)
forest_prefix rule n m h =
    let e : m - n + n ≡ m = omega arith in
    subst (λ (k : ℕ). (js : List Tree) × ((forest rule k).nodes ≡ (forest rule n).nodes ++ js)) e (forest_prefix_add rule n (m - n))

pub node_stays : (rule : List ℕ → List ℕ) (n m p : ℕ) (t : Tree) → n ≤ m → slice_get (forest rule n).nodes p ≡ Some t → slice_get (forest rule m).nodes p ≡ Some t
node_stays rule n m p t h e =
    let k = forest_prefix rule n m h in
    rw k.1 (get_front (forest rule n).nodes k.0 p t e)

pub size_step : (rule : List ℕ → List ℕ) (n : ℕ) → size rule n < size rule (suc n)
size_step rule n =
    let s = forest_step rule n in
    omega (arith, ap length s.1, length-append (forest rule n).nodes (leaf (size rule n) n ∷ s.0))

pub size_le : (rule : List ℕ → List ℕ) (n m : ℕ) → n ≤ m → size rule n ≤ size rule m
size_le rule n m h = let k = forest_prefix rule n m h in omega (arith, ap length k.1, length-append (forest rule n).nodes k.0)

pub size_lt : (rule : List ℕ → List ℕ) (n m : ℕ) → n < m → size rule n < size rule m
size_lt rule n m h = omega (arith, size_step rule n, size_le rule (suc n) m h)

-- ---- leaf n stands at the size of n leaves
pub leaf_here : (rule : List ℕ → List ℕ) (n m : ℕ) → n < m → slice_get (forest rule m).nodes (size rule n) ≡ Some (leaf (size rule n) n)
leaf_here rule n m h =
    let s = forest_step rule n in
    node_stays rule (suc n) m (size rule n) (leaf (size rule n) n) h (rw s.1 (get_push (forest rule n).nodes s.0 (leaf (size rule n) n)))

-- ---- back to a smaller forest
pub get_front_back : {A : Type 0} (xs ys : List A) (p : ℕ) (t : A) → p < length xs → slice_get (xs ++ ys) p ≡ Some t → slice_get xs p ≡ Some t
get_front_back [] ys p t l e = absurd (omega arith)
get_front_back (x ∷ xs) ys zero t l e = e
get_front_back (x ∷ xs) ys (suc p) t l e = get_front_back xs ys p t (omega arith) e

-- a node stands in every forest that is large enough to have its position
pub node_anywhere : (rule : List ℕ → List ℕ) (n m p : ℕ) (t : Tree) → slice_get (forest rule n).nodes p ≡ Some t → p < size rule m → slice_get (forest rule m).nodes p ≡ Some t
node_anywhere rule n m p t e l = elim (cases_lt m n) [
  | inl h ↦ (let k = forest_prefix rule m n (omega arith) in get_front_back (forest rule m).nodes k.0 p t l (rw k.1 at e))
  | inr h ↦ node_stays rule n m p t h e
]

pub no_node : (rule : List ℕ → List ℕ) (p : ℕ) (t : Tree) → slice_get (forest rule 0).nodes p ≡ Some t → ⊥
unfolding forest
no_node rule p t e = absurd (cc)

-- ---- the leaves of the peaks, from left to right
flat-append : (xs ys : List Tree) → flat_map locations (xs ++ ys) ≡ flat_map locations xs ++ flat_map locations ys
flat-append [] ys = refl
flat-append (x ∷ xs) ys = ap (λ (ns : List ℕ). locations x ++ ns) (flat-append xs ys) ∙ sym (append_assoc (locations x) (flat_map locations xs) (flat_map locations ys))

pub covered_locations : (ns : List Tree) (n : ℕ) (ts : List Tree) → Covers n ts → AllByRecursion (IsBuilt ns) ts → flat_map locations (reverse ts) ≡ range_with_len 0 n
covered_locations ns n [] c h = rw c refl
covered_locations ns n (t ∷ ts) c h =
    ap (flat_map locations) (reverse-append (t ∷ []) ts) ∙ flat-append (reverse ts) (t ∷ []) ∙ ap (λ (xs : List ℕ). flat_map locations (reverse ts) ++ xs) (append-nil (locations t))
    ∙ rw (covered_locations ns (first_leaf t) ts c.1 h.1, built_locations ns t h.0, ← c.0) (range-add0 (first_leaf t) (width t))
  where
    range-add0 : (m n : ℕ) → range_with_len 0 m ++ range_with_len m n ≡ range_with_len 0 (m + n)
    range-add0 m n = (let e : 0 + m ≡ m = omega arith in rw e at (range-add 0 m n))

-- two forests have one node at a position that both have
pub same_position : (rule : List ℕ → List ℕ) (n m p : ℕ) (s t : Tree) → slice_get (forest rule n).nodes p ≡ Some s → slice_get (forest rule m).nodes p ≡ Some t → s ≡ t
same_position rule n m p s t d e =
    let k : slice_get (forest rule m).nodes p ≡ Some s = node_anywhere rule n m p s d (get_below (forest rule m).nodes p t e) in
    cc

-- sizes tell leaf counts apart
pub size_inj : (rule : List ℕ → List ℕ) (n m : ℕ) → size rule n ≡ size rule m → n ≡ m
size_inj rule n m e = grind (arith, size_lt rule n m, size_lt rule m n)
