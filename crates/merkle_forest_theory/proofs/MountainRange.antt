-- The formulas of the Mountain Range.
use Rattle.std.proofs.Common.{◌≡◌, ℕ, zero, suc, ◌+◌, ◌*◌, ◌^◌, ◌<◌, ◌≤◌, List, [], ◌∷◌, ◌++◌, length, map, length-append, append_assoc, append-nil, Some}
use Rattle.std.proofs.Common.{slice_get, arith, refl, sym, ap, inl, inr, ◌∙◌, subst, pow-suc}
use Rattle.std.specs.List.{AllByRecursion, range_with_len}
use Rattle.std.proofs.lemmas.Bool.Decides.{eqb_tells}
use Rattle.merkle_base.specs.Tree.{Tree, leaf, join, position, height, first_leaf, width, IsUnder, IsBuilt, IsBalanced}
use Rattle.merkle_base.specs.Forest.{Forest, append_leaf, forest, size, Covers, IsUnderOne}
use Rattle.merkle_base.specs.Heights.{EqualAt, AreEqualMerges, born_heights, peak_heights, parent_heights, MergesEqual, weight}
use Rattle.merkle_forest_theory.specs.Ascending.{AscendsFrom}
use Rattle.merkle_forest_theory.specs.Mmr.{mmr_merges, mmr_merges_from, IsPostorder, Stacked, IsBornAt}
use Rattle.merkle_forest_theory.specs.Digits.{EndsInOnes}
use Rattle.merkle_forest_theory.proofs.RangeLawful.{mmr_merges_equal, mmr_ascends, mmr_weight, ascends_multiple}
use Rattle.merkle_base.proofs.Growth.{forest_grown, grown-append_leaf}
use Rattle.merkle_base.proofs.Merges.{parent_of_peaks, merge_peaks, merged, all_merged, merge_all-parts}
use Rattle.merkle_base.proofs.Lists.{get_below}
use Rattle.merkle_base.proofs.Balance.{heights_forest, heights_joined, peaks_balanced, covers_weight}
use Rattle.merkle_base.proofs.Births.{leaf_at, get_append_cases, all_get}
use Rattle.merkle_base.proofs.Nodes.{node_built, size_le, no_node}

-- ---- the parents
pub mmr_merges_born : (h : ℕ) (hs : List ℕ) → born_heights (mmr_merges_from h hs) (h ∷ hs) ≡ range_with_len (suc h) (length (mmr_merges_from h hs))
mmr_merges_born h [] = refl
mmr_merges_born h (a ∷ hs) = elim (eqb_tells a h) [
  | inl e ↦ (let d : suc h + 1 ≡ suc (suc h) = omega arith in rw (e.0, e.1, d) (ap (λ (xs : List ℕ). suc h ∷ xs) (mmr_merges_born (suc h) hs)))
  | inr e ↦ rw e.0 refl
]

pub mmr_merges_ends : (h : ℕ) (hs : List ℕ) → AscendsFrom h hs → (m : ℕ) × (weight hs + 2 ^ h ≡ (2 * m + 1) * 2 ^ (h + length (mmr_merges_from h hs)))
mmr_merges_ends h [] a = (0, (let e : h + 0 ≡ h = omega arith in rw e (omega arith)))
mmr_merges_ends h (b ∷ hs) a = elim (eqb_tells b h) [
  | inl e ↦ (let k = mmr_merges_ends (suc h) hs (rw e.1 at a.1) in
      let d : h + suc (length (mmr_merges_from (suc h) hs)) ≡ suc h + length (mmr_merges_from (suc h) hs) = omega arith in
      (k.0, rw (e.0, e.1, d) (omega (arith, k.1, pow-suc 2 h))))
  | inr e ↦ (let k = ascends_multiple (suc h) (b ∷ hs) (omega (arith, a.0, e.1), a.1) in
      let d : h + 0 ≡ h = omega arith in
      let f : k.0 * 2 ^ suc h ≡ k.0 * (2 ^ h * 2) = ap (λ (x : ℕ). k.0 * x) (pow-suc 2 h) in
      (k.0, rw (e.0, d) (omega (arith, k.1, f))))
]

-- 1 up to the number of n's lowest ones
pub mmr_parents : (n : ℕ) → (t : ℕ) × (parent_heights mmr_merges n ≡ range_with_len 1 t) × EndsInOnes t n
mmr_parents n =
    let hs : List ℕ = peak_heights mmr_merges n in
    let k = mmr_merges_ends 0 hs (mmr_ascends n) in
    let e : 0 + length (mmr_merges_from 0 hs) ≡ length (mmr_merges_from 0 hs) = omega arith in
    (length (mmr_merges_from 0 hs), mmr_merges_born 0 hs, (k.0, omega (arith, rw e at k.1, mmr_weight n)))

-- ---- positions
pub mmr_merges_zero : (h : ℕ) (hs : List ℕ) → AllByRecursion (λ i. i ≡ 0) (mmr_merges_from h hs)
mmr_merges_zero h [] = tt
mmr_merges_zero h (a ∷ hs) = elim (eqb_tells a h) [ inl e ↦ rw e.0 (refl, mmr_merges_zero (suc h) hs) | inr e ↦ rw e.0 tt ]

stacked_merge : (ns ts : List Tree) → EqualAt 0 (map height ts) → Stacked (length ns) ts → Stacked (length (ns ++ parent_of_peaks (length ns) 0 ts)) (merge_peaks (length ns) 0 ts)
stacked_merge ns [] e s = absurd e
stacked_merge ns (b ∷ []) e s = absurd e
stacked_merge ns (b ∷ a ∷ ts) e s =
    let same : 2 ^ suc (height b) ≡ 2 ^ suc (height a) = ap (λ (x : ℕ). 2 ^ suc x) (sym e) in
    let older = s.2.2 in
    let l : length (ns ++ join (length ns) a b ∷ []) ≡ length ns + 1 = omega (arith, length-append ns (join (length ns) a b ∷ [])) in (
      omega (arith, l),
      (omega (arith, s.0, s.2.1, older.0, same), s.0, older.1, s.1),
      (older.2.0, omega (arith, l, older.2.1, s.2.1, same, pow-suc 2 (suc (height a))), older.2.2),
    )

stacked_merges : (is : List ℕ) → AllByRecursion (λ i. i ≡ 0) is → (f : Forest) → AreEqualMerges is (map height f.peaks)
    → Stacked (length f.nodes) f.peaks → Stacked (length (all_merged is f).nodes) (all_merged is f).peaks
stacked_merges [] z f e s = s
stacked_merges (zero ∷ is) z f e s =
    stacked_merges is z.1 (merged 0 f) (subst (AreEqualMerges is) (sym (heights_joined (length f.nodes) 0 f.peaks)) e.1) (stacked_merge f.nodes f.peaks e.0 s)
stacked_merges (suc i ∷ is) z f e s = absurd (omega (arith, z.0))

pub mmr_stacked : (n : ℕ) → Stacked (size mmr_merges n) (forest mmr_merges n).peaks
unfolding forest
mmr_stacked zero = refl
mmr_stacked (suc n) =
    let f : Forest = append_leaf n (forest mmr_merges n) in
    let hs : List ℕ = map height (forest mmr_merges n).peaks in
    let l : length f.nodes ≡ size mmr_merges n + 1 = omega (arith, length-append (forest mmr_merges n).nodes (leaf (size mmr_merges n) n ∷ [])) in
    subst (λ (g : Forest). Stacked (length g.nodes) g.peaks) (sym (merge_all-parts (mmr_merges_from 0 hs) f))
    (stacked_merges (mmr_merges_from 0 hs) (mmr_merges_zero 0 hs) f (mmr_merges_equal 0 hs) (omega (arith, l), tt, (size mmr_merges n, omega (arith, l), mmr_stacked n)))

pub stacked_postorder : (s : ℕ) (a : Tree) (ts : List Tree) → Stacked s ts → IsUnderOne a ts → IsPostorder a
stacked_postorder s a [] h u = absurd u
stacked_postorder s a (t ∷ ts) h u = elim u [ inl w ↦ below a t w h.1 | inr w ↦ stacked_postorder h.2.0 a ts h.2.2 w ]
  where
    below : (a t : Tree) → IsUnder a t → IsPostorder t → IsPostorder a
    below a (leaf p n) u h = subst IsPostorder (sym u) h
    below a (join p l r) u h = elim u [ inl e ↦ subst IsPostorder (sym e) h | inr v ↦ elim v [ inl w ↦ below a l w h.2 | inr w ↦ below a r w h.3 ] ]

-- the children of each merged node stand where its position and height say
pub mmr_children : (n p : ℕ) (t : Tree) → slice_get (forest mmr_merges n).nodes p ≡ Some t → IsPostorder t
mmr_children n p t e = stacked_postorder (size mmr_merges n) t (forest mmr_merges n).peaks (mmr_stacked n) ((forest_grown mmr_merges n).under p t e)

postorder_position : (n : ℕ) (t : Tree) → IsBuilt (forest mmr_merges n).nodes t → IsPostorder t → position t + 2 ≡ size mmr_merges (first_leaf t) + 2 ^ suc (height t)
postorder_position n (leaf p k) b o = omega (arith, (leaf_at mmr_merges n p p k b).0)
postorder_position n (join p l r) b o = omega (arith, postorder_position n l b.4 o.2, o.0, pow-suc 2 (suc (height l)))

-- a node of height h over the leaves from s on stands 2 ^ (h + 1) - 2 after the position of leaf s
pub mmr_place : (n p : ℕ) (t : Tree) → slice_get (forest mmr_merges n).nodes p ≡ Some t → p + 2 ≡ size mmr_merges (first_leaf t) + 2 ^ suc (height t)
mmr_place n p t e = omega (arith, postorder_position n t (node_built mmr_merges n p t e) (mmr_children n p t e), (forest_grown mmr_merges n).placed p t e)

-- ---- births
pub mmr_equal : (m : ℕ) → MergesEqual mmr_merges m
mmr_equal m n h = mmr_merges_equal 0 (peak_heights mmr_merges n)

mmr_new : (n : ℕ) (hs : List ℕ) (h : ℕ) (ns ts : List Tree) → map height ts ≡ h ∷ hs → AscendsFrom h hs → Covers n ts → AllByRecursion IsBalanced ts →
    (js : List Tree) × ((all_merged (mmr_merges_from h hs) (record { nodes = ns; peaks = ts })).nodes ≡ ns ++ js) × AllByRecursion (IsBornAt n) js
mmr_new n [] h ns ts e a c b = ([], sym (append-nil ns), tt)
mmr_new n (x ∷ hs) h ns [] e a c b = absurd (cc)
mmr_new n (x ∷ hs) h ns (u ∷ []) e a c b = absurd (cc)
mmr_new n (x ∷ hs) h ns (u ∷ v ∷ ts) e a c b = elim (eqb_tells x h) [
  | inl q ↦
      (let new : Tree = join (length ns) v u in
      let hu : height u ≡ h = cc in
      let hv : height v ≡ x = cc in
      let ht : map height ts ≡ hs = cc in
      let same : height v ≡ height u = hv ∙ q.1 ∙ sym hu in
      let tops : suc (height v) ∷ map height ts ≡ suc h ∷ hs = (let d : height v ≡ h = hv ∙ q.1 in cc) in
      let rise : AscendsFrom (suc h) hs = rw q.1 at a.1 in
      let k = mmr_new n hs (suc h) (ns ++ new ∷ []) (new ∷ ts) tops rise (omega (arith, c.0, c.1.0), c.1.1) ((same, b.1.0, b.0), b.1.1) in
      let w : weight (map height ts) ≡ first_leaf v = covers_weight (first_leaf v) ts c.1.1 b.1.1 in
      let m = ascends_multiple (suc h) hs rise in
      let up : 2 ^ suc h ≡ 2 ^ suc (height v) = (let d : height v ≡ h = hv ∙ q.1 in ap (λ (y : ℕ). 2 ^ suc y) (sym d)) in
      rw q.0 (
        new ∷ k.0,
        k.1 ∙ append_assoc ns (new ∷ []) k.0,
        ((omega (arith, c.0, c.1.0), (m.0, sym w ∙ ap weight ht ∙ m.1 ∙ ap (λ (y : ℕ). m.0 * y) up)), k.2),
      ))
  | inr q ↦ rw q.0 ([], sym (append-nil ns), tt)
]

-- where a node stands and with which leaf it comes
pub record IsPlaced (p : ℕ) (t : Tree) : Type 0 where
  pub position : p + 2 ≡ size mmr_merges (first_leaf t) + 2 ^ suc (height t)
  pub present : p < size mmr_merges (first_leaf t + width t)
  pub absent : (b : ℕ) → b < first_leaf t + width t → size mmr_merges b ≤ p
  pub aligned : (a : ℕ) × (first_leaf t ≡ a * 2 ^ height t)

mmr_step : (n : ℕ) → (js : List Tree) × ((forest mmr_merges (suc n)).nodes ≡ (forest mmr_merges n).nodes ++ leaf (size mmr_merges n) n ∷ js) × AllByRecursion (IsBornAt (suc n)) js
unfolding forest
mmr_step n =
    let f : Forest = append_leaf n (forest mmr_merges n) in
    let hs : List ℕ = map height (forest mmr_merges n).peaks in
    let k : hs ≡ peak_heights mmr_merges n = heights_forest mmr_merges n in
    let b = mmr_new (suc n) hs 0 f.nodes f.peaks refl (subst (AscendsFrom 0) (sym k) (mmr_ascends n))
    (grown-append_leaf n (forest mmr_merges n) (forest_grown mmr_merges n)).covers (tt, peaks_balanced mmr_merges n (mmr_equal n) n (omega arith)) in
    (b.0, ap (λ (g : Forest). g.nodes) (merge_all-parts (mmr_merges_from 0 hs) f) ∙ b.1 ∙ append_assoc (forest mmr_merges n).nodes (leaf (size mmr_merges n) n ∷ []) b.0, b.2)

pub mmr_born : (n p : ℕ) (t : Tree) → slice_get (forest mmr_merges n).nodes p ≡ Some t → IsPlaced p t
mmr_born zero p t e = absurd (no_node mmr_merges p t e)
mmr_born (suc n) p t e =
    let s = mmr_step n in
    let l : p < size mmr_merges (suc n) = get_below (forest mmr_merges (suc n)).nodes p t e in
    elim (get_append_cases (forest mmr_merges n).nodes (leaf (size mmr_merges n) n ∷ s.0) p t (rw s.1 at e)) [
      | inl h ↦ mmr_born n p t h
      | inr h ↦
          (let q : IsBornAt (suc n) t = all_get (IsBornAt (suc n)) (leaf (size mmr_merges n) n ∷ s.0) h.0 t ((omega arith, (n, omega arith)), s.2) h.2 in
          record {
            position = mmr_place (suc n) p t e;
            present = rw q.0 l;
            absent = λ b d. omega (arith, size_le mmr_merges b n (omega (arith, q.0)), h.1);
            aligned = q.1;
          })
    ]
