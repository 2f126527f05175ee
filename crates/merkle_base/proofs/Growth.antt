-- What an appended leaf and a merge preserve, and so what holds of every forest.
use Rattle.std.proofs.Common.{◌≡◌, ℕ, zero, suc, ◌+◌, ◌<◌, ◌⊎◌, List, [], ◌∷◌, ◌++◌, length, map, length-append, append-nil, Some, slice_get, arith, refl, sym, subst, inl, inr, ◌∙◌}
use Rattle.std.specs.List.{AllByRecursion}
use Rattle.merkle_base.specs.Tree.{Tree, leaf, join, position, height, first_leaf, IsUnder, IsBuilt}
use Rattle.merkle_base.specs.Forest.{Forest, append_leaf, forest, Covers, IsUnderOne}
use Rattle.merkle_base.specs.Laws.{IsGrown}
use Rattle.merkle_base.proofs.Lists.{get_front, get_push, get_below, get_push_cases}
use Rattle.merkle_base.proofs.Merges.{empty_forest, parent_of_peaks, merge_peaks, merged, all_merged, merge_all-parts}

-- ---- induction
pub merges_keep : (P : ℕ → Forest → Type 0) → ((n i : ℕ) (f : Forest) → P n f → P n (merged i f)) → (n : ℕ) (is : List ℕ) (f : Forest) → P n f → P n (all_merged is f)
merges_keep P m n [] f h = h
merges_keep P m n (i ∷ is) f h = merges_keep P m n is (merged i f) (m n i f h)

-- what holds of the empty forest, and is preserved by an appended leaf and by a merge, holds of each forest
pub forest_induct : (P : ℕ → Forest → Type 0) → P 0 empty_forest → ((n : ℕ) (f : Forest) → P n f → P (suc n) (append_leaf n f))
    → ((n i : ℕ) (f : Forest) → P n f → P n (merged i f)) → (rule : List ℕ → List ℕ) (n : ℕ) → P n (forest rule n)
unfolding forest
forest_induct P z p m rule zero = z
forest_induct P z p m rule (suc n) =
    let f : Forest = append_leaf n (forest rule n) in
    let is : List ℕ = rule (map height f.peaks) in
    subst (P (suc n)) (sym (merge_all-parts is f)) (merges_keep P m (suc n) is f (p n (forest rule n) (forest_induct P z p m rule n)))

-- ---- nodes
pub IsBuilt-front : (ns ms : List Tree) (t : Tree) → IsBuilt ns t → IsBuilt (ns ++ ms) t
IsBuilt-front ns ms (leaf p n) h = get_front ns ms p (leaf p n) h
IsBuilt-front ns ms (join p l r) h =
    (get_front ns ms p (join p l r) h.0, h.1, h.2, h.3, IsBuilt-front ns ms l h.4, IsBuilt-front ns ms r h.5)

pub all_built_front : (ns ms : List Tree) (ts : List Tree) → AllByRecursion (IsBuilt ns) ts → AllByRecursion (IsBuilt (ns ++ ms)) ts
all_built_front ns ms [] h = tt
all_built_front ns ms (t ∷ ts) h = (IsBuilt-front ns ms t h.0, all_built_front ns ms ts h.1)

-- a built tree stands at its position
pub built_at : (ns : List Tree) (t : Tree) → IsBuilt ns t → slice_get ns (position t) ≡ Some t
built_at ns (leaf p n) h = h
built_at ns (join p l r) h = h.0

pub built_below : (ns : List Tree) (t : Tree) → IsBuilt ns t → position t < length ns
built_below ns t h = get_below ns (position t) t (built_at ns t h)

pub under_itself : (t : Tree) → IsUnder t t
under_itself (leaf p n) = refl
under_itself (join p l r) = inl refl

-- ---- one merge
pub covers_joined : (p i n : ℕ) (ts : List Tree) → Covers n ts → Covers n (merge_peaks p i ts)
covers_joined p i n [] h = h
covers_joined p zero n (b ∷ []) h = h
covers_joined p zero n (b ∷ a ∷ ts) h = (omega (arith, h.0, h.1.0), h.1.1)
covers_joined p (suc i) n (t ∷ ts) h = (h.0, covers_joined p i (first_leaf t) ts h.1)

pub built_joined : (ns : List Tree) (i n : ℕ) (ts : List Tree) → Covers n ts → AllByRecursion (IsBuilt ns) ts
    → AllByRecursion (IsBuilt (ns ++ parent_of_peaks (length ns) i ts)) (merge_peaks (length ns) i ts)
built_joined ns i n [] c h = tt
built_joined ns zero n (b ∷ []) c h = all_built_front ns [] (b ∷ []) h
built_joined ns zero n (b ∷ a ∷ ts) c h =
    let more : List Tree = join (length ns) a b ∷ [] in (
      (get_push ns [] (join (length ns) a b), built_below ns a h.1.0, built_below ns b h.0, c.1.0, IsBuilt-front ns more a h.1.0, IsBuilt-front ns more b h.0),
      all_built_front ns more ts h.1.1,
    )
built_joined ns (suc i) n (t ∷ ts) c h =
    (IsBuilt-front ns (parent_of_peaks (length ns) i ts) t h.0, built_joined ns i (first_leaf t) ts c.1 h.1)

pub under_joined : (p i : ℕ) (ts : List Tree) (a : Tree) → IsUnderOne a ts → IsUnderOne a (merge_peaks p i ts)
under_joined p i [] a h = h
under_joined p zero (b ∷ []) a h = h
under_joined p zero (b ∷ c ∷ ts) a h = elim h [ inl u ↦ inl (inr (inr u)) | inr v ↦ elim v [ inl u ↦ inl (inr (inl u)) | inr u ↦ inr u ] ]
under_joined p (suc i) (t ∷ ts) a h = elim h [ inl u ↦ inl u | inr v ↦ inr (under_joined p i ts a v) ]

-- there is no new node, or one, at p, which is a peak
pub joined_cases : (p i : ℕ) (ts : List Tree) → (parent_of_peaks p i ts ≡ []) ⊎ ((t : Tree) × (parent_of_peaks p i ts ≡ t ∷ []) × (position t ≡ p) × IsUnderOne t (merge_peaks p i ts))
joined_cases p i [] = inl refl
joined_cases p zero (b ∷ []) = inl refl
joined_cases p zero (b ∷ a ∷ ts) = inr (join p a b, refl, refl, inl (inl refl))
joined_cases p (suc i) (t ∷ ts) = elim (joined_cases p i ts) [ inl e ↦ inl e | inr h ↦ inr (h.0, h.1, h.2, inr h.3) ]

pub length-joined : (p i : ℕ) (ts : List Tree) → length (parent_of_peaks p i ts) + length (merge_peaks p i ts) ≡ length ts
length-joined p i [] = refl
length-joined p zero (b ∷ []) = refl
length-joined p zero (b ∷ a ∷ ts) = omega arith
length-joined p (suc i) (t ∷ ts) = omega (arith, length-joined p i ts)

-- a node of the list after a merge was there before, or is the new one
pub get_joined_cases : (ns : List Tree) (i p : ℕ) (ts : List Tree) (t : Tree) → slice_get (ns ++ parent_of_peaks (length ns) i ts) p ≡ Some t
    → (slice_get ns p ≡ Some t) ⊎ ((p ≡ length ns) × (position t ≡ length ns) × IsUnderOne t (merge_peaks (length ns) i ts))
get_joined_cases ns i p ts t e = elim (joined_cases (length ns) i ts) [
  | inl none ↦ inl (rw (none, append-nil) at e)
  | inr one ↦ elim (get_push_cases ns one.0 p t (rw one.1 at e)) [
    | inl h ↦ inl h
    | inr h ↦ inr (h.0, rw h.1 one.2, rw h.1 one.3)
  ]
]

-- ---- the law
pub grown-empty : IsGrown 0 empty_forest
grown-empty = record { placed = λ p t e. absurd (cc); covers = refl; built = tt; under = λ p t e. absurd (cc); counted = refl }

pub grown-append_leaf : (n : ℕ) (f : Forest) → IsGrown n f → IsGrown (suc n) (append_leaf n f)
grown-append_leaf n f g = record {
  placed = λ p t e. elim (get_push_cases f.nodes (leaf (length f.nodes) n) p t e) [ inl h ↦ g.placed p t h | inr h ↦ rw (h.1, h.0) refl ];
  covers = (omega arith, g.covers);
  built = (get_push f.nodes [] (leaf (length f.nodes) n), all_built_front f.nodes (leaf (length f.nodes) n ∷ []) f.peaks g.built);
  under = λ p t e. elim (get_push_cases f.nodes (leaf (length f.nodes) n) p t e) [ inl h ↦ inr (g.under p t h) | inr h ↦ inl h.1 ];
  counted = omega (arith, g.counted, length-append f.nodes (leaf (length f.nodes) n ∷ []));
}

pub grown-merged : (n i : ℕ) (f : Forest) → IsGrown n f → IsGrown n (merged i f)
grown-merged n i f g = record {
  placed = λ p t e. elim (get_joined_cases f.nodes i p f.peaks t e) [ inl h ↦ g.placed p t h | inr h ↦ h.1 ∙ sym h.0 ];
  covers = covers_joined (length f.nodes) i n f.peaks g.covers;
  built = built_joined f.nodes i n f.peaks g.covers g.built;
  under = λ p t e. elim (get_joined_cases f.nodes i p f.peaks t e) [ inl h ↦ under_joined (length f.nodes) i f.peaks t (g.under p t h) | inr h ↦ h.2 ];
  counted = omega (arith, g.counted, length-append f.nodes (parent_of_peaks (length f.nodes) i f.peaks), length-joined (length f.nodes) i f.peaks);
}

pub forest_grown : (rule : List ℕ → List ℕ) (n : ℕ) → IsGrown n (forest rule n)
forest_grown rule n = forest_induct IsGrown grown-empty grown-append_leaf grown-merged rule n
