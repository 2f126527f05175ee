-- The nodes that come with a leaf.
use Rattle.std.proofs.Common.{◌≡◌, ℕ, zero, suc, ◌+◌, ◌*◌, ◌<◌, ◌⊎◌, List, [], ◌∷◌, ◌++◌, length, map, take, append_assoc, append-nil, Some, slice_get}
use Rattle.std.proofs.Common.{slice_index, arith, refl, sym, ap, inl, inr, ◌∙◌, subst}
use Rattle.std.specs.List.{AllByRecursion}
use Rattle.std.proofs.lemmas.List.{length-map}
use Rattle.merkle_base.specs.Tree.{Tree, leaf, join, position, height, first_leaf, IsBalanced}
use Rattle.merkle_base.specs.Forest.{Forest, append_leaf, forest, size, Covers, IsJoin}
use Rattle.merkle_base.specs.Heights.{EqualAt, raised, AreEqualMerges, born_heights, peak_heights, parent_heights, MergesEqual, weight}
use Rattle.merkle_base.proofs.Growth.{forest_grown}
use Rattle.merkle_base.proofs.Merges.{parent_of_peaks, merge_peaks, merged, all_merged, merge_all-parts}
use Rattle.merkle_base.proofs.Nodes.{forest_step}
use Rattle.merkle_base.proofs.Balance.{heights_forest, heights_joined, balanced_count}

-- the new node of a merge
pub joined_born : (p i n : ℕ) (ts : List Tree) → EqualAt i (map height ts) → Covers n ts → AllByRecursion IsBalanced ts →
    (t : Tree) × (parent_of_peaks p i ts ≡ t ∷ []) × (position t ≡ p) × (height t ≡ slice_index (raised i (map height ts)) i) × (first_leaf t + weight (take (suc (suc i)) (map height ts)) ≡ n)
joined_born p i n [] e c h = absurd e
joined_born p zero n (b ∷ []) e c h = absurd e
joined_born p zero n (b ∷ a ∷ ts) e c h = (join p a b, refl, refl, refl, omega (arith, c.0, c.1.0, balanced_count a h.1.0, balanced_count b h.0))
joined_born p (suc i) n (t ∷ ts) e c h =
    let k = joined_born p i (first_leaf t) ts e c.1 h.1 in
    (k.0, k.1, k.2, k.3, omega (arith, c.0, k.4, balanced_count t h.0))

pub heights_born_joined : (p i : ℕ) (ts : List Tree) → EqualAt i (map height ts) → map height (parent_of_peaks p i ts) ≡ slice_index (raised i (map height ts)) i ∷ []
heights_born_joined p i [] e = absurd e
heights_born_joined p zero (b ∷ []) e = absurd e
heights_born_joined p zero (b ∷ a ∷ ts) e = refl
heights_born_joined p (suc i) (t ∷ ts) e = heights_born_joined p i ts e

pub map-append : (xs ys : List Tree) → map height (xs ++ ys) ≡ map height xs ++ map height ys
map-append [] ys = refl
map-append (x ∷ xs) ys = ap (λ (hs : List ℕ). height x ∷ hs) (map-append xs ys)

pub merges_born : (is : List ℕ) (f : Forest) → AreEqualMerges is (map height f.peaks) → (js : List Tree) × ((all_merged is f).nodes ≡ f.nodes ++ js)
    × (map height js ≡ born_heights is (map height f.peaks))
merges_born [] f e = ([], sym (append-nil f.nodes), refl)
merges_born (i ∷ is) f e =
    let one : List Tree = parent_of_peaks (length f.nodes) i f.peaks in
    let m : map height (merge_peaks (length f.nodes) i f.peaks) ≡ raised i (map height f.peaks) = heights_joined (length f.nodes) i f.peaks in
    let h = merges_born is (merged i f) (subst (AreEqualMerges is) (sym m) e.1) in (
      one ++ h.0,
      h.1 ∙ append_assoc f.nodes one h.0,
      map-append one h.0 ∙ ap (λ (hs : List ℕ). hs ++ map height h.0) (heights_born_joined (length f.nodes) i f.peaks e.0)
          ∙ ap (λ (hs : List ℕ). slice_index (raised i (map height f.peaks)) i ∷ hs) (h.2 ∙ ap (born_heights is) m),
    )

-- with leaf n come that leaf and parents of these heights
pub forest_born : (rule : List ℕ → List ℕ) (max_leaves : ℕ) → MergesEqual rule max_leaves → (n : ℕ) → n < max_leaves →
    (js : List Tree) × ((forest rule (suc n)).nodes ≡ (forest rule n).nodes ++ leaf (size rule n) n ∷ js) × (map height js ≡ parent_heights rule n)
unfolding forest
forest_born rule max_leaves equal n b =
    let f : Forest = append_leaf n (forest rule n) in
    let k : map height (forest rule n).peaks ≡ peak_heights rule n = heights_forest rule n in
    let h = merges_born (rule (map height f.peaks)) f (subst (λ (hs : List ℕ). AreEqualMerges (rule (0 ∷ hs)) (0 ∷ hs)) (sym k) (equal n b)) in (
      h.0,
      ap (λ (g : Forest). g.nodes) (merge_all-parts (rule (map height f.peaks)) f) ∙ h.1
          ∙ append_assoc (forest rule n).nodes (leaf (size rule n) n ∷ []) h.0,
      h.2 ∙ ap (λ (hs : List ℕ). born_heights (rule (0 ∷ hs)) (0 ∷ hs)) k,
    )

-- ---- where leaves stand
pub all_get : {X : Type 0} (P : X → Type 0) (xs : List X) (i : ℕ) (x : X) → AllByRecursion P xs → slice_get xs i ≡ Some x → P x
all_get P [] i x h e = absurd (cc)
all_get P (y ∷ xs) zero x h e = let d : y ≡ x = cc in subst P d h.0
all_get P (y ∷ xs) (suc i) x h e = all_get P xs i x h.1 e

pub get_append_cases : {X : Type 0} (xs ys : List X) (i : ℕ) (x : X) → slice_get (xs ++ ys) i ≡ Some x → (slice_get xs i ≡ Some x) ⊎ ((j : ℕ) × (i ≡ length xs + j) × (slice_get ys j ≡ Some x))
get_append_cases [] ys i x e = inr (i, omega arith, e)
get_append_cases (y ∷ xs) ys zero x e = inl e
get_append_cases (y ∷ xs) ys (suc i) x e = elim (get_append_cases xs ys i x e) [ inl h ↦ inl h | inr h ↦ inr (h.0, omega (arith, h.1), h.2) ]

pub leaf_at : (rule : List ℕ → List ℕ) (n p q k : ℕ) → slice_get (forest rule n).nodes p ≡ Some (leaf q k) → (q ≡ size rule k) × (k < n)
unfolding forest
leaf_at rule zero p q k e = absurd (cc)
leaf_at rule (suc n) p q k e =
    let s = forest_step rule n in
    elim (get_append_cases (forest rule n).nodes (leaf (size rule n) n ∷ s.0) p (leaf q k) (rw s.1 at e)) [
      | inl h ↦ (let r : (q ≡ size rule k) × (k < n) = leaf_at rule n p q k h in (r.0, omega (arith, r.1)))
      | inr h ↦ last rule n q k s.0 s.2 h.0 h.2
    ]
  where
    last : (rule : List ℕ → List ℕ) (n q k : ℕ) (js : List Tree) → AllByRecursion IsJoin js → (j : ℕ) → slice_get (leaf (size rule n) n ∷ js) j ≡ Some (leaf q k) → (q ≡ size rule k) × (k < suc n)
    last rule n q k js a zero e =
        let d : n ≡ k = cc in
        let c : size rule n ≡ q = cc in
        (sym c ∙ ap (size rule) d, omega arith)
    last rule n q k js a (suc j) e = absurd (all_get IsJoin js j (leaf q k) a e)

-- ---- sizes, under any rule: a merge gives one node for one peak
pub size_peaks : (rule : List ℕ → List ℕ) (n : ℕ) → size rule n + length (peak_heights rule n) ≡ 2 * n
size_peaks rule n =
    omega (arith, (forest_grown rule n).counted, ap length (heights_forest rule n), length-map (forest rule n).peaks height)
