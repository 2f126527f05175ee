-- Which dirty parents are listed, and how many there are.
use Rattle.std.proofs.Common.{◌≡◌, ℕ, zero, suc, ◌+◌, List, [], ◌∷◌, ◌++◌, length, length-append, append-nil, reverse, Option, Some, Bool, true, false, cond}
use Rattle.std.proofs.Common.{slice_get, arith, refl, sym, ap, subst, inl, inr, ◌∙◌}
use Rattle.std.specs.Prelude.{◌==◌, ◌&&◌}
use Rattle.std.specs.List.{Contains, filter, flat_map}
use Rattle.std.proofs.lemmas.Bool.{and_parts, eq-eqb}
use Rattle.std.proofs.lemmas.Bool.Decides.{eqb_tells}
use Rattle.std.proofs.lemmas.Grind.{flat_map-append}
use Rattle.std.proofs.lemmas.List.{reverse-append}
use Rattle.std.proofs.lemmas.List.Elements.{Contains-append_left, Contains-append_right, Contains-append_cases, filter-append}
use Rattle.merkle_base.specs.Tree.{Tree, leaf, join, position, height, IsUnder, IsBuilt}
use Rattle.merkle_base.specs.Forest.{forest}
use Rattle.merkle_base.proofs.Merges.{parent_of_peaks, merge_peaks}
use Rattle.merkle_base.specs.Places.{peaks_of}
use Rattle.merkle_base.proofs.Births.{all_get}
use Rattle.merkle_base.proofs.Growth.{forest_induct, forest_grown, built_at}
use Rattle.merkle_base.proofs.Nodes.{built_under, peak_of}
use Rattle.merkle_base.proofs.PeakLists.{peaks_built}
use Rattle.merkle_batch_theory.specs.History.{is_dirty}
use Rattle.merkle_draft.specs.Levels.{is_dirty_parent, dirty_at, all_dirty_count}
use Rattle.merkle_draft.proofs.Marking.{counted_append}
use Rattle.merkle_draft.proofs.Adding.{contains_none, contains_one, contains_if}

-- ---- elements of mapped lists
contains_flat : {X Y : Type 0} (f : X → List Y) (xs : List X) (y : Y) → Contains (flat_map f xs) y → (i : ℕ) × (x : X) × (slice_get xs i ≡ Some x) × Contains (f x) y
contains_flat f [] y c = absurd (contains_none y c)
contains_flat f (x ∷ xs) y c = elim (Contains-append_cases (f x) (flat_map f xs) y c) [
  | inl k ↦ (0, x, refl, k)
  | inr k ↦ (let w = contains_flat f xs y k in (suc w.0, w.1, w.2, w.3))
]

contains_flat_reverse : {X Y : Type 0} (f : X → List Y) (xs : List X) (i : ℕ) (x : X) (y : Y) → slice_get xs i ≡ Some x → Contains (f x) y → Contains (flat_map f (reverse xs)) y
contains_flat_reverse f [] i x y e c = absurd (cc)
contains_flat_reverse f (z ∷ xs) zero x y e c =
    subst (λ ys. Contains ys y) (sym (ap (flat_map f) (reverse-append (z ∷ []) xs) ∙ flat_map-append f (reverse xs) (z ∷ [])))
    (Contains-append_right (flat_map f (reverse xs)) (flat_map f (z ∷ [])) y (Contains-append_left (f z) [] y (let same : z ≡ x = cc in subst (λ v. Contains (f v) y) (sym same) c)))
contains_flat_reverse f (z ∷ xs) (suc i) x y e c =
    subst (λ ys. Contains ys y) (sym (ap (flat_map f) (reverse-append (z ∷ []) xs) ∙ flat_map-append f (reverse xs) (z ∷ [])))
    (Contains-append_left (flat_map f (reverse xs)) (flat_map f (z ∷ [])) y (contains_flat_reverse f xs i x y e c))

module _ {D : Type 0} (m : ℕ → Option D) where
  -- ---- the listed positions of a tree
  sound_under : (h p : ℕ) (t : Tree) → Contains (dirty_at m h t) p → (a : Tree) × IsUnder a t × (position a ≡ p) × (height a ≡ h) × (is_dirty_parent m a ≡ true)
  sound_under h p (leaf q n) c = absurd (contains_none p c)
  sound_under h p (join q l r) c = elim (Contains-append_cases (dirty_at m h l ++ dirty_at m h r) (cond (is_dirty m (join q l r) && (h == suc (height l))) (q ∷ []) []) p c) [
    | inl x ↦ elim (Contains-append_cases (dirty_at m h l) (dirty_at m h r) p x) [
      | inl y ↦ (let w = sound_under h p l y in (w.0, inr (inl w.1), w.2, w.3, w.4))
      | inr y ↦ (let w = sound_under h p r y in (w.0, inr (inr w.1), w.2, w.3, w.4))
    ]
    | inr x ↦ (let f = contains_if (is_dirty m (join q l r) && (h == suc (height l))) q p x in
        let b = and_parts (is_dirty m (join q l r)) (h == suc (height l)) f.0 in
        (join q l r, inl refl, sym f.1, tall (suc (height l)) b.1, b.0))
  ]
    where
      tall : (k : ℕ) → (h == k) ≡ true → k ≡ h
      tall k t = elim (eqb_tells h k) [ inl s ↦ sym s.1 | inr s ↦ absurd (let x : false ≡ true = sym s.0 ∙ t in cc) ]

  complete_under : (a t : Tree) → IsUnder a t → is_dirty_parent m a ≡ true → Contains (dirty_at m (height a) t) (position a)
  complete_under a (leaf q n) u d = absurd (let x : false ≡ true = sym (ap (is_dirty_parent m) u) ∙ d in cc)
  complete_under a (join q l r) u d = elim u [
    | inl e ↦ subst (λ z. Contains (dirty_at m (height z) (join q l r)) (position z)) (sym e)
        (Contains-append_right (dirty_at m (suc (height l)) l ++ dirty_at m (suc (height l)) r) (cond (is_dirty m (join q l r) && (suc (height l) == suc (height l))) (q ∷ []) []) q
        (subst (λ b. Contains (cond b (q ∷ []) []) q) (sym (own (subst (λ z. is_dirty_parent m z ≡ true) e d))) (contains_one q)))
    | inr v ↦ Contains-append_left (dirty_at m (height a) l ++ dirty_at m (height a) r) (cond (is_dirty m (join q l r) && (height a == suc (height l))) (q ∷ []) []) (position a)
        (elim v [
          | inl w ↦ Contains-append_left (dirty_at m (height a) l) (dirty_at m (height a) r) (position a) (complete_under a l w d)
          | inr w ↦ Contains-append_right (dirty_at m (height a) l) (dirty_at m (height a) r) (position a) (complete_under a r w d)
        ])
  ]
    where
      own : is_dirty m (join q l r) ≡ true → (is_dirty m (join q l r) && (suc (height l) == suc (height l))) ≡ true
      own e = ap (λ b. b && (suc (height l) == suc (height l))) e ∙ eq-eqb (suc (height l)) (suc (height l)) refl

  -- ---- those of a forest
  pub parents_sound : (rule : List ℕ → List ℕ) (n h p : ℕ) → Contains (flat_map (dirty_at m h) (peaks_of rule n)) p → (a : Tree)
      × (slice_get (forest rule n).nodes p ≡ Some a) × (height a ≡ h) × (is_dirty_parent m a ≡ true)
  parents_sound rule n h p c =
      let w = contains_flat (dirty_at m h) (peaks_of rule n) p c in
      let k = sound_under h p w.1 w.3 in
      let b = built_under (forest rule n).nodes k.0 w.1 k.1 (all_get (IsBuilt (forest rule n).nodes) (peaks_of rule n) w.0 w.1 (peaks_built rule n) w.2) in
      (k.0, ap (slice_get (forest rule n).nodes) (sym k.2) ∙ built_at (forest rule n).nodes k.0 b, k.3, k.4)

  pub parents_complete : (rule : List ℕ → List ℕ) (n p : ℕ) (a : Tree) → slice_get (forest rule n).nodes p ≡ Some a → is_dirty_parent m a ≡ true
      → Contains (flat_map (dirty_at m (height a)) (peaks_of rule n)) p
  parents_complete rule n p a e d =
      let g = forest_grown rule n in
      let w = peak_of a (forest rule n).peaks (g.under p a e) in
      subst (Contains (flat_map (dirty_at m (height a)) (peaks_of rule n))) (g.placed p a e)
      (contains_flat_reverse (dirty_at m (height a)) (forest rule n).peaks w.0 w.1 (position a) w.2 (complete_under a w.1 w.3 d))

  -- ---- how many
  one_counted : (t : Tree) (b : Bool) → length (cond b (t ∷ []) []) ≡ cond b 1 0
  one_counted t true = refl
  one_counted t false = refl

  merge_counted : (p i : ℕ) (ts : List Tree) → length (filter (is_dirty_parent m) (parent_of_peaks p i ts)) + all_dirty_count m ts ≡ all_dirty_count m (merge_peaks p i ts)
  merge_counted p i [] = refl
  merge_counted p zero (b ∷ []) = omega arith
  merge_counted p zero (b ∷ a ∷ ts) = omega (arith, one_counted (join p a b) (is_dirty m (join p a b)))
  merge_counted p (suc i) (t ∷ ts) = omega (arith, merge_counted p i ts)

  filter_counted : (xs ys : List Tree) → length (filter (is_dirty_parent m) (xs ++ ys)) ≡ length (filter (is_dirty_parent m) xs) + length (filter (is_dirty_parent m) ys)
  filter_counted xs ys = ap length (filter-append (is_dirty_parent m) xs ys) ∙ length-append (filter (is_dirty_parent m) xs) (filter (is_dirty_parent m) ys)

  forest_counted : (rule : List ℕ → List ℕ) (n : ℕ) → length (filter (is_dirty_parent m) (forest rule n).nodes) ≡ all_dirty_count m (forest rule n).peaks
  forest_counted rule n = forest_induct (λ k f. length (filter (is_dirty_parent m) f.nodes) ≡ all_dirty_count m f.peaks) refl
      (λ k f e. ap length (filter-append (is_dirty_parent m) f.nodes (leaf (length f.nodes) k ∷ []) ∙ append-nil (filter (is_dirty_parent m) f.nodes)) ∙ e ∙ nothing_more (all_dirty_count m f.peaks))
      (λ k i f e. omega (arith, e, filter_counted f.nodes (parent_of_peaks (length f.nodes) i f.peaks), merge_counted (length f.nodes) i f.peaks)) rule n
    where
      nothing_more : (k : ℕ) → k ≡ 0 + k
      nothing_more k = omega arith

  reverse_counted : (ts : List Tree) → all_dirty_count m (reverse ts) ≡ all_dirty_count m ts
  reverse_counted [] = refl
  reverse_counted (t ∷ ts) = omega (arith, ap (all_dirty_count m) (reverse-append (t ∷ []) ts), counted_append m (reverse ts) (t ∷ []), reverse_counted ts)

  -- as many nodes as its peaks have together
  pub parents_counted : (rule : List ℕ → List ℕ) (n : ℕ) → all_dirty_count m (peaks_of rule n) ≡ length (filter (is_dirty_parent m) (forest rule n).nodes)
  parents_counted rule n = reverse_counted (forest rule n).peaks ∙ sym (forest_counted rule n)
