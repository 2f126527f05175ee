-- What is listed when the dirty parents, or the new ones, are added to empty lists.
use Rattle.std.proofs.Common.{◌≡◌, ℕ, zero, suc, ◌+◌, ◌<◌, ◌≤◌, List, [], ◌∷◌, ◌++◌, length, length-append, Option, Some, Bool, true, cond, slice_get, arith}
use Rattle.std.proofs.Common.{refl, sym, ap, subst, inl, inr, ◌∙◌, le-leb}
use Rattle.std.specs.Prelude.{◌||◌}
use Rattle.std.specs.List.{Contains, filter, flat_map}
use Rattle.std.proofs.lemmas.Bool.{lt-leb}
use Rattle.std.proofs.lemmas.List.Elements.{filter-append}
use Rattle.merkle_base.specs.Tree.{Tree, leaf, join, position, height}
use Rattle.merkle_base.specs.Forest.{forest, size, IsJoin}
use Rattle.merkle_base.specs.Places.{peaks_of}
use Rattle.merkle_base.proofs.Births.{all_get}
use Rattle.merkle_base.proofs.Growth.{forest_grown}
use Rattle.merkle_base.proofs.Lists.{get_below}
use Rattle.merkle_base.proofs.Lookup.{get_append_add}
use Rattle.merkle_base.proofs.Nodes.{forest_step, node_anywhere, size_le}
use Rattle.merkle_batch_theory.specs.History.{is_dirty}
use Rattle.merkle_batch_theory.specs.Needed.{is_computed, computed_nodes}
use Rattle.merkle_draft.specs.Levels.{level_at, ArePlanned, all_dirty_count, is_dirty_parent, dirty_at, AreMarked, AreAdded}
use Rattle.merkle_draft.proofs.Adding.{contains_none}
use Rattle.merkle_draft.proofs.DirtyParents.{parents_sound, parents_complete, parents_counted}

-- ---- filters by their tests
filter_same : (p q : Tree → Bool) (ts : List Tree) → ((i : ℕ) (t : Tree) → slice_get ts i ≡ Some t → p t ≡ q t) → filter p ts ≡ filter q ts
filter_same p q [] h = refl
filter_same p q (t ∷ ts) h = (let rest = filter_same p q ts (λ i s e. h (suc i) s e) in λ i. cond (h 0 t refl i) (t ∷ rest i) (rest i))

filter_all : (p : Tree → Bool) (ts : List Tree) → ((i : ℕ) (t : Tree) → slice_get ts i ≡ Some t → p t ≡ true) → filter p ts ≡ ts
filter_all p [] h = refl
filter_all p (t ∷ ts) h = ap (λ b. cond b (t ∷ filter p ts) (filter p ts)) (h 0 t refl) ∙ ap (λ xs. t ∷ xs) (filter_all p ts (λ i s e. h (suc i) s e))

module _ {D : Type 0} (rule : List ℕ → List ℕ) (m : ℕ → Option D) (n : ℕ) where
  -- ---- which nodes are computed
  -- of the old nodes the dirty parents
  old_computed : (t : Tree) → position t < size rule n → is_computed rule m n t ≡ is_dirty_parent m t
  old_computed (leaf p k) l = refl
  old_computed (join p a b) l = ap (λ x. x || is_dirty m (join p a b)) (lt-leb (size rule n) p l)

  -- of the new ones all parents
  new_computed : (t : Tree) → size rule n ≤ position t → IsJoin t → is_computed rule m n t ≡ true
  new_computed (leaf p k) l j = absurd j
  new_computed (join p a b) l j = ap (λ x. x || is_dirty m (join p a b)) (le-leb (size rule n) p l)

  -- ---- how many
  computed_counted : (k : ℕ) → length (computed_nodes rule m n (k + n)) + k + size rule n ≡ length (filter (is_dirty_parent m) (forest rule n).nodes) + size rule (k + n)
  computed_counted zero =
      (let e : 0 + n ≡ n = omega arith in
      let same = filter_same (is_computed rule m n) (is_dirty_parent m) (forest rule n).nodes
      (λ i t f. old_computed t (omega (arith, (forest_grown rule n).placed i t f, get_below (forest rule n).nodes i t f))) in
      subst (λ (x : ℕ). length (computed_nodes rule m n x) + 0 + size rule n ≡ length (filter (is_dirty_parent m) (forest rule n).nodes) + size rule x) (sym e) (omega (arith, ap length same)))
  computed_counted (suc k) =
      (let e : suc k + n ≡ suc (k + n) = omega arith in
      let s = forest_step rule (k + n) in
      let old : List Tree = (forest rule (k + n)).nodes in
      let first : Tree = leaf (size rule (k + n)) (k + n) in
      let fresh : filter (is_computed rule m n) s.0 ≡ s.0 = filter_all (is_computed rule m n) s.0 (λ i t f.
      (let there : slice_get (forest rule (suc (k + n))).nodes (size rule (k + n) + suc i) ≡ Some t =
      ap (λ ns. slice_get ns (size rule (k + n) + suc i)) s.1 ∙ get_append_add old (first ∷ s.0) (suc i) ∙ f in
      new_computed t (omega (arith, (forest_grown rule (suc (k + n))).placed (size rule (k + n) + suc i) t there, size_le rule n (k + n) (omega arith))) (all_get IsJoin s.0 i t s.2 f))) in
      let grown : computed_nodes rule m n (suc (k + n)) ≡ computed_nodes rule m n (k + n) ++ s.0 =
      ap (filter (is_computed rule m n)) s.1 ∙ filter-append (is_computed rule m n) old (first ∷ s.0) ∙ ap (λ xs. computed_nodes rule m n (k + n) ++ xs) fresh in
      subst (λ (x : ℕ). length (computed_nodes rule m n x) + suc k + size rule n ≡ length (filter (is_dirty_parent m) (forest rule n).nodes) + size rule x) (sym e)
      (omega (arith, computed_counted k, ap length grown, length-append (computed_nodes rule m n (k + n)) s.0, ap length s.1, length-append old (first ∷ s.0))))

  -- the dirty parents and the new ones are all that are computed
  pub all_counted : (k dirty new : ℕ) → dirty ≡ all_dirty_count m (peaks_of rule n) → new + k + size rule n ≡ size rule (n + k) → dirty + new ≡ length (computed_nodes rule m n (n + k))
  all_counted k dirty new is sized =
      (let same : k + n ≡ n + k = omega arith in
      omega (
        arith,
        subst (λ (x : ℕ). length (computed_nodes rule m n x) + k + size rule n
            ≡ length (filter (is_dirty_parent m) (forest rule n).nodes) + size rule x) same (computed_counted k),
        is,
        sized,
        parents_counted m rule n,
      ))

  -- ---- which positions
  module _ (ls : List (List ℕ)) (marked : AreMarked m (peaks_of rule n) [] ls) where
    dirty_sound : (h p : ℕ) → Contains (level_at ls h) p → (t : Tree) × (slice_get (forest rule n).nodes p ≡ Some t) × (height t ≡ h) × (is_computed rule m n t ≡ true)
    dirty_sound h p c =
        (let w = parents_sound m rule n h p (subst (λ xs. Contains xs p) (marked.listed h) c) in
        let low : position w.0 < size rule n = omega (arith, (forest_grown rule n).placed p w.0 w.1, get_below (forest rule n).nodes p w.0 w.1) in
        (w.0, w.1, w.2, old_computed w.0 low ∙ w.3))

    dirty_complete : (h p : ℕ) (t : Tree) → slice_get (forest rule n).nodes p ≡ Some t → height t ≡ h → is_computed rule m n t ≡ true → Contains (level_at ls h) p
    dirty_complete h p t there tall c =
        (let low : position t < size rule n = omega (arith, (forest_grown rule n).placed p t there, get_below (forest rule n).nodes p t there) in
        subst (λ xs. Contains xs p) (sym (marked.listed h))
        (subst (λ (k : ℕ). Contains (flat_map (dirty_at m k) (peaks_of rule n)) p) tall (parents_complete m rule n p t there (sym (old_computed t low) ∙ c))))

    pub dirty_planned : ArePlanned rule m n 0 n ls
    dirty_planned h p = (dirty_sound h p, λ t there tall c from. dirty_complete h p t there tall c)

  module _ (max start e : ℕ) (after : n ≤ start) (within : e ≤ max) (old new : List (List ℕ)) (none : (h : ℕ) → level_at old h ≡ [])
      (added : AreAdded rule max (size rule start) (size rule e) old new) where
    added_sound : (h p : ℕ) → Contains (level_at new h) p → (t : Tree) × (slice_get (forest rule e).nodes p ≡ Some t) × (height t ≡ h) × (is_computed rule m n t ≡ true)
    added_sound h p c = elim (added.sound h p c) [
      | inl o ↦ absurd (contains_none p (subst (λ xs. Contains xs p) (none h) o))
      | inr i ↦ (let t = i.2.1 in
          let there = node_anywhere rule i.2.0 e p t i.2.3 i.1 in
          let high : size rule n ≤ position t = omega (arith, i.0, (forest_grown rule e).placed p t there, size_le rule n start after) in
          (t, there, i.2.4, new_computed t high (tall t (omega (arith, i.2.4, i.2.5)))))
    ]
      where
        tall : (t : Tree) → 0 < height t → IsJoin t
        tall (leaf q k) l = absurd (omega arith)
        tall (join q a b) l = tt

    pub added_planned : ArePlanned rule m n (size rule start) e new
    added_planned h p = (added_sound h p, λ t there tall c from. added.complete h p from (get_below (forest rule e).nodes p t there) (e, t, within, there, tall, omega (arith, tall, inner t c)))
      where
        inner : (t : Tree) → is_computed rule m n t ≡ true → 0 < height t
        inner (leaf q k) c = absurd (cc)
        inner (join q a b) c = omega arith
