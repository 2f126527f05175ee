-- The nodes of a batch: what it stores for them and what is read, in terms of their new digests, and that these are right.
use Rattle.std.proofs.Common.{◌≡◌, ℕ, ◌+◌, ◌-◌, ◌<◌, ◌≤◌, List, length, Option, Some, None, true, false, cond, slice_get, arith, refl, sym, ap, inl, inr, ◌∙◌}
use Rattle.std.specs.Prelude.{is_some, nat_le, slice_index_or, ◌||◌}
use Rattle.std.specs.FinMap.{get}
use Rattle.std.specs.Option.{option_or}
use Rattle.std.proofs.lemmas.Bool.{false≢true, cases_Bool, cases_lt, le-leb, le-ltb, leb-false, lt-leb, lt-ltb, or_left, or_parts, or_right}
use Rattle.merkle_base.specs.Tree.{Tree, leaf, join, position, IsBuilt}
use Rattle.merkle_base.specs.Forest.{forest, size}
use Rattle.merkle_base.specs.Hashing.{Hashing}
use Rattle.merkle_base.specs.Digests.{digest_at}
use Rattle.merkle_base.proofs.Births.{leaf_at}
use Rattle.merkle_base.proofs.Growth.{forest_grown}
use Rattle.merkle_base.proofs.Lists.{get_below, get_exists}
use Rattle.merkle_base.proofs.Nodes.{node_anywhere, node_built, node_stays, size_le, size_lt}
use Rattle.merkle_batch_theory.specs.Assignment.{ReadsAgree, digests_from}
use Rattle.merkle_batch_theory.specs.History.{is_dirty}
use Rattle.merkle_batch_theory.proofs.ListAssignments.{truth_of, truth_at}
use Rattle.merkle_batch_theory.proofs.OptionFacts.{none_of, none_or_some, or_second, or_some}
use Rattle.merkle_draft.specs.DraftReads.{DraftModel, stored_node}
use Rattle.merkle_draft.specs.NewDigests.{AreNewDigests, is_written, new_digest, of_both}
use Rattle.merkle_batch.proofs.PeakCounts.{listed}

-- ---- options
some_of : {D : Type 0} (o : Option D) → is_some o ≡ true → (d : D) × (o ≡ Some d)
some_of None e = absurd (false≢true e)
some_of (Some d) e = (d, refl)

both_some : {D : Type 0} (f : D → D → D) (a b : Option D) (d : D) → of_both f a b ≡ Some d → (x y : D) × (a ≡ Some x) × (b ≡ Some y) × (d ≡ f x y)
both_some f None b d e = absurd (cc)
both_some f (Some x) None d e = absurd (cc)
both_some f (Some x) (Some y) d e = (x, y, refl, refl, cc)

both_are : {D : Type 0} (f : D → D → D) (a b : Option D) → is_some (of_both f a b) ≡ true → (is_some a ≡ true) × (is_some b ≡ true)
both_are f None b e = absurd (false≢true e)
both_are f (Some x) None e = absurd (false≢true e)
both_are f (Some x) (Some y) e = (refl, refl)

module _ {D : Type 0} (h : Hashing D) (rule : List ℕ → List ℕ) (m below : ℕ → Option D) (n : ℕ) (ds : List D) where
  abbrev new : Tree → Option D
  new = new_digest h rule m below n ds

  abbrev nodes : List Tree
  nodes = (forest rule (n + length ds)).nodes

  old_written : (t : Tree) → position t < size rule n → is_written rule m n t ≡ is_dirty m t
  old_written t less = ap (λ b. b || is_dirty m t) (lt-leb (size rule n) (position t) less)

  -- an old node over no leaf with a new digest has what is read below
  pub untouched_new : (t : Tree) → position t < size rule n → is_dirty m t ≡ false → new t ≡ below (position t)
  untouched_new (leaf p k) less u =
      ap (λ b. cond b (slice_get ds (k - n)) (option_or (m p) (below p))) (lt-leb (size rule n) p less) ∙ or_second (m p) (below p) (none_of (m p) u)
  untouched_new (join p l r) less u = ap (λ b. cond b (of_both (h.node p) (new l) (new r)) (below p)) (old_written (join p l r) less ∙ u)

  new_join : (p : ℕ) (l r : Tree) → is_written rule m n (join p l r) ≡ true → new (join p l r) ≡ of_both (h.node p) (new l) (new r)
  new_join p l r w = ap (λ b. cond b (of_both (h.node p) (new l) (new r)) (below p)) w

  -- where a written node has a new digest, so have its children
  pub children_new : (p : ℕ) (l r : Tree) → is_written rule m n (join p l r) ≡ true → is_some (new (join p l r)) ≡ true
      → (is_some (new l) ≡ true) × (is_some (new r) ≡ true)
  children_new p l r w s = both_are (h.node p) (new l) (new r) (ap is_some (sym (new_join p l r w)) ∙ s)

  -- ---- where a batch stores the new digests
  module _ (d : DraftModel D) (b : d.before ≡ size rule n) (are : AreNewDigests h rule m below n ds (stored_node d)) where
    stays : (p : ℕ) (t : Tree) → slice_get (forest rule n).nodes p ≡ Some t → slice_get nodes p ≡ Some t
    stays p t at = node_stays rule n (n + length ds) p t (omega arith) at

    pub written_new : (p : ℕ) (t : Tree) → slice_get nodes p ≡ Some t → is_written rule m n t ≡ true → is_some (new t) ≡ true
    written_new p t at w = (are p t at).1 w

    pub dirty_new : (p : ℕ) (t : Tree) → slice_get (forest rule n).nodes p ≡ Some t → is_dirty m t ≡ true → is_some (new t) ≡ true
    dirty_new p t at u = written_new p t (stays p t at) (or_right (nat_le (size rule n) (position t)) (is_dirty m t) u)

    overwritten_new : (p : ℕ) (t : Tree) → slice_get (forest rule n).nodes p ≡ Some t → get d.overwritten p ≡ cond (is_dirty m t) (new t) None
    overwritten_new p t at =
        let less : p < size rule n = get_below (forest rule n).nodes p t at in
        let here : position t ≡ p = (forest_grown rule n).placed p t at in
        sym (ap (λ c. cond c (get d.overwritten p) (slice_get d.appended (p - d.before))) (lt-ltb p d.before (omega (arith, less, b))))
        ∙ (are p t (stays p t at)).0 ∙ ap (λ c. cond c (new t) None) (old_written t (omega (arith, less, here)))

    -- at an old position its new digest is read
    pub read_new : (p : ℕ) (t : Tree) → slice_get (forest rule n).nodes p ≡ Some t → option_or (get d.overwritten p) (below p) ≡ new t
    read_new p t at =
        let here : position t ≡ p = (forest_grown rule n).placed p t at in
        ap (λ o. option_or o (below p)) (overwritten_new p t at) ∙ elim (cases_Bool (is_dirty m t)) [
          | inl u ↦ ap (λ c. option_or (cond c (new t) None) (below p)) u ∙ or_some (new t) (below p) (dirty_new p t at u)
          | inr u ↦ ap (λ c. option_or (cond c (new t) None) (below p)) u ∙ ap below (sym here)
              ∙ sym (untouched_new t (omega (arith, here, get_below (forest rule n).nodes p t at)) u)
        ]

    -- and at a later one it is appended
    appended_new : (i : ℕ) (t : Tree) → slice_get nodes (d.before + i) ≡ Some t → slice_get d.appended i ≡ new t
    appended_new i t at =
        let here : position t ≡ d.before + i = (forest_grown rule (n + length ds)).placed (d.before + i) t at in
        let z : d.before + i - d.before ≡ i = omega arith in
        ap (slice_get d.appended) (sym z)
        ∙ sym (ap (λ c. cond c (get d.overwritten (d.before + i)) (slice_get d.appended (d.before + i - d.before)))
        (le-ltb (d.before + i) d.before (omega arith)))
        ∙ (are (d.before + i) t at).0
        ∙ ap (λ c. cond c (new t) None)
        (or_left (nat_le (size rule n) (position t)) (is_dirty m t) (le-leb (size rule n) (position t) (omega (arith, here, b))))

  -- ---- the new digests are those of a list that has the new leaves and what is read of the others
  module _ (Y : List D)
      (right : (p : ℕ) (t : Tree) (d : D) → slice_get (forest rule n).nodes p ≡ Some t → is_dirty m t ≡ false → below p ≡ Some d → d ≡ digest_at h Y t)
      (told : (k : ℕ) (d : D) → k < n → m (size rule k) ≡ Some d → d ≡ digest_at h Y (leaf (size rule k) k))
      (added : (k : ℕ) (d : D) → slice_get ds k ≡ Some d → d ≡ digest_at h Y (leaf (size rule (n + k)) (n + k))) where
    new_right : (t : Tree) (d : D) → IsBuilt nodes t → new t ≡ Some d → d ≡ digest_at h Y t
    new_right (leaf p k) d built e =
        let at = leaf_at rule (n + length ds) p p k built in
        elim (cases_lt k n) [
          | inl l ↦ (let less : p < size rule n = omega (arith, at.0, size_lt rule k n l) in
              let old : option_or (m p) (below p) ≡ Some d =
              sym (ap (λ b. cond b (slice_get ds (k - n)) (option_or (m p) (below p))) (lt-leb (size rule n) p less)) ∙ e in
              elim (none_or_some (m p)) [
                | inl o ↦ right p (leaf p k) d (node_anywhere rule (n + length ds) n p (leaf p k) built less) (ap is_some o)
                    (sym (or_second (m p) (below p) o) ∙ old)
                | inr o ↦ (let same : Some o.0 ≡ Some d = sym (ap (λ x. option_or x (below p)) o.1) ∙ old in
                    let c : d ≡ o.0 = cc in c ∙ told k o.0 l (ap m (sym at.0) ∙ o.1))
              ])
          | inr l ↦ (let more : size rule n ≤ p = omega (arith, at.0, size_le rule n k l) in
              let z : n + (k - n) ≡ k = omega (arith, l) in
              added (k - n) d (sym (ap (λ b. cond b (slice_get ds (k - n)) (option_or (m p) (below p))) (le-leb (size rule n) p more)) ∙ e)
              ∙ ap (λ (i : ℕ). slice_index_or Y i h.empty) z)
        ]
    new_right (join p l r) d built e = elim (cases_Bool (is_written rule m n (join p l r))) [
      | inl w ↦ (let v = both_some (h.node p) (new l) (new r) d (sym (new_join p l r w) ∙ e) in
          v.4 ∙ ap (λ z. h.node p z v.1) (new_right l v.0 built.4 v.2) ∙ ap (λ z. h.node p (digest_at h Y l) z) (new_right r v.1 built.5 v.3))
      | inr w ↦ (let u = or_parts (nat_le (size rule n) p) (is_dirty m (join p l r)) w in
          let less : p < size rule n = leb-false (size rule n) p u.0 in
          right p (join p l r) d (node_anywhere rule (n + length ds) n p (join p l r) built.0 less) u.1 (sym (untouched_new (join p l r) less u.1) ∙ e))
    ]

    module _ (d : DraftModel D) (b : d.before ≡ size rule n) (are : AreNewDigests h rule m below n ds (stored_node d)) where
      -- an old node is overwritten exactly where a leaf under it has a new digest
      pub overwritten_right : (p : ℕ) (t : Tree) → slice_get (forest rule n).nodes p ≡ Some t
          → get d.overwritten p ≡ cond (is_dirty m t) (Some (digest_at h Y t)) None
      overwritten_right p t at = overwritten_new d b are p t at ∙ elim (cases_Bool (is_dirty m t)) [
        | inl u ↦ (let w = some_of (new t) (dirty_new d b are p t at u) in
            let built : IsBuilt nodes t = node_built rule (n + length ds) p t (stays d b are p t at) in
            ap (λ o. cond (is_dirty m t) o None) (w.1 ∙ ap Some (new_right t w.0 built w.1)))
        | inr u ↦ ap (λ c. cond c (new t) None) u ∙ sym (ap (λ c. cond c (Some (digest_at h Y t)) None) u)
      ]

      module _ (max_leaves : ℕ) (long : length Y ≤ max_leaves) (within : n + length ds ≤ max_leaves) where
        abbrev truth : ℕ → D
        truth = truth_of h rule max_leaves Y

        pub reads_right : ReadsAgree (λ p. option_or (get d.overwritten p) (below p)) (size rule n) truth
        reads_right p x less e =
            let k = get_exists (forest rule n).nodes p less in
            let at : slice_get nodes p ≡ Some k.0 = stays d b are p k.0 k.1 in
            new_right k.0 x (node_built rule (n + length ds) p k.0 at) (sym (read_new d b are p k.0 k.1) ∙ e)
            ∙ sym (truth_at h rule max_leaves Y long (n + length ds) p k.0 within at)

        pub appended_right : d.before + length d.appended ≡ size rule (n + length ds) → d.appended ≡ digests_from truth d.before (length d.appended)
        appended_right counted = listed truth d.before d.appended (λ i x e.
            (let less : i < length d.appended = get_below d.appended i x e in
            let k = get_exists nodes (d.before + i) (omega (arith, less, counted)) in
            truth_at h rule max_leaves Y long (n + length ds) (d.before + i) k.0 within k.1
            ∙ sym (new_right k.0 x (node_built rule (n + length ds) (d.before + i) k.0 k.1) (sym (appended_new d b are i k.0 k.1) ∙ e))))
