-- A completed record is a step, and what it takes is read.
use Rattle.std.proofs.Common.{◌≡◌, ℕ, zero, suc, ◌+◌, ◌-◌, ◌<◌, ◌≤◌, List, [], ◌∷◌, ◌++◌, length, Option, Some, None, true, cond, slice_get, get_or, arith, refl, sym, ap, inl, inr, ◌∙◌, subst}
use Rattle.std.specs.Prelude.{◌||◌, is_some}
use Rattle.std.specs.Option.{unwrap_or}
use Rattle.std.specs.FinMap.{get}
use Rattle.std.proofs.lemmas.Bool.{cases_lt}
use Rattle.std.proofs.lemmas.Option.{slice_get_past, slice_get-get_or}
use Rattle.merkle_base.specs.Tree.{Tree, leaf, join, position, IsBuilt}
use Rattle.merkle_base.specs.Forest.{forest, size}
use Rattle.merkle_base.proofs.Growth.{built_at}
use Rattle.merkle_base.proofs.Nodes.{node_built, node_anywhere, size_le, leaf_here}
use Rattle.merkle_base.proofs.Births.{leaf_at}
use Rattle.merkle_base.proofs.Lookup.{peak_node}
use Rattle.merkle_base.specs.Hashing.{Hashing}
use Rattle.merkle_base.specs.Digests.{digest_at, node_digests}
use Rattle.merkle_batch_theory.specs.Contents.{Contents, Agrees}
use Rattle.merkle_batch_theory.specs.Records.{RecordModel}
use Rattle.merkle_batch_theory.specs.Held.{overwritten_by}
use Rattle.merkle_batch_theory.specs.History.{edited, is_dirty, IsStep, IsHistory, last_list}
use Rattle.merkle_batch_theory.specs.Read.{read_over}
use Rattle.merkle_batch_theory.specs.Needed.{IsUsed, IsNeeded}
use Rattle.merkle_batch_theory.specs.Completed.{IsCompleted}
use Rattle.merkle_batch_theory.proofs.ListFacts.{get_drop}
use Rattle.merkle_batch_theory.proofs.Steps.{node_digest_at, digests_length}
use Rattle.merkle_batch_theory.proofs.Edits.{same_gets, old_entry, new_entry, edited_same, edited_length}
use Rattle.merkle_batch_theory.proofs.ReadThroughRecords.{read_right, read_kept, unchanged}
use Rattle.merkle_batch_theory.proofs.NeededNodes.{used_kept}
use Rattle.merkle_batch_theory.proofs.OptionFacts.{over_none}
use Rattle.merkle_base.proofs.Lists.{get_exists}

-- the same leaves touch the same trees
pub same_touch : {D : Type 0} (rule : List ℕ → List ℕ) (m w : ℕ → Option D) (n : ℕ)
    → ((k : ℕ) → k < n → is_some (m (size rule k)) ≡ is_some (w (size rule k))) → (t : Tree) → IsBuilt (forest rule n).nodes t → is_dirty m t ≡ is_dirty w t
same_touch rule m w n e (leaf q k) b = (let a = leaf_at rule n q q k b in ap (λ p. is_some (m p)) a.0 ∙ e k a.1 ∙ ap (λ p. is_some (w p)) (sym a.0))
same_touch rule m w n e (join q x y) b = (λ i. same_touch rule m w n e x b.4 i || same_touch rule m w n e y b.5 i)

module _ {D : Type 0} (h : Hashing D) (rule : List ℕ → List ℕ) where
  leaf_same : (o s u v : Option D) (x e : D) → u ≡ Some x → v ≡ overwritten_by o u → s ≡ cond (is_some o) (Some (unwrap_or v e)) None → o ≡ s
  leaf_same None s u v x e a b c = sym c
  leaf_same (Some d) s u v x e a b c = sym (c ∙ ap (λ z. Some (unwrap_or z e)) (b ∙ ap (overwritten_by (Some d)) a))

  entry_read : (Y : List D) (k : ℕ) → get_or Y k h.empty ≡ unwrap_or (slice_get Y k) h.empty
  entry_read [] k = refl
  entry_read (y ∷ ys) zero = refl
  entry_read (y ∷ ys) (suc k) = entry_read ys k

  module _ (r s : RecordModel D) (X : List D) (n : ℕ) (before : r.before ≡ size rule (length X)) (longer : length X ≤ n)
      (sized : r.before + length r.appended ≡ size rule n) (done : IsCompleted h rule r s X) where
    same_overwritten : (k : ℕ) → k < length X → get r.overwritten (size rule k) ≡ get s.overwritten (size rule k)
    same_overwritten k l =
        (let x = get_exists X k l in
        leaf_same (get r.overwritten (size rule k)) (get s.overwritten (size rule k)) (slice_get X k) (slice_get (edited rule r X) k) x.0 h.empty x.1 (old_entry rule r X k l)
        (done.overwritten (size rule k) (leaf (size rule k) k) (leaf_here rule k (length X) l)
        ∙ ap (λ d. cond (is_some (get r.overwritten (size rule k))) (Some d) None) (entry_read (edited rule r X) k)))

    same_appended : (k : ℕ) → length X ≤ k → slice_get r.appended (size rule k - r.before) ≡ slice_get s.appended (size rule k - s.before)
    same_appended k l =
        (let Y : List D = edited rule r X in
        let y : s.before + (size rule k - s.before) ≡ size rule k = omega (arith, done.before, size_le rule (length X) k l) in
        sym (new_entry rule r X k before l) ∙ elim (cases_lt k (length Y)) [
          | inl a ↦ slice_get-get_or Y k h.empty a ∙ sym (node_digest_at h rule Y (size rule k) (leaf (size rule k) k) (leaf_here rule k (length Y) a))
          | inr a ↦ slice_get_past Y k a ∙ sym (slice_get_past (node_digests h rule Y) (size rule k) (omega (arith, digests_length h rule Y, size_le rule (length Y) k a)))
        ] ∙ sym (ap (λ ds. slice_get ds (size rule k - s.before)) done.appended ∙ get_drop s.before (size rule k - s.before) (node_digests h rule Y) ∙ ap (slice_get (node_digests h rule Y)) y))

    -- what merkleizing makes records the change to the edited list
    pub completed : IsStep h rule s X (edited rule r X)
    completed = record {
      edit = edited_same rule r s X before done.before same_overwritten same_appended;
      before = done.before;
      longer = omega (arith, longer, edited_length rule r X n before longer sized);
      peaks_before = done.peaks_before;
      peaks_after = done.peaks_after;
      appended = done.appended;
      overwritten = λ p t e. done.overwritten p t e
          ∙ ap (λ b. cond b (Some (digest_at h (edited rule r X) t)) None)
          (same_touch rule (get r.overwritten) (get s.overwritten) (length X) (λ k l. ap is_some (same_overwritten k l)) t (node_built rule (length X) p t e));
      old = done.old;
    }

  -- ---- chains of lists
  pub stands_push : (rs : List (RecordModel D)) (X : List D) (ls : List (List D)) (r : RecordModel D) (Y : List D) → IsHistory h rule rs (X ∷ ls)
      → IsStep h rule r (last_list (X ∷ ls)) Y → IsHistory h rule (rs ++ r ∷ []) (X ∷ ls ++ Y ∷ []) × (last_list (X ∷ ls ++ Y ∷ []) ≡ Y)
  stands_push [] X [] r Y s t = ((t, tt), refl)
  stands_push [] X (Z ∷ ls) r Y s t = absurd s
  stands_push (q ∷ rs) X [] r Y s t = absurd s
  stands_push (q ∷ rs) X (Z ∷ ls) r Y s t = (let k = stands_push rs Z ls r Y s.1 t in ((s.0, k.0), k.1))

  pub stands_longer : (rs : List (RecordModel D)) (X : List D) (ls : List (List D)) (j : ℕ) (W : List D) → IsHistory h rule rs (X ∷ ls)
      → slice_get (X ∷ ls) j ≡ Some W → length W ≤ length (last_list (X ∷ ls))
  stands_longer [] X [] zero W s e = (let d : X ≡ W = cc in rw d (omega arith))
  stands_longer [] X [] (suc j) W s e = absurd (cc)
  stands_longer [] X (Z ∷ ls) j W s e = absurd s
  stands_longer (q ∷ rs) X [] j W s e = absurd s
  stands_longer (q ∷ rs) X (Z ∷ ls) zero W s e = (let d : X ≡ W = cc in omega (arith, ap length d, s.0.longer, stands_longer rs Z ls 0 Z s.1 refl))
  stands_longer (q ∷ rs) X (Z ∷ ls) (suc j) W s e = stands_longer rs Z ls j W s.1 e

  -- a record without changes changes nothing
  pub no_change : (r : RecordModel D) (X Y : List D) → IsStep h rule r X Y → r.appended ≡ [] → ((p : ℕ) → get r.overwritten p ≡ None) → Y ≡ X
  no_change r X Y s a o = s.edit ∙ same_gets (edited rule r X) X (λ k. elim (cases_lt k (length X)) [
    | inl l ↦ old_entry rule r X k l ∙ ap (λ m. overwritten_by m (slice_get X k)) (o (size rule k)) ∙ over_none (slice_get X k)
    | inr l ↦ new_entry rule r X k s.before l ∙ ap (λ ds. slice_get ds (size rule k - r.before)) a ∙ sym (slice_get_past X k l)
  ])

  used_node : (m : ℕ → Option D) (n e : ℕ) (t : Tree) → IsUsed rule m n e t → slice_get (forest rule e).nodes (position t) ≡ Some t
  used_node m n e t u = elim u [
    | inl x ↦ (let b = node_built rule e x.0 (join x.0 x.1 x.2) x.3 in
        elim x.5 [
          | inl d ↦ subst (λ s. slice_get (forest rule e).nodes (position s) ≡ Some s) (sym d) (built_at (forest rule e).nodes x.1 b.4)
          | inr
              d ↦ subst (λ s. slice_get (forest rule e).nodes (position s) ≡ Some s) (sym d) (built_at (forest rule e).nodes x.2 b.5)
        ])
    | inr x ↦ peak_node rule e x.1.0 t x.1.1
  ]

  module _ (rs : List (RecordModel D)) (X : List D) (ls : List (List D)) (base : Contents D) (j : ℕ) (W : List D)
      (stands : IsHistory h rule rs (X ∷ ls)) (there : slice_get (X ∷ ls) j ≡ Some W) (agrees : Agrees h rule base W) (r : RecordModel D) (e : ℕ) where
    -- a needed node that is read has its digest of the edited list
    pub needed_right : (t : Tree) (d : D) → IsNeeded rule (get r.overwritten) (length (last_list (X ∷ ls))) e t
        → read_over rs base (position t) ≡ Some d → slice_get (node_digests h rule (edited rule r (last_list (X ∷ ls)))) (position t) ≡ Some d
    needed_right t d n g =
        (let Z : List D = last_list (X ∷ ls) in
        unchanged h rule r Z (position t) t (node_anywhere rule e (length Z) (position t) t (used_node (get r.overwritten) (length Z) e t n.0) n.1) n.2
        ∙ read_right h rule rs X ls base j W stands there agrees (position t) d g)

    -- no needed node is missing where all overwritten leaves stand at the base's boundary or after it
    pub none_missing : length (last_list (X ∷ ls)) ≤ e → ((k : ℕ) → is_some (get r.overwritten (size rule k)) ≡ true → base.boundary ≤ k) → (t : Tree)
        → IsNeeded rule (get r.overwritten) (length (last_list (X ∷ ls))) e t → (d : D) × (read_over rs base (position t) ≡ Some d)
    none_missing l above t n =
        (let Z : List D = last_list (X ∷ ls) in
        let k = used_kept rule (get r.overwritten) base.boundary (length Z) e (omega (arith, agrees.bounded, stands_longer rs X ls j W stands there)) l above t n.0 in
        let x = get_exists (node_digests h rule Z) (position t) (omega (arith, n.1, digests_length h rule Z)) in
        (x.0, read_kept h rule rs X ls base j W stands there agrees (position t) k ∙ x.1))
