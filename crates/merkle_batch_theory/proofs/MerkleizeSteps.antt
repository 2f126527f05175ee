-- What a batch makes of the nodes that it reads: a step to the changed list.
use Rattle.std.proofs.Common.{◌≡◌, ℕ, ◌+◌, ◌-◌, ◌<◌, ◌≤◌, List, ◌++◌, length, drop, true, false, Bool, Option, Some, None, slice_get, cond, arith, refl, sym, ap, inl, inr, ◌∙◌, length-append}
use Rattle.std.specs.Prelude.{is_some}
use Rattle.std.specs.Ordering.{nat_cmp}
use Rattle.std.specs.FinMap.{FinMap, get}
use Rattle.std.proofs.lemmas.Bool.{cases_lt}
use Rattle.std.proofs.lemmas.Option.{slice_get_past, slice_get-get_or}
use Rattle.merkle_base.specs.Tree.{Tree, leaf}
use Rattle.merkle_base.specs.Forest.{forest, size}
use Rattle.merkle_base.specs.Hashing.{Hashing}
use Rattle.merkle_base.specs.Digests.{digest_at, node_digests, peak_digests}
use Rattle.merkle_base.proofs.Lookup.{get_append_add}
use Rattle.merkle_base.proofs.Nodes.{node_built, leaf_here, size_le}
use Rattle.merkle_batch_theory.specs.Records.{RecordModel}
use Rattle.merkle_batch_theory.specs.Held.{overwritten_by}
use Rattle.merkle_batch_theory.specs.History.{edited, is_dirty, replaced, IsStep}
use Rattle.merkle_batch_theory.proofs.Complete.{same_touch}
use Rattle.merkle_batch_theory.proofs.Edits.{get_left, same_gets, old_entry, new_entry, replaced_get}
use Rattle.merkle_batch_theory.proofs.ListFacts.{get_drop}
use Rattle.merkle_batch_theory.proofs.Steps.{node_digest_at, digests_length, replaced_length}
use Rattle.merkle_base.proofs.Lists.{get_exists}

module _ {D : Type 0} (h : Hashing D) (rule : List ℕ → List ℕ) (m : ℕ → Option D) (X added : List D) where
  -- the list after the updates of m
  abbrev pub changed : List D
  changed = replaced rule m 0 X ++ added

  pub changed_length : length changed ≡ length X + length added
  changed_length = omega (arith, length-append (replaced rule m 0 X) added, replaced_length rule m 0 X)

  pub changed_old : (k : ℕ) → k < length X → slice_get changed k ≡ overwritten_by (m (size rule k)) (slice_get X k)
  changed_old k l =
      let z : 0 + k ≡ k = omega arith in
      get_left (replaced rule m 0 X) added k (omega (arith, l, replaced_length rule m 0 X)) ∙ replaced_get rule m 0 X k ∙ ap (λ (i : ℕ). overwritten_by (m (size rule i)) (slice_get X k)) z

  pub changed_new : (k : ℕ) → slice_get changed (length X + k) ≡ slice_get added k
  changed_new k = ap (λ (n : ℕ). slice_get changed (n + k)) (sym (replaced_length rule m 0 X)) ∙ get_append_add (replaced rule m 0 X) added k

  -- its entry at a leaf
  pub entry_digest : (Y : List D) (k : ℕ) → slice_get (node_digests h rule Y) (size rule k) ≡ slice_get Y k
  entry_digest Y k = elim (cases_lt k (length Y)) [
    | inl a ↦ node_digest_at h rule Y (size rule k) (leaf (size rule k) k) (leaf_here rule k (length Y) a) ∙ sym (slice_get-get_or Y k h.empty a)
    | inr a ↦ slice_get_past (node_digests h rule Y) (size rule k) (omega (arith, digests_length h rule Y, size_le rule (length Y) k a)) ∙ sym (slice_get_past Y k a)
  ]

  -- ---- the record: O has the new digests of old nodes
  module _ (O : FinMap nat_cmp D)
      (old_is : (p : ℕ) (t : Tree) → slice_get (forest rule (length X)).nodes p ≡ Some t → get O p ≡ cond (is_dirty m t) (Some (digest_at h changed t)) None)
      (past : (p : ℕ) → size rule (length X) ≤ p → get O p ≡ None)
      (pb appended pa : List D) (same : appended ≡ drop (size rule (length X)) (node_digests h rule changed)) where
    abbrev step_record : RecordModel D
    step_record = record { before = size rule (length X); peaks_before = pb; appended = appended; overwritten = O; peaks_after = pa }

    some_cond : (b : Bool) (d : D) → is_some (cond b (Some d) None) ≡ b
    some_cond true d = refl
    some_cond false d = refl

    leaf_touch : (k : ℕ) → k < length X → is_some (get O (size rule k)) ≡ is_some (m (size rule k))
    leaf_touch k l =
        ap is_some (old_is (size rule k) (leaf (size rule k) k) (leaf_here rule k (length X) l)) ∙ some_cond (is_some (m (size rule k))) (digest_at h changed (leaf (size rule k) k))

    over_leaf : (o : Option D) (x : D) (d : D) (u : Option D) → u ≡ Some x → Some d ≡ overwritten_by o u → overwritten_by (cond (is_some o) (Some d) None) u ≡ overwritten_by o u
    over_leaf None x d u e f = refl
    over_leaf (Some y) x d u e f = ap (overwritten_by (Some d)) e ∙ f

    edit_is : changed ≡ edited rule step_record X
    edit_is = same_gets changed (edited rule step_record X) (λ k. elim (cases_lt k (length X)) [
      | inl l ↦ (let x = get_exists X k l in
          let t : Tree = leaf (size rule k) k in
          let n : slice_get changed k ≡ Some (digest_at h changed t) = slice_get-get_or changed k h.empty (omega (arith, l, changed_length)) in
          changed_old k l
          ∙ sym (old_entry rule step_record X k l ∙ ap (λ o. overwritten_by o (slice_get X k)) (old_is (size rule k) t (leaf_here rule k (length X) l))
          ∙ over_leaf (m (size rule k)) x.0 (digest_at h changed t) (slice_get X k) x.1 (sym n ∙ changed_old k l)))
      | inr l ↦ (let z : size rule (length X) + (size rule k - size rule (length X)) ≡ size rule k = omega (arith, size_le rule (length X) k l) in
          sym (new_entry rule step_record X k refl l ∙ ap (λ ds. slice_get ds (size rule k - size rule (length X))) same
          ∙ get_drop (size rule (length X)) (size rule k - size rule (length X)) (node_digests h rule changed) ∙ ap (slice_get (node_digests h rule changed)) z ∙ entry_digest changed k))
    ])

    pub step_is : pb ≡ peak_digests h rule X → pa ≡ peak_digests h rule changed → IsStep h rule step_record X changed
    step_is before after = record {
      edit = edit_is;
      before = refl;
      longer = omega (arith, changed_length);
      peaks_before = before;
      peaks_after = after;
      appended = same;
      overwritten = λ p t e. old_is p t e ∙ ap (λ b. cond b (Some (digest_at h changed t)) None) (sym (same_touch rule (get O) m (length X) leaf_touch t (node_built rule (length X) p t e)));
      old = past;
    }
