-- A pending batch makes changes, and what it is merkleized to is accepted.
use Rattle.std.proofs.Common.{◌≡◌, ℕ, zero, suc, ◌+◌, ◌<◌, List, [], ◌∷◌, ◌++◌, length, take, drop, set, slice_get, Option, None, Some, Bool, true, false, Ok}
use Rattle.std.proofs.Common.{Result, cond, arith, refl, sym, ap, inl, inr, ◌∙◌, subst, length-append}
use Rattle.std.specs.Prelude.{◌==◌, ◌||◌, not, is_some, nat_le, ⊤}
use Rattle.std.specs.List.{list_any}
use Rattle.std.specs.Option.{ok_or, option_map}
use Rattle.std.specs.Ordering.{nat_cmp}
use Rattle.std.specs.FinMap.{get, len-empty}
use Rattle.std.proofs.lemmas.Bool.{cases_lt, lt-ltb, le-ltb}
use Rattle.merkle_base.specs.Forest.{size}
use Rattle.merkle_base.specs.Hashing.{Hashing, EqDecides}
use Rattle.merkle_base.specs.Digests.{node_digests}
use Rattle.merkle_base.specs.declared.error.Error.{Error}
use Rattle.merkle_base.specs.Tree.{Tree, leaf, join, position}
use Rattle.merkle_batch_theory.specs.Contents.{Contents, Agrees, AgreesWithOne, held_peaks, is_kept}
use Rattle.merkle_batch_theory.specs.Missing.{IsMissing}
use Rattle.merkle_batch_theory.specs.Needed.{is_computed, IsNeeded, IsUsed}
use Rattle.merkle_batch_theory.proofs.NeededNodes.{IsChanged}
use Rattle.merkle_batch_theory.specs.Unmerkleized.{UnmerkleizedModel, is_changed, kept, kept_lists, leaf_total, pending_list, with_update, with_leaves}
use Rattle.merkle_batch_theory.specs.Read.{read_over}
use Rattle.merkle_batch_theory.specs.Records.{MerkleizedModel, RecordModel, after, records}
use Rattle.merkle_batch_theory.specs.Replay.{applied, apply_error, with_records, with_record, last_match, matched, oldest, is_state}
use Rattle.merkle_batch_theory.specs.Roots.{root_batch}
use Rattle.merkle_batch_theory.specs.History.{IsHistory, is_dirty, replaced}
use Rattle.merkle_batch_theory.specs.MemModel.{MemModel, contents}
use Rattle.merkle_batch_theory.proofs.Agreed.{agree_all}
use Rattle.merkle_batch_theory.proofs.MapFacts.{inserted_at}
use Rattle.merkle_batch_theory.proofs.Matching.{accepts}
use Rattle.merkle_batch_theory.proofs.PendingUpdates.{leaves_list, update_list, updated_new, updated_old}
use Rattle.merkle_batch_theory.proofs.RootBatch.{root_stands}
use Rattle.merkle_batch_theory.proofs.Steps.{digests_length, replaced_length}
use Rattle.merkle_hasher.specs.LeafDigests.{leaf_digests}
use Rattle.merkle_hasher.proofs.LeafDigests.{length-leaf_digests, leaf_digests-append}
use Rattle.merkle_lines.specs.StructureState.{Changes, at_updated, with_element}
use Rattle.merkle_lines.specs.StructureState as given
use Rattle.merkle_lines.specs.Held.{Makes}

module _ {D : Type 0} (h : Hashing D) (rule : List ℕ → List ℕ) where
  -- the leaves of elements, of which one is set
  pub leaf_digests_set : (a : ℕ) (es : List (List ℕ)) (k : ℕ) (e : List ℕ) → leaf_digests h rule a (set es k e) ≡ set (leaf_digests h rule a es) k (h.leaf (size rule (a + k)) e)
  leaf_digests_set a [] k e = refl
  leaf_digests_set a (x ∷ es) zero e = ap (λ p. h.leaf (size rule p) e ∷ leaf_digests h rule (suc a) es) (omega arith)
  leaf_digests_set a (x ∷ es) (suc k) e =
      ap (λ ds. h.leaf (size rule a) x ∷ ds) (leaf_digests_set (suc a) es k e ∙ ap (λ p. set (leaf_digests h rule (suc a) es) k (h.leaf (size rule p) e)) (omega arith))

held_not_none : {D : Type 0} (xs : List D) (p : ℕ) → p < length xs → slice_get xs p ≡ None → ⊥
held_not_none [] p l e = omega (arith, l)
held_not_none (x ∷ xs) zero l e = absurd (cc e)
held_not_none (x ∷ xs) (suc p) l e = held_not_none xs p (omega (arith, l)) e

-- records keep the boundary
with_record_boundary : {D : Type 0} (rs : List (RecordModel D)) (c : Contents D) → (with_records rs c).boundary ≡ c.boundary
with_record_boundary [] c = refl
with_record_boundary (r ∷ rs) c = with_record_boundary rs (with_record r c)

-- ---- what has an entry at the same places needs the same nodes
module _ {D E : Type 0} (rule : List ℕ → List ℕ) (m : ℕ → Option D) (w : ℕ → Option E) (same : (p : ℕ) → is_some (m p) ≡ is_some (w p)) (n e : ℕ) where
  dirty_same : (t : Tree) → is_dirty m t ≡ is_dirty w t
  dirty_same (leaf p k) = same p
  dirty_same (join p l r) = λ i. ◌||◌ (dirty_same l i) (dirty_same r i)

  computed_same : (t : Tree) → is_computed rule m n t ≡ is_computed rule w n t
  computed_same (leaf p k) = refl
  computed_same (join p l r) = ap (λ b. nat_le (size rule n) p || b) (dirty_same (join p l r))

  changed_same : IsChanged rule m n e → IsChanged rule w n e
  changed_same (inl more) = inl more
  changed_same (inr (k, below, some)) = inr (k, below, sym (same (size rule k)) ∙ some)

  used_same : (t : Tree) → IsUsed rule m n e t → IsUsed rule w n e t
  used_same t (inl (p, l, r, at, computed, which)) = inl (p, l, r, at, sym (computed_same (join p l r)) ∙ computed, which)
  used_same t (inr (changed, peak)) = inr (changed_same changed, peak)

  pub needed_same : (t : Tree) → IsNeeded rule m n e t → IsNeeded rule w n e t
  needed_same t (used, old, untouched) = (used_same t used, old, sym (dirty_same t) ∙ untouched)

-- the first batch of a chain keeps no records
root_unchanged : {D : Type 0} (rule : List ℕ → List ℕ) (n : ℕ) (c : Contents D) → is_changed (root_batch rule n c).own ≡ false
root_unchanged {D} rule n c = ap (λ k. not (k == 0)) (len-empty nat_cmp D)

-- a batch that makes changes of the list X
module _ {D : Type 0} (h : Hashing D) (rule : List ℕ → List ℕ) (X : List D) (b : UnmerkleizedModel D) (c : Changes) (m : Makes h rule X b c) where
  -- the number of leaves with the changes
  pub made_total : leaf_total b ≡ length c.elements
  made_total =
      ap (λ n. n + length b.added) (m.before ∙ sym (replaced_length rule (get b.overwritten) 0 X)) ∙ sym (length-append (replaced rule (get b.overwritten) 0 X) b.added)
      ∙ ap length m.elements ∙ length-leaf_digests h rule 0 c.elements

  -- with one element more
  pub makes_more : (e : List ℕ) → Makes h rule X (with_leaves b ((h.leaf (size rule (leaf_total b)) e) ∷ [])) (with_element c e)
  makes_more e = record {
    origin = m.origin;
    agreed = m.agreed;
    forked = m.forked;
    boundary = m.boundary;
    none_forgotten = m.none_forgotten;
    before = m.before;
    elements =
        let d = h.leaf (size rule (leaf_total b)) e in
        leaves_list rule b (d ∷ []) X ∙ ap (λ ds. ds ++ d ∷ []) m.elements ∙ ap (λ k. leaf_digests h rule 0 c.elements ++ h.leaf (size rule k) e ∷ []) made_total
        ∙ ap (λ k. leaf_digests h rule 0 c.elements ++ leaf_digests h rule k (e ∷ [])) (let n : length c.elements ≡ 0 + length c.elements = omega arith in n)
        ∙ sym (leaf_digests-append h rule 0 c.elements (e ∷ []));
    updates = m.updates;
  }

  -- with another element at a location
  pub makes_update : (k : ℕ) (e : List ℕ) → Makes h rule X (with_update rule b k (h.leaf (size rule k) e)) (given.with_changed_element (length X) c k e)
  makes_update k e = elim (cases_lt k b.leaves_before) [
    | inl old ↦ subst (λ x. Makes h rule X x (given.with_changed_element (length X) c k e)) (sym (updated_old rule b k d old)) (record {
      origin = m.origin;
      agreed = m.agreed;
      forked = m.forked;
      boundary = m.boundary;
      none_forgotten = m.none_forgotten;
      before = m.before;
      elements = subst (λ x. pending_list rule x X ≡ leaf_digests h rule 0 (set c.elements k e)) (updated_old rule b k d old) made;
      updates = λ p.
          ap is_some (inserted_at b.overwritten (size rule k) d p) ∙ either p (p == size rule k) (m.updates p)
          ∙ ap (λ t. list_any (λ j. p == size rule j) (cond t (k ∷ c.updated) c.updated)) (sym (lt-ltb k (length X) (omega (arith, old, m.before))));
    })
    | inr new ↦ subst (λ x. Makes h rule X x (given.with_changed_element (length X) c k e)) (sym (updated_new rule b k d new)) (record {
      origin = m.origin;
      agreed = m.agreed;
      forked = m.forked;
      boundary = m.boundary;
      none_forgotten = m.none_forgotten;
      before = m.before;
      elements = subst (λ x. pending_list rule x X ≡ leaf_digests h rule 0 (set c.elements k e)) (updated_new rule b k d new) made;
      updates = λ p. m.updates p ∙ ap (λ t. list_any (λ j. p == size rule j) (cond t (k ∷ c.updated) c.updated)) (sym (le-ltb k (length X) (omega (arith, new, m.before))));
    })
  ]
    where
      d : D
      d = h.leaf (size rule k) e

      made : pending_list rule (with_update rule b k d) X ≡ leaf_digests h rule 0 (set c.elements k e)
      made = update_list rule b k d X (sym m.before) ∙ ap (λ ds. set ds k d) m.elements
          ∙ ap (λ j. set (leaf_digests h rule 0 c.elements) k (h.leaf (size rule j) e)) (let n : k ≡ 0 + k = omega arith in n) ∙ sym (leaf_digests_set h rule 0 c.elements k e)

      either : (p : ℕ) (t : Bool) → is_some (get b.overwritten p) ≡ list_any (λ j. p == size rule j) c.updated
          → is_some (cond t (Some d) (get b.overwritten p)) ≡ t || list_any (λ j. p == size rule j) c.updated
      either p true same = refl
      either p false same = same

  -- the lists that it stands on
  pub made_stands : IsHistory h rule (records b.parent) (X ∷ X ∷ [])
  made_stands = subst (λ q. IsHistory h rule (records q) (X ∷ X ∷ [])) (sym m.forked) (root_stands h rule m.origin X m.agreed)

  pub made_keeps : kept b ≡ []
  made_keeps =
      ap (λ q. drop b.forgotten q.ancestors ++ cond (is_changed q.own) (q.own ∷ []) []) m.forked
      ∙ ap (λ n. drop n [] ++ cond (is_changed (root_batch rule (length X) m.origin).own) ((root_batch rule (length X) m.origin).own ∷ []) []) m.none_forgotten
      ∙ ap (λ t. cond t ((root_batch rule (length X) m.origin).own ∷ []) []) (root_unchanged rule (length X) m.origin)

  made_lists : kept_lists b (X ∷ X ∷ []) ≡ X ∷ []
  made_lists = ap (λ rs. take (suc (length rs)) (drop b.forgotten (X ∷ X ∷ []))) made_keeps ∙ ap (λ n. take 1 (drop n (X ∷ X ∷ []))) m.none_forgotten

  -- the nodes that it needs
  made_same : (p : ℕ) → is_some (get b.overwritten p) ≡ is_some (at_updated rule c.updated p)
  made_same p = m.updates p ∙ sym (some_at (list_any (λ j. p == size rule j) c.updated))
    where
      some_at : (t : Bool) → is_some {T = ⊤} (cond t (Some tt) None) ≡ t
      some_at true = refl
      some_at false = refl

  made_needed : (t : Tree) → IsNeeded rule (get b.overwritten) b.leaves_before (leaf_total b) t → IsNeeded rule (at_updated rule c.updated) (length X) (length c.elements) t
  made_needed t needed =
      subst (λ n. IsNeeded rule (at_updated rule c.updated) n (length c.elements) t) m.before
      (subst (λ e. IsNeeded rule (at_updated rule c.updated) b.leaves_before e t) made_total
      (needed_same rule (get b.overwritten) (at_updated rule c.updated) made_same b.leaves_before (leaf_total b) t needed))

  given_needed : (t : Tree) → IsNeeded rule (at_updated rule c.updated) (length X) (length c.elements) t → IsNeeded rule (get b.overwritten) b.leaves_before (leaf_total b) t
  given_needed t needed =
      needed_same rule (at_updated rule c.updated) (get b.overwritten) (λ p. sym (made_same p)) b.leaves_before (leaf_total b) t
      (subst (λ n. IsNeeded rule (at_updated rule c.updated) n (leaf_total b) t) (sym m.before) (subst (λ e. IsNeeded rule (at_updated rule c.updated) (length X) e t) (sym made_total) needed))

  -- over a structure that agrees with the list
  module _ (s : MemModel D) (agrees : Agrees h rule (contents s) X) where
    pub made_base : AgreesWithOne h rule (contents s) (kept_lists b (X ∷ X ∷ []))
    made_base = subst (AgreesWithOne h rule (contents s)) (sym made_lists) (0, X, refl, agrees)

    read_alone : (t : Tree) → read_over (kept b) (contents s) (position t) ≡ (contents s).node (position t)
    read_alone t = ap (λ rs. read_over rs (contents s) (position t)) made_keeps

    needed_old : (t : Tree) → IsNeeded rule (get b.overwritten) b.leaves_before (leaf_total b) t → position t < length (node_digests h rule X)
    needed_old t (used, old, untouched) = omega (arith, old, digests_length h rule X, ap (size rule) m.before)

    -- a node that it misses is needed and was pruned
    pub missing_lost : (t : Tree) → IsMissing rule b (contents s) t → IsNeeded rule (at_updated rule c.updated) (length X) (length c.elements) t × (is_kept rule s.boundary (position t) ≡ false)
    missing_lost t (needed, none) = (made_needed t needed, gone (is_kept rule s.boundary (position t)) refl)
      where
        gone : (k : Bool) → is_kept rule s.boundary (position t) ≡ k → k ≡ false
        gone false e = refl
        gone true e = absurd (held_not_none (node_digests h rule X) (position t) (needed_old t needed)
            (sym (agrees.holds (position t) ∙ ap (λ k. cond k (slice_get (node_digests h rule X) (position t)) None) e) ∙ sym (read_alone t) ∙ none))

    pub lost_missing : (t : Tree) → IsNeeded rule (at_updated rule c.updated) (length X) (length c.elements) t → is_kept rule s.boundary (position t) ≡ false → IsMissing rule b (contents s) t
    lost_missing t needed lost = (given_needed t needed, read_alone t ∙ agrees.holds (position t) ∙ ap (λ k. cond k (slice_get (node_digests h rule X) (position t)) None) lost)

    -- what it is merkleized to
    module _ (k : MerkleizedModel D) (stands : IsHistory h rule (records k) (kept_lists b (X ∷ X ∷ []) ++ pending_list rule b X ∷ [])) where
      two_lists : IsHistory h rule (records k) (X ∷ leaf_digests h rule 0 c.elements ∷ [])
      two_lists = subst (λ Y. IsHistory h rule (records k) (X ∷ Y ∷ [])) m.elements (subst (λ ls. IsHistory h rule (records k) (ls ++ pending_list rule b X ∷ [])) made_lists stands)

      pub made_accepted : EqDecides h → is_some (matched h.same s.size (held_peaks rule (length X) (contents s)) k) ≡ true
      made_accepted law = accepts h rule law k (X ∷ leaf_digests h rule 0 c.elements ∷ []) (contents s) X 0 two_lists refl (omega arith) agrees

      pub made_applied : {F : Type 0} (d : Contents D) → k.ancestors ≡ kept b → applied {F = F} h.same rule (length X) k (contents s) ≡ Ok d
          → Agrees h rule d (leaf_digests h rule 0 c.elements) × (d.boundary ≡ s.boundary)
      made_applied {F = F} d alone done =
          let peaks = held_peaks rule (length X) (contents s) in
          let is : with_records (records k) (contents s) ≡ d =
          taken (contents s) d (is_state h.same s.size peaks (oldest k).before (oldest k).peaks_before)
          (last_match (λ r. is_state h.same s.size peaks (after r) r.peaks_after) k.ancestors)
          (ap (last_match (λ r. is_state h.same s.size peaks (after r) r.peaks_after)) (alone ∙ made_keeps)) done in (
            subst (λ x. Agrees h rule x (leaf_digests h rule 0 c.elements)) is
                (agree_all h rule (records k) X (leaf_digests h rule 0 c.elements ∷ []) (contents s) two_lists agrees),
            sym (ap (λ x. x.boundary) is)
                ∙ with_record_boundary (records k) (contents s),
          )
        where
          taken : (c d : Contents D) (b : Bool) (o : Option ℕ) → o ≡ None
              → ◌≡◌ {A = Result (Contents D) (Error F)}
              (ok_or (option_map (λ i. with_records (drop i (records k)) c) (cond b (Some 0) o)) (apply_error c.size k)) (Ok d) → with_records (records k) c ≡ d
          taken c d true o n e = (cc)
          taken c d false None n e = absurd (cc)
          taken c d false (Some i) n e = absurd (cc)
