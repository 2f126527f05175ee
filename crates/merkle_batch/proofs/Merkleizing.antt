-- A batch over a base that agrees with one of its lists: what it makes stands on lists, and no needed node is missing.
use Rattle.std.proofs.Common.{◌≡◌, ℕ, ◌+◌, ◌<◌, ◌≤◌, List, [], ◌∷◌, ◌++◌, length, drop, Option, Some, None, true, false, slice_get, arith, refl, sym, ap, ◌∙◌, subst}
use Rattle.std.specs.Prelude.{is_some, slice_index_or}
use Rattle.std.specs.Option.{option_or}
use Rattle.std.specs.FinMap.{get}
use Rattle.std.proofs.lemmas.Option.{get_or_from_slice_get}
use Rattle.std.proofs.lemmas.Bool.{or_parts}
use Rattle.merkle_base.specs.Tree.{Tree, leaf, join, IsBuilt}
use Rattle.merkle_base.specs.Forest.{forest, size}
use Rattle.merkle_base.specs.Hashing.{Hashing}
use Rattle.merkle_base.specs.Digests.{digest_at, node_digests, peak_digests}
use Rattle.merkle_base.proofs.Births.{leaf_at}
use Rattle.merkle_base.proofs.Nodes.{node_built, size_inj}
use Rattle.merkle_batch_theory.specs.Contents.{Contents, AgreesWithOne}
use Rattle.merkle_batch_theory.specs.Missing.{IsMissing}
use Rattle.merkle_batch_theory.specs.Unmerkleized.{IsUnmerkleizedValid, UnmerkleizedModel, kept, kept_lists, leaf_total, pending_list}
use Rattle.merkle_batch_theory.specs.Read.{read_over}
use Rattle.merkle_batch_theory.specs.Records.{RecordModel, records}
use Rattle.merkle_draft.specs.DraftReads.{DraftModel, stored_node}
use Rattle.merkle_draft.specs.NewDigests.{AreNewDigests}
use Rattle.merkle_batch_theory.specs.Held.{overwritten_by}
use Rattle.merkle_batch_theory.specs.Needed.{IsNeeded}
use Rattle.merkle_batch_theory.specs.History.{is_dirty, IsStep, IsHistory, last_list}
use Rattle.merkle_batch_theory.specs.Assignment.{ReadsAgree, digests_from}
use Rattle.merkle_batch_theory.proofs.Complete.{none_missing}
use Rattle.merkle_batch_theory.proofs.Forking.{kept_stands, last_size, stands_more}
use Rattle.merkle_batch_theory.proofs.ListAssignments.{truth_of}
use Rattle.merkle_batch_theory.proofs.MerkleizeSteps.{changed, changed_length, changed_new, changed_old, step_is}
use Rattle.merkle_batch.proofs.NewDigests.{appended_right, overwritten_right, reads_right}
use Rattle.merkle_batch_theory.proofs.Steps.{node_digest_at}
use Rattle.merkle_batch_theory.proofs.ReadThroughRecords.{read_right}
use Rattle.merkle_batch_theory.proofs.OptionFacts.{none_of, over_none}
use Rattle.merkle_base.proofs.Lists.{get_exists}

over_new : {D : Type 0} (d : D) (o : Option D) (x : D) → o ≡ Some x → overwritten_by (Some d) o ≡ Some d
over_new d None x e = absurd (cc)
over_new d (Some y) x e = refl

module _ {D : Type 0} (h : Hashing D) (rule : List ℕ → List ℕ) (m : ℕ → Option D) (X added : List D) where
  -- a node over no changed leaf keeps its digest
  pub unchanged_digest : (t : Tree) → IsBuilt (forest rule (length X)).nodes t → is_dirty m t ≡ false → digest_at h (changed h rule m X added) t ≡ digest_at h X t
  unchanged_digest (leaf q k) b u =
      let a = leaf_at rule (length X) q q k b in
      let Y : List D = changed h rule m X added in
      let x = get_exists X k a.1 in
      let here : slice_get Y k ≡ Some x.0 = changed_old h rule m X added k a.1 ∙ ap (λ o. overwritten_by o (slice_get X k)) (ap m (sym a.0) ∙ none_of (m q) u) ∙ over_none (slice_get X k) ∙ x.1 in
      get_or_from_slice_get Y k x.0 h.empty here ∙ sym (get_or_from_slice_get X k x.0 h.empty x.1)
  unchanged_digest (join q l r) b u =
      let n = or_parts (is_dirty m l) (is_dirty m r) u in
      ap (λ d. h.node q d (digest_at h (changed h rule m X added) r)) (unchanged_digest l b.4 n.0) ∙ ap (λ d. h.node q (digest_at h X l) d) (unchanged_digest r b.5 n.1)

  -- a changed leaf has its new digest
  pub changed_digest : (k : ℕ) (d : D) → k < length X → m (size rule k) ≡ Some d → d ≡ digest_at h (changed h rule m X added) (leaf (size rule k) k)
  changed_digest k d l e =
      let x = get_exists X k l in
      sym (get_or_from_slice_get (changed h rule m X added) k d h.empty (changed_old h rule m X added k l ∙ ap (λ o. overwritten_by o (slice_get X k)) e ∙ over_new d (slice_get X k) x.0 x.1))

  -- and an added one its own
  pub added_digest : (k : ℕ) (d : D) → slice_get added k ≡ Some d → d ≡ digest_at h (changed h rule m X added) (leaf (size rule (length X + k)) (length X + k))
  added_digest k d e = sym (get_or_from_slice_get (changed h rule m X added) (length X + k) d h.empty (changed_new h rule m X added k ∙ e))

module _ {D : Type 0} (h : Hashing D) (rule : List ℕ → List ℕ) (max_leaves : ℕ) (p : UnmerkleizedModel D)
    (pending : IsUnmerkleizedValid rule max_leaves p) (ls : List (List D)) (stands : IsHistory h rule (records p.parent) ls) where
  abbrev last : List D
  last = last_list ls

  -- the parent's leaves are those of its last list
  pub leaves_are : p.leaves_before ≡ length last
  leaves_are = size_inj rule p.leaves_before (length last) (pending.sized ∙ (last_size h rule p.parent ls stands).0)

  abbrev list : List D
  list = pending_list rule p last

  pub list_length : length list ≡ leaf_total p
  list_length = omega (arith, changed_length h rule (get p.overwritten) last p.added, leaves_are)

  pub list_within : length list ≤ max_leaves
  list_within = omega (arith, list_length, pending.bounded)

  -- the added leaves have their digests
  list_added : (k : ℕ) (d : D) → slice_get p.added k ≡ Some d → d ≡ digest_at h list (leaf (size rule (p.leaves_before + k)) (p.leaves_before + k))
  list_added k d e = added_digest h rule (get p.overwritten) last p.added k d e ∙ ap (λ (n : ℕ). slice_index_or list (n + k) h.empty) (sym leaves_are)

  module _ (base : Contents D) (agrees : AgreesWithOne h rule base (kept_lists p ls)) where
    -- an untouched node that is read has its digest of the new list
    below_right : (q : ℕ) (t : Tree) (d : D) → slice_get (forest rule p.leaves_before).nodes q ≡ Some t → is_dirty (get p.overwritten) t ≡ false
        → read_over (kept p) base q ≡ Some d → d ≡ digest_at h list t
    below_right q t d e u g =
        (let k = kept_stands h rule p ls pending.forgotten stands in
        let there : slice_get (k.0 ∷ k.1) agrees.0 ≡ Some agrees.1 = ap (λ xs. slice_get xs agrees.0) (sym k.2) ∙ agrees.2 in
        let read : slice_get (node_digests h rule last) q ≡ Some d = ap (λ X. slice_get (node_digests h rule X) q) (sym k.4)
        ∙ read_right h rule (kept p) k.0 k.1 base agrees.0 agrees.1 k.3 there agrees.3 q d g in
        let node : slice_get (forest rule (length last)).nodes q ≡ Some t = ap (λ (n : ℕ). slice_get (forest rule n).nodes q) (sym leaves_are) ∙ e in
        let same : Some d ≡ Some (digest_at h last t) = sym read ∙ node_digest_at h rule last q t node in
        let digest : d ≡ digest_at h last t = cc in
        digest ∙ sym (unchanged_digest h rule (get p.overwritten) last p.added t (node_built rule (length last) q t node) u))

    leaf_told : (k : ℕ) (d : D) → k < p.leaves_before → get p.overwritten (size rule k) ≡ Some d → d ≡ digest_at h list (leaf (size rule k) k)
    leaf_told k d l e = changed_digest h rule (get p.overwritten) last p.added k d (omega (arith, l, leaves_are)) e

    -- where a draft stores the new digests
    module _ (d : DraftModel D) (b : d.before ≡ size rule p.leaves_before)
        (are : AreNewDigests h rule (get p.overwritten) (read_over (kept p) base) p.leaves_before p.added (stored_node d)) where
      -- what is read at old positions is right
      pub list_reads : ReadsAgree (λ q. option_or (get d.overwritten q) (read_over (kept p) base q)) (size rule p.leaves_before)
          (truth_of h rule max_leaves list)
      list_reads =
          reads_right h rule (get p.overwritten) (read_over (kept p) base) p.leaves_before p.added list below_right leaf_told list_added d b are max_leaves
          list_within pending.bounded

      -- and so is what is appended
      pub list_appended : d.before + length d.appended ≡ size rule (leaf_total p)
          → d.appended ≡ digests_from (truth_of h rule max_leaves list) d.before (length d.appended)
      list_appended =
          appended_right h rule (get p.overwritten) (read_over (kept p) base) p.leaves_before p.added list below_right leaf_told list_added d b are max_leaves
          list_within pending.bounded

      -- and the record with the new nodes and peaks makes the batch stand on lists
      pub list_stands : (r : RecordModel D) → r.before ≡ size rule p.leaves_before → r.overwritten ≡ d.overwritten
          → ((q : ℕ) → size rule p.leaves_before ≤ q → get d.overwritten q ≡ None)
          → r.appended ≡ drop (size rule p.leaves_before) (node_digests h rule list) → r.peaks_before ≡ p.parent.own.peaks_after
          → r.peaks_after ≡ peak_digests h rule list → IsHistory h rule (kept p ++ r ∷ []) (kept_lists p ls ++ list ∷ [])
      list_stands r before overwritten past appended peaks_before peaks_after =
          (let k = kept_stands h rule p ls pending.forgotten stands in
          let n : size rule p.leaves_before ≡ size rule (length last) = ap (size rule) leaves_are in
          let step = step_is h rule (get p.overwritten) last p.added d.overwritten
          (λ q t e. overwritten_right h rule (get p.overwritten) (read_over (kept p) base) p.leaves_before p.added list below_right leaf_told list_added d b are
          q t (ap (λ (n : ℕ). slice_get (forest rule n).nodes q) leaves_are ∙ e))
          (λ q l. past q (omega (arith, l, n)))
          r.peaks_before r.appended r.peaks_after (appended ∙ ap (λ (b : ℕ). drop b (node_digests h rule list)) n)
          (peaks_before ∙ (last_size h rule p.parent ls stands).1) peaks_after in
          let made : record { before = size rule (length last); peaks_before = r.peaks_before; appended = r.appended; overwritten = d.overwritten; peaks_after = r.peaks_after } ≡ r =
          (λ i. record { before = sym (before ∙ n) i; peaks_before = r.peaks_before; appended = r.appended; overwritten = sym overwritten i; peaks_after = r.peaks_after }) in
          subst (λ xs. IsHistory h rule (kept p ++ r ∷ []) (xs ++ list ∷ [])) (sym k.2)
          (stands_more h rule (kept p) (k.0 ∷ k.1) r list k.3 (subst (λ X. IsStep h rule r X list) (sym k.4) (subst (λ s. IsStep h rule s last list) made step))))

    -- where the changed leaves stand at the base's boundary or after it no needed node is missing
    pub list_given : ((k : ℕ) → is_some (get p.overwritten (size rule k)) ≡ true → base.boundary ≤ k) → (t : Tree) → IsMissing rule p base t → ⊥
    list_given above t missing =
        (let k = kept_stands h rule p ls pending.forgotten stands in
        let there : slice_get (k.0 ∷ k.1) agrees.0 ≡ Some agrees.1 = ap (λ xs. slice_get xs agrees.0) (sym k.2) ∙ agrees.2 in
        let n : p.leaves_before ≡ length (last_list (k.0 ∷ k.1)) = leaves_are ∙ ap length (sym k.4) in
        let r : RecordModel D = record { before = 0; peaks_before = []; appended = []; overwritten = p.overwritten; peaks_after = [] } in
        let x = none_missing h rule (kept p) k.0 k.1 base agrees.0 agrees.1 k.3 there agrees.3 r (leaf_total p) (omega (arith, n)) above t
        (subst (λ (n : ℕ). IsNeeded rule (get p.overwritten) n (leaf_total p) t) n missing.0) in
        let c : None ≡ Some x.0 = sym missing.1 ∙ x.1 in cc)
