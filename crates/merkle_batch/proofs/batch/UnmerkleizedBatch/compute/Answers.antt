use Rattle.std.proofs.Common.{rules, ◌≡◌, ◌≢◌, ℕ, ◌+◌, ◌<◌, ◌⊎◌, [], ◌∷◌, ◌++◌, length, drop, map, cond, arith, sym, ap, inl, inr, ◌∙◌, subst}
use Rattle.std.proofs.lemmas.Result.{err_from_is_err_and}
use Rattle.std.proofs.lemmas.List.{nil_from_length}
use Rattle.std.specs.FinMap.{from_entries, get}
use Rattle.std.specs.Ordering.{nat_cmp}
use Rattle.std.specs.Rc.{rc_slice_items}
use Rattle.merkle_base.specs.Forest.{size}
use Rattle.merkle_base.specs.Places.{peak_positions, peaks_of}
use Rattle.merkle_base.specs.Tree.{Tree, position}
use Rattle.merkle_base.specs.declared.error.Error.TheVariants as error
use Rattle.merkle_batch_theory.specs.BatchValid.{IsBatchValid}
use Rattle.merkle_batch_theory.specs.History.{last_list, IsHistory}
use Rattle.merkle_batch_theory.specs.Missing.{IsMissing}
use Rattle.merkle_batch_theory.specs.Needed.{computed_nodes}
use Rattle.merkle_batch_theory.proofs.NeededNodes.{IsChanged}
use Rattle.merkle_batch_theory.specs.Records.{after, records}
use Rattle.merkle_batch_theory.specs.Unmerkleized.{is_changed, kept, kept_lists, leaf_total, UnmerkleizedModel, pending_list}
use Rattle.merkle_batch_theory.proofs.MapFacts.{no_entry}
use Rattle.merkle_draft.specs.declared.node_error.NodeError.TheVariants.{OutOfMemory}
use Rattle.merkle_draft.specs.DraftReads.{ArePeaksRead, below, IsMissingPeak, old_node, stored_node}
use Rattle.merkle_draft.specs.NewDigests.{AreNewDigests, LacksNeeded}
use Rattle.merkle_batch.specs.Finished.{finished}
use Rattle.merkle_batch.proofs.Merkleizing.{list_given}
use Rattle.merkle_batch.proofs.MerkleizeFacts.{ArePeaks, batch_stands, changed_by_leaves, changed_by_updates, finished_linked, is_positive, IsDraft, IsFilled}
use Rattle.merkle_batch.proofs.MerkleizeFacts.{named_given, named_refused, NamesMissing, needed_missing, none_is_missing, of_fields, peak_missing, some_entry}
use Rattle.merkle_batch.proofs.batch.UnmerkleizedBatch.compute.Given.{Over}
use Rattle.merkle_batch.proofs.batch.UnmerkleizedBatch.compute.Goals.{After-compute, After-deref-3, After-deref-5, After-drop-draft-inside-in_err-count-2}
use Rattle.merkle_batch.proofs.batch.UnmerkleizedBatch.compute.Goals.{After-drop-draft-inside-in_err-read_peaks-3}
use Rattle.merkle_batch.proofs.batch.UnmerkleizedBatch.compute.Goals.{then-is_empty+then-is_empty-2+in_ok-peaks_after}
use Rattle.merkle_batch.proofs.batch.UnmerkleizedBatch.compute.Goals.{else-is_empty+in_ok-read_peaks+in_ok-peaks_after-2}
use Rattle.merkle_batch.proofs.batch.UnmerkleizedBatch.compute.Goals.{else-is_empty-via-then-is_empty+else-is_empty-2, else-is_empty-via-else-is_empty}
use Rattle.merkle_batch.proofs.batch.UnmerkleizedBatch.compute.Goals as goal

-- ---- the draft
drafted : (g : Over) (c : After-compute g) → IsDraft g.F.Family.rule g.F.Family.MAX_LEAVES c.args.self.now c.in_ok-draft.draft
drafted g c =
    let rule = g.F.Family.rule in
    let i = c.self.inside in
    let b : UnmerkleizedModel g.row.D.Denot = of_fields i.parent.value i.leaves_before i.added.items i.updates.entries i.forgotten in
    let of : IsDraft rule g.F.Family.MAX_LEAVES b c.in_ok-draft.draft = record {
      valid = c.self.invariant;
      records = c.in_ok-draft.ensures.kept ∙ ap (λ v. drop c.self.inside.forgotten v.ancestors ++ cond (is_changed v.own) (v.own ∷ []) []) c.deref.ensures;
      sized = c.in_ok-draft.ensures.size ∙ ap (λ v. after v.own) c.deref.ensures ∙ sym c.self.invariant.sized;
    } in
    subst (λ s. IsDraft rule g.F.Family.MAX_LEAVES s c.in_ok-draft.draft) c.self.view_is of

filled : (g : Over) (c : After-deref-3 g)
    → IsFilled (g.H.Hasher.hashing c.args.hasher.now) g.F.Family.rule c.args.self.now (g.B.Base.contents c.args.base.now) c.in_ok-draft.draft c.compute.new.self
filled g c =
    let h = g.H.Hasher.hashing c.args.hasher.now in
    let rule = g.F.Family.rule in
    let base = g.B.Base.contents c.args.base.now in
    let n : ℕ = c.self.inside.leaves_before in
    let m = get {R = nat_cmp} (from_entries c.self.inside.updates.entries) in
    let i = c.self.inside in
    let b : UnmerkleizedModel g.row.D.Denot = of_fields i.parent.value n i.added.items i.updates.entries i.forgotten in
    let of : IsFilled h rule b base c.in_ok-draft.draft c.compute.new.self = record {
      only = c.compute.ensures.only;
      counted = c.in_ok-count.ensures.counted ∙ ap (λ xs. size rule (n + length xs)) c.deref-2.ensures.value;
      stored = subst (λ xs. AreNewDigests h rule m (below c.in_ok-draft.draft base) n xs (stored_node c.compute.new.self)) c.deref-2.ensures.value
          c.in_ok-count.ensures.stored;
      old = c.in_ok-count.ensures.old;
    } in
    subst (λ s. IsFilled h rule s base c.in_ok-draft.draft c.compute.new.self) c.self.view_is of

-- ---- where the nodes are not computed
count_missing : (g : Over) (c : After-drop-draft-inside-in_err-count-2 g) → c.in_ok-draft.draft.kept ≡ kept c.args.self.now
    → c.in_err-count.field-0.0 ≢ OutOfMemory → NamesMissing g.F.Family.rule c.args.self.now (g.B.Base.contents c.args.base.now) c.in_err-count.field-0.0
count_missing g c of other =
    let rule = g.F.Family.rule in
    let base = g.B.Base.contents c.args.base.now in
    let d = c.in_ok-draft.draft in
    let gap = c.in_err-count.field-0.0 in
    let n : ℕ = c.self.inside.leaves_before in
    let m = get {R = nat_cmp} (from_entries c.self.inside.updates.entries) in
    let lacks : LacksNeeded rule m (below d base) n (n + length c.self.inside.added.items) gap =
    subst (λ xs. LacksNeeded rule m (below d base) n (n + length xs) gap) c.deref-2.ensures.value (c.in_err-count.ensures.missing other) in
    needed_missing rule c.args.self.now base d gap of
    (subst (λ s. LacksNeeded rule (get s.overwritten) (below d base) s.leaves_before (leaf_total s) gap) c.self.view_is lacks)

pub returns-in_err-count-clause-refused : goal.returns-in_err-count-clause-refused
returns-in_err-count-clause-refused g c =
    let rule = g.F.Family.rule in
    let base = g.B.Base.contents c.args.base.now in
    let is = drafted g (goal.at.returns-in_err-count-clause-refused g c).After-compute in
    let p = err_from_is_err_and c.from_residual-in_err-count.result c.from_residual-in_err-count.ensures.1 in
    rw p.1 (subst (λ e. (e ≡ error.OutOfMemory) ⊎ ((t : Tree) × (e ≡ error.MissingNode (position t)) × IsMissing rule c.args.self.now base t)) (sym p.2)
    (named_refused rule c.args.self.now base c.in_err-count.field-0.0 (count_missing g c is.records)))

pub returns-in_err-count-clause-granted : goal.returns-in_err-count-clause-granted
returns-in_err-count-clause-granted g c = λ k ls stands agrees above.
    let rule = g.F.Family.rule in
    let base = g.B.Base.contents c.args.base.now in
    let is = drafted g (goal.at.returns-in_err-count-clause-granted g c).After-compute in
    let p = err_from_is_err_and c.from_residual-in_err-count.result c.from_residual-in_err-count.ensures.1 in
    rw p.1 (p.2 ∙ named_given rule c.args.self.now base c.in_err-count.field-0.0 (count_missing g c is.records)
    (list_given k rule g.F.Family.MAX_LEAVES c.args.self.now is.valid ls stands base agrees above))

-- ---- where the peaks are not read
peaks_missing : (g : Over) (c : After-drop-draft-inside-in_err-read_peaks-3 g)
    → IsDraft g.F.Family.rule g.F.Family.MAX_LEAVES c.args.self.now c.in_ok-draft.draft
    → IsFilled (g.H.Hasher.hashing c.args.hasher.now) g.F.Family.rule c.args.self.now (g.B.Base.contents c.args.base.now) c.in_ok-draft.draft c.compute.new.self
    → c.in_err-read_peaks.field-0.0 ≢ OutOfMemory
    → NamesMissing g.F.Family.rule c.args.self.now (g.B.Base.contents c.args.base.now) c.in_err-read_peaks.field-0.0
peaks_missing g c is made other =
    let rule = g.F.Family.rule in
    let max = g.F.Family.MAX_LEAVES in
    let base = g.B.Base.contents c.args.base.now in
    let i = c.self.inside in
    let b : UnmerkleizedModel g.row.D.Denot = of_fields i.parent.value i.leaves_before i.added.items i.updates.entries i.forgotten in
    let d = c.compute.new.self in
    let gap = c.in_err-read_peaks.field-0.0 in
    let changed : IsChanged rule (get b.overwritten) b.leaves_before (leaf_total b) = elim c.else-is_empty.branch [
      | else-is_empty-via-then-is_empty+else-is_empty-2 w ↦ (let some : 0 < length c.self.inside.updates.entries = search rules in
          changed_by_updates rule max b c.self.invariant (some_entry c.self.inside.updates.entries some))
      | else-is_empty-via-else-is_empty w ↦
          (let some : 0 < c.self.inside.added.len = is_positive c.self.inside.added.len (sym c.is_empty.ensures ∙ w.if-is_empty.false) in
          changed_by_leaves rule max b (omega (arith, some, c.self.inside.added.ok)))
    ] in
    peak_missing (g.H.Hasher.hashing c.args.hasher.now) rule max c.args.self.now base c.in_ok-draft.draft d is made gap
    (subst (λ s. IsChanged rule (get s.overwritten) s.leaves_before (leaf_total s)) c.self.view_is changed)
    (subst (λ (n : ℕ). IsMissingPeak rule n d.before (old_node d base) gap) c.leaves-leaves.ensures.count (c.in_err-read_peaks.ensures.missing other))

pub returns-in_err-read_peaks-clause-refused : goal.returns-in_err-read_peaks-clause-refused
returns-in_err-read_peaks-clause-refused g c =
    let rule = g.F.Family.rule in
    let base = g.B.Base.contents c.args.base.now in
    let at = (goal.at.returns-in_err-read_peaks-clause-refused g c) in
    let p = err_from_is_err_and c.from_residual-in_err-read_peaks.result c.from_residual-in_err-read_peaks.ensures.1 in
    rw p.1 (subst (λ e. (e ≡ error.OutOfMemory) ⊎ ((t : Tree) × (e ≡ error.MissingNode (position t)) × IsMissing rule c.args.self.now base t)) (sym p.2)
    (named_refused rule c.args.self.now base c.in_err-read_peaks.field-0.0 (peaks_missing g c (drafted g at.After-compute) (filled g at.After-deref-3))))

pub returns-in_err-read_peaks-clause-granted : goal.returns-in_err-read_peaks-clause-granted
returns-in_err-read_peaks-clause-granted g c = λ k ls stands agrees above.
    let rule = g.F.Family.rule in
    let base = g.B.Base.contents c.args.base.now in
    let at = (goal.at.returns-in_err-read_peaks-clause-granted g c) in
    let p = err_from_is_err_and c.from_residual-in_err-read_peaks.result c.from_residual-in_err-read_peaks.ensures.1 in
    let is = drafted g at.After-compute in
    rw p.1 (p.2 ∙ named_given rule c.args.self.now base c.in_err-read_peaks.field-0.0 (peaks_missing g c is (filled g at.After-deref-3))
    (list_given k rule g.F.Family.MAX_LEAVES c.args.self.now is.valid ls stands base agrees above))

-- ---- the batch that is made
peaks_are : (g : Over) (c : After-deref-5 g)
    → ArePeaks g.F.Family.rule c.args.self.now (g.B.Base.contents c.args.base.now) c.compute.new.self (rc_slice_items c.in_ok-peaks_before.peaks_before)
    (rc_slice_items c.if-is_empty.peaks_after)
peaks_are g c =
    let rule = g.F.Family.rule in
    let base = g.B.Base.contents c.args.base.now in
    let d = c.compute.new.self in
    let pb = rc_slice_items c.in_ok-peaks_before.peaks_before in
    let pa = rc_slice_items c.if-is_empty.peaks_after in
    elim c.if-is_empty.branch [
      | then-is_empty+then-is_empty-2+in_ok-peaks_after w ↦ (let none : length c.self.inside.added.items ≡ 0 = search rules in
          let same : length c.self.inside.updates.entries ≡ 0 = search rules in
          let copy : pa ≡ pb = ap rc_slice_items w.peaks_after-is ∙ (let s : rc_slice_items w.in_ok-peaks_after.peaks_after ≡ pb = search rules in s) in
          subst (λ s. ArePeaks rule s base d pb pa) c.self.view_is
          (inl (nil_from_length c.self.inside.added.items none, no_entry c.self.inside.updates.entries same, copy)))
      | else-is_empty+in_ok-read_peaks+in_ok-peaks_after-2 w ↦
          (let copy : rc_slice_items w.in_ok-peaks_after-2.peaks_after ≡ w.in_ok-read_peaks.field-0.items = search rules in
          let made_of : pa ≡ w.in_ok-read_peaks.field-0.items = ap rc_slice_items w.peaks_after-is ∙ copy in
          let total : c.leaves-leaves.result ≡ leaf_total c.args.self.now = c.leaves-leaves.ensures.count in
          inr (
            subst (λ (n : ℕ). ArePeaksRead rule n d.before (old_node d base)) total w.in_ok-read_peaks.ensures.read,
            λ truth reads made. made_of ∙ w.in_ok-read_peaks.ensures.right truth reads made ∙ ap (λ (n : ℕ). map truth (peak_positions rule n)) total,
          ))
    ]

peaks_start : (g : Over) (c : After-deref-5 g) → rc_slice_items c.in_ok-peaks_before.peaks_before ≡ c.args.self.now.parent.own.peaks_after
peaks_start g c =
    let before : rc_slice_items c.in_ok-peaks_before.peaks_before ≡ c.self.inside.parent.value.own.peaks_after = search rules in
    before ∙ ap (λ s. s.parent.own.peaks_after) c.self.view_is

pub finish-requires : goal.finish-requires
finish-requires g c =
    let at = (goal.at.finish-requires g c) in
    let rule = g.F.Family.rule in
    let max = g.F.Family.MAX_LEAVES in
    let d = c.compute.new.self in
    let pb = rc_slice_items c.in_ok-peaks_before.peaks_before in
    let pa = rc_slice_items c.if-is_empty.peaks_after in
    let parent : c.self.inside.parent.value ≡ c.args.self.now.parent = ap (λ s. s.parent) c.self.view_is in
    let linked : IsBatchValid rule max c.args.self.now.parent =
    subst (IsBatchValid rule max) (c.behind-self.view_is ∙ c.deref-3.ensures ∙ parent) c.behind-self.invariant in
    subst (λ v. IsBatchValid rule max (finished v d c.leaves-leaves.result pb pa)) (sym (c.deref-5.ensures ∙ parent))
    (finished_linked (g.H.Hasher.hashing c.args.hasher.now) rule max c.args.self.now (g.B.Base.contents c.args.base.now) c.in_ok-draft.draft d
    (drafted g at.After-compute) (filled g at.After-deref-3) pb pa (peaks_are g at.After-deref-5) (peaks_start g at.After-deref-5)
    c.leaves-leaves.result linked c.leaves-leaves.ensures.count)

pub returns-clause-peaks : goal.returns-clause-peaks
returns-clause-peaks g c =
    ap (λ v. length v.own.peaks_after) c.in_ok-batch.ensures ∙ (finish-requires g (goal.at.returns-clause-peaks g c).After-deref-5).peaks
    ∙ ap (λ (n : ℕ). length (peaks_of g.F.Family.rule n)) c.leaves-leaves.ensures.count

pub returns-clause-complete : goal.returns-clause-complete
returns-clause-complete g c =
    let at = (goal.at.returns-clause-complete g c) in
    none_is_missing (g.H.Hasher.hashing c.args.hasher.now) g.F.Family.rule g.F.Family.MAX_LEAVES c.args.self.now (g.B.Base.contents c.args.base.now)
    c.in_ok-draft.draft c.compute.new.self (drafted g at.After-compute) (filled g at.After-deref-3) (rc_slice_items c.in_ok-peaks_before.peaks_before)
    (rc_slice_items c.if-is_empty.peaks_after) (peaks_are g at.After-deref-5)

pub returns-clause-history : goal.returns-clause-history
returns-clause-history g c = λ ls stands agrees.
    let at = (goal.at.returns-clause-history g c) in
    let h = g.H.Hasher.hashing c.args.hasher.now in
    let rule = g.F.Family.rule in
    let d = c.compute.new.self in
    let pb = rc_slice_items c.in_ok-peaks_before.peaks_before in
    let pa = rc_slice_items c.if-is_empty.peaks_after in
    let parent : c.self.inside.parent.value ≡ c.args.self.now.parent = ap (λ s. s.parent) c.self.view_is in
    let made : c.in_ok-batch.batch.value ≡ finished c.args.self.now.parent d c.leaves-leaves.result pb pa =
    c.in_ok-batch.ensures ∙ ap (λ v. finished v d c.leaves-leaves.result pb pa) (c.deref-5.ensures ∙ parent) in
    subst (λ v. IsHistory h rule (records v) (kept_lists c.args.self.now ls ++ pending_list rule c.args.self.now (last_list ls) ∷ [])) (sym made)
    (batch_stands h rule g.F.Family.MAX_LEAVES c.args.self.now (g.B.Base.contents c.args.base.now) c.in_ok-draft.draft d (drafted g at.After-compute)
    (filled g at.After-deref-3) pb pa (peaks_are g at.After-deref-5) (peaks_start g at.After-deref-5) c.leaves-leaves.result ls stands agrees)

pub returns-clause-work : goal.returns-clause-work
returns-clause-work g c =
    let rule = g.F.Family.rule in
    let n : ℕ = c.self.inside.leaves_before in
    let m = get {R = nat_cmp} (from_entries c.self.inside.updates.entries) in
    let count : c.in_ok-count.count ≡ length (computed_nodes rule (get c.args.self.now.overwritten) c.args.self.now.leaves_before (leaf_total c.args.self.now)) =
    c.in_ok-count.ensures.work ∙ ap (λ xs. length (computed_nodes rule m n (n + length xs))) c.deref-2.ensures.value
    ∙ ap (λ s. length (computed_nodes rule (get s.overwritten) s.leaves_before (leaf_total s))) c.self.view_is in
    c.set_node_digests.ensures ∙ ap (λ (k : ℕ). record { node_digests = k; probes = c.args.work.now.probes }) count
