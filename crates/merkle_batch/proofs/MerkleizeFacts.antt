-- What merkleizing a batch makes, from what its steps promise.
use Rattle.std.proofs.Common.{◌≡◌, ◌≢◌, ℕ, zero, suc, false, cond, nat_eq, ◌+◌, ◌<◌, ◌≤◌, ◌⊎◌, List, [], ◌∷◌, ◌++◌, length, drop, map, Option, Some, None, true}
use Rattle.std.proofs.Common.{slice_get, arith, refl, sym, ap, inl, inr, ◌∙◌, subst, append-nil}
use Rattle.std.specs.Prelude.{is_some, ◌==◌}
use Rattle.std.specs.Option.{option_or}
use Rattle.std.specs.FinMap.{from_entries, get, get-from_entries}
use Rattle.std.specs.Cmp.{nat_cmp_total}
use Rattle.std.specs.Map.{lookup}
use Rattle.std.specs.Ordering.{nat_cmp}
use Rattle.std.proofs.lemmas.Bool.{eq-eqb}
use Rattle.merkle_base.specs.Tree.{Tree, position}
use Rattle.merkle_base.specs.Forest.{size}
use Rattle.merkle_base.specs.Hashing.{Hashing}
use Rattle.merkle_base.proofs.Nodes.{size_inj}
use Rattle.merkle_base.specs.Digests.{node_digests, peak_digests}
use Rattle.merkle_base.specs.Places.{peak_positions, peaks_of}
use Rattle.merkle_batch_theory.specs.Contents.{Contents, AgreesWithOne}
use Rattle.merkle_batch.specs.Finished.{finished}
use Rattle.merkle_draft.specs.DraftReads.{ArePeaksRead, below, DraftModel, IsMissingPeak, old_node, stored_node}
use Rattle.merkle_draft.specs.NewDigests.{AreNewDigests, LacksNeeded}
use Rattle.merkle_batch_theory.specs.Missing.{IsMissing}
use Rattle.merkle_batch_theory.proofs.NeededNodes.{IsChanged}
use Rattle.merkle_batch_theory.specs.Unmerkleized.{IsUnmerkleizedValid, UnmerkleizedModel, kept, kept_lists, leaf_total, pending_list}
use Rattle.merkle_batch_theory.specs.Read.{read_over}
use Rattle.merkle_batch_theory.specs.BatchValid.{IsBatchValid, RunsFrom}
use Rattle.merkle_batch_theory.specs.Records.{MerkleizedModel, RecordModel, records}
use Rattle.merkle_batch_theory.specs.Replay.{oldest}
use Rattle.merkle_batch_theory.specs.Held.{overwritten_by}
use Rattle.merkle_batch_theory.specs.History.{last_list, replaced, IsHistory}
use Rattle.merkle_batch_theory.specs.Assignment.{ReadsAgree, digests_from}
use Rattle.merkle_draft.specs.declared.node_error.NodeError.{NodeError}
use Rattle.merkle_draft.specs.declared.node_error.NodeError.TheVariants.{Missing, OutOfMemory}
use Rattle.merkle_base.specs.declared.error.Error.TheVariants as error
use Rattle.merkle_draft.specs.NodeErrors.{node_error}
use Rattle.merkle_batch_theory.proofs.Edits.{same_gets, replaced_get}
use Rattle.merkle_batch_theory.proofs.Forking.{kept_runs, last_size}
use Rattle.merkle_batch_theory.proofs.Stored.{find_lookup}
use Rattle.merkle_batch_theory.proofs.ListAssignments.{appended_whole, peaks_whole, truth_of}
use Rattle.merkle_batch.proofs.Merkleizing.{list_appended, list_length, list_reads, list_stands, list_within}
use Rattle.merkle_batch.proofs.MissingNodes.{needed_read, peak_gap}
use Rattle.merkle_batch.proofs.PeakCounts.{as_many}
use Rattle.merkle_batch_theory.proofs.OptionFacts.{over_none}

-- it names a node that keeps the batch from being merkleized
abbrev pub NamesMissing : {F D : Type 0} → (List ℕ → List ℕ) → UnmerkleizedModel D → Contents D → NodeError F → Type 0
NamesMissing rule p base g = (t : Tree) × (g ≡ Missing (position t)) × IsMissing rule p base t

-- a list without changes is as it was
pub unchanged_list : {D : Type 0} (rule : List ℕ → List ℕ) (p : UnmerkleizedModel D) (X : List D) → p.added ≡ [] → ((q : ℕ) → get p.overwritten q ≡ None) → pending_list rule p X ≡ X
unchanged_list rule p X none same =
    ap (λ ds. replaced rule (get p.overwritten) 0 X ++ ds) none ∙ append-nil (replaced rule (get p.overwritten) 0 X)
    ∙ same_gets (replaced rule (get p.overwritten) 0 X) X
    (λ k. replaced_get rule (get p.overwritten) 0 X k ∙ ap (λ o. overwritten_by o (slice_get X k)) (same (size rule (0 + k))) ∙ over_none (slice_get X k))

-- a draft of the batch, without nodes of its own
pub record IsDraft {D : Type 0} (rule : List ℕ → List ℕ) (max_leaves : ℕ) (p : UnmerkleizedModel D) (d : DraftModel D) : Type 0 where
  pub valid : IsUnmerkleizedValid rule max_leaves p
  pub records : d.kept ≡ kept p
  pub sized : d.before ≡ size rule p.leaves_before

-- and with them
pub record IsFilled {D : Type 0} (h : Hashing D) (rule : List ℕ → List ℕ) (p : UnmerkleizedModel D) (base : Contents D) (d0 d1 : DraftModel D) : Type 0 where
  pub only : (d1.before ≡ d0.before) × (d1.kept ≡ d0.kept)
  pub counted : d1.before + length d1.appended ≡ size rule (leaf_total p)
  pub stored : AreNewDigests h rule (get p.overwritten) (below d0 base) p.leaves_before p.added (stored_node d1)
  pub old : (q : ℕ) → d0.before ≤ q → get d1.overwritten q ≡ None

-- the peaks of a batch: those of its parent where it has no changes, else those that are read
abbrev pub ArePeaks : {D : Type 0} → (List ℕ → List ℕ) → UnmerkleizedModel D → Contents D → DraftModel D → (pb pa : List D) → Type 0
ArePeaks {D} rule p base d pb pa =
    ((p.added ≡ []) × ((q : ℕ) → get p.overwritten q ≡ None) × (pa ≡ pb))
    ⊎ (ArePeaksRead rule (leaf_total p) d.before (old_node d base) × ((truth : ℕ → D) → ReadsAgree (old_node d base) d.before truth
    → d.appended ≡ digests_from truth d.before (length d.appended) → pa ≡ map truth (peak_positions rule (leaf_total p))))

-- the nodes below a draft are those of the records that its batch keeps, and of the base
below_is : {D : Type 0} (p : UnmerkleizedModel D) (d : DraftModel D) (base : Contents D) → d.kept ≡ kept p → below d base ≡ read_over (kept p) base
below_is p d base k = (λ i q. read_over (k i) base q)

-- a needed node that is not below the draft
pub needed_missing : {F D : Type 0} (rule : List ℕ → List ℕ) (p : UnmerkleizedModel D) (base : Contents D) (d : DraftModel D) (g : NodeError F)
    → d.kept ≡ kept p → LacksNeeded rule (get p.overwritten) (below d base) p.leaves_before (leaf_total p) g → NamesMissing rule p base g
needed_missing rule p base d g k lacks = (lacks.0, lacks.2.0, (lacks.1, ap (λ f. f (position lacks.0)) (sym (below_is p d base k)) ∙ lacks.2.1))

module _ {D : Type 0} (rule : List ℕ → List ℕ) (max_leaves : ℕ) (p : UnmerkleizedModel D) where
  pub changed_by_leaves : 0 < length p.added → IsChanged rule (get p.overwritten) p.leaves_before (leaf_total p)
  changed_by_leaves l = inl (omega (arith, l))

  pub changed_by_updates : IsUnmerkleizedValid rule max_leaves p → (q : ℕ) × (is_some (get p.overwritten q) ≡ true)
      → IsChanged rule (get p.overwritten) p.leaves_before (leaf_total p)
  changed_by_updates pending w = (let k = pending.leaves w.0 w.1 in inr (k.0, k.1, subst (λ q. is_some (get p.overwritten q) ≡ true) k.2 w.1))

  not_changed : p.added ≡ [] → ((q : ℕ) → get p.overwritten q ≡ None) → IsChanged rule (get p.overwritten) p.leaves_before (leaf_total p) → ⊥
  not_changed none same changed = elim changed [
    | inl l ↦ absurd (omega (arith, l, ap length none))
    | inr k ↦ (let f : is_some {T = D} None ≡ true = ap is_some (sym (same (size rule k.0))) ∙ k.2 in absurd (cc))
  ]

  -- a batch without changes has as many peaks as its parent
  same_peaks : (pa : List D) → IsUnmerkleizedValid rule max_leaves p → IsBatchValid rule max_leaves p.parent → p.added ≡ []
      → pa ≡ p.parent.own.peaks_after → length pa ≡ length (peaks_of rule (leaf_total p))
  same_peaks pa pending linked none same =
      let here : p.leaves_before ≡ p.parent.leaves = size_inj rule p.leaves_before p.parent.leaves (pending.sized ∙ sym linked.counted.sized) in
      ap length same ∙ linked.peaks ∙ ap (λ (n : ℕ). length (peaks_of rule n)) (omega (arith, here, ap length none))

module _ {D : Type 0} (h : Hashing D) (rule : List ℕ → List ℕ) (max_leaves : ℕ) (p : UnmerkleizedModel D) (base : Contents D) (d0 d1 : DraftModel D)
    (drafted : IsDraft rule max_leaves p d0) (filled : IsFilled h rule p base d0 d1) where
  are : AreNewDigests h rule (get p.overwritten) (read_over (kept p) base) p.leaves_before p.added (stored_node d1)
  are = subst (λ f. AreNewDigests h rule (get p.overwritten) f p.leaves_before p.added (stored_node d1)) (below_is p d0 base drafted.records) filled.stored

  abbrev read : ℕ → Option D
  read q = option_or (get d1.overwritten q) (read_over (kept p) base q)

  kept_are : d1.kept ≡ kept p
  kept_are = filled.only.1 ∙ drafted.records

  reads_are : old_node d1 base ≡ read
  reads_are = (λ i q. option_or (get d1.overwritten q) (read_over (kept_are i) base q))

  sized : d1.before ≡ size rule p.leaves_before
  sized = filled.only.0 ∙ drafted.sized

  -- a peak that is read
  pub peak_missing : {F : Type 0} (g : NodeError F) → IsChanged rule (get p.overwritten) p.leaves_before (leaf_total p)
      → IsMissingPeak rule (leaf_total p) d1.before (old_node d1 base) g → NamesMissing rule p base g
  peak_missing g changed gap =
      (let lacks = peak_gap h rule (get p.overwritten) (read_over (kept p) base) p.leaves_before p.added d1 sized are changed g
      (subst (λ f. IsMissingPeak rule (leaf_total p) (size rule p.leaves_before) f g) reads_are
      (subst (λ (b : ℕ). IsMissingPeak rule (leaf_total p) b (old_node d1 base) g) sized gap)) in
      (lacks.0, lacks.2.0, (lacks.1, lacks.2.1)))

  module _ (pb pa : List D) (peaks : ArePeaks rule p base d1 pb pa) where
    -- no node is missing
    pub none_is_missing : (t : Tree) → IsMissing rule p base t → ⊥
    none_is_missing t missing =
        let there : is_some (read_over (kept p) base (position t)) ≡ true =
        needed_read h rule (get p.overwritten) (read_over (kept p) base) p.leaves_before p.added d1 sized are
        (λ changed. elim peaks [
          | inl w ↦ absurd (not_changed rule max_leaves p w.0 w.1 changed)
          | inr w ↦ subst (λ f. ArePeaksRead rule (leaf_total p) (size rule p.leaves_before) f) reads_are
              (subst (λ (b : ℕ). ArePeaksRead rule (leaf_total p) b (old_node d1 base)) sized w.0)
        ])
        t missing.0 in
        let none : is_some (read_over (kept p) base (position t)) ≡ is_some {T = D} None = ap is_some missing.1 in absurd (cc)

    module _ (before : pb ≡ p.parent.own.peaks_after) (leaves : ℕ) where
      -- the batch that is made is linked
      pub finished_linked : IsBatchValid rule max_leaves p.parent → leaves ≡ leaf_total p → IsBatchValid rule max_leaves (finished p.parent d1 leaves pb pa)
      finished_linked linked total =
          let own = (finished p.parent d1 leaves pb pa).own in
          let with_ancestors : List (RecordModel D) → MerkleizedModel D =
          (λ ks. record { base_size = p.parent.base_size; boundary = p.parent.boundary; ancestors = ks; own = own; leaves = leaves }) in
          let many : length pa ≡ length (peaks_of rule (leaf_total p)) = elim peaks [
            | inl w ↦ same_peaks rule max_leaves p pa drafted.valid linked w.0 (w.2 ∙ before)
            | inr w ↦ as_many (old_node d1 base) d1.before d1.appended h.empty rule (leaf_total p) pa w.1
          ] in record {
            runs = subst (λ ks. RunsFrom (oldest (with_ancestors ks)).before (ks ++ own ∷ [])) (sym kept_are)
                (kept_runs rule max_leaves p.parent.base_size p.parent.boundary leaves p own linked drafted.valid.forgotten (sized ∙ drafted.valid.sized));
            counted = record { bounded = omega (arith, total, drafted.valid.bounded); sized = ap (size rule) total ∙ sym filled.counted };
            peaks = many ∙ ap (λ (n : ℕ). length (peaks_of rule n)) (sym total);
          }

      -- and it stands on lists
      pub batch_stands : (ls : List (List D)) → IsHistory h rule (records p.parent) ls → AgreesWithOne h rule base (kept_lists p ls)
          → IsHistory h rule (records (finished p.parent d1 leaves pb pa)) (kept_lists p ls ++ pending_list rule p (last_list ls) ∷ [])
      batch_stands ls stands agrees =
          let list : List D = pending_list rule p (last_list ls) in
          let long = list_within h rule max_leaves p drafted.valid ls stands in
          let truth = truth_of h rule max_leaves list in
          let total : leaf_total p ≡ length list = sym (list_length h rule max_leaves p drafted.valid ls stands) in
          let made : d1.appended ≡ digests_from truth d1.before (length d1.appended) =
          list_appended h rule max_leaves p drafted.valid ls stands base agrees d1 sized are filled.counted in
          let appended : d1.appended ≡ drop (size rule p.leaves_before) (node_digests h rule list) =
          appended_whole h rule max_leaves list long d1.before d1.appended (filled.counted ∙ ap (size rule) total) made
          ∙ ap (λ (b : ℕ). drop b (node_digests h rule list)) sized in
          let reads : ReadsAgree (old_node d1 base) d1.before truth =
          subst (λ f. ReadsAgree f d1.before truth) (sym reads_are) (subst (λ (b : ℕ). ReadsAgree read b truth) (sym sized)
          (list_reads h rule max_leaves p drafted.valid ls stands base agrees d1 sized are)) in
          let tops : pa ≡ peak_digests h rule list = elim peaks [
            | inl w ↦ w.2 ∙ before ∙ (last_size h rule p.parent ls stands).1 ∙ ap (peak_digests h rule) (sym (unchanged_list rule p (last_list ls) w.0 w.1))
            | inr w ↦ w.1 truth reads made ∙ ap (λ (n : ℕ). map truth (peak_positions rule n)) total ∙ peaks_whole h rule max_leaves list long
          ] in
          subst (λ ks. IsHistory h rule (ks ++ (finished p.parent d1 leaves pb pa).own ∷ []) (kept_lists p ls ++ list ∷ [])) (sym kept_are)
          (list_stands h rule max_leaves p drafted.valid ls stands base agrees d1 sized are (finished p.parent d1 leaves pb pa).own sized refl
          (λ q l. filled.old q (omega (arith, l, drafted.sized))) appended before tops)

-- ---- why it fails
-- the error names a missing node, or there is no memory
pub named_refused : {F D : Type 0} (rule : List ℕ → List ℕ) (p : UnmerkleizedModel D) (base : Contents D) (gap : NodeError F)
    → (gap ≢ OutOfMemory → NamesMissing rule p base gap)
    → (node_error gap ≡ error.OutOfMemory) ⊎ ((t : Tree) × (node_error gap ≡ error.MissingNode (position t)) × IsMissing rule p base t)
named_refused rule p base (Missing q) f = (let w = f (λ e. cc) in inr (w.0, ap node_error w.1, w.2))
named_refused rule p base OutOfMemory f = inl refl

-- and where none is missing there is no memory
pub named_given : {F D : Type 0} (rule : List ℕ → List ℕ) (p : UnmerkleizedModel D) (base : Contents D) (gap : NodeError F)
    → (gap ≢ OutOfMemory → NamesMissing rule p base gap) → ((t : Tree) → IsMissing rule p base t → ⊥) → node_error gap ≡ error.OutOfMemory
named_given rule p base (Missing q) f none = (let w = f (λ e. cc) in absurd (none w.0 w.2))
named_given rule p base OutOfMemory f none = refl

-- ---- whether there are changes
pub some_entry : {D : Type 0} (es : List (ℕ × D)) → 0 < length es → (q : ℕ) × (is_some (get {R = nat_cmp} (from_entries es) q) ≡ true)
some_entry [] l = absurd (omega arith)
some_entry {D} (e ∷ es) l = (e.0, ap is_some (get-from_entries nat_cmp_total (e ∷ es) e.0 ∙ find_lookup e.0 (e ∷ es) ∙ ap (λ b. cond b (Some e.1) (lookup (nat_eq e.0) es)) (eq-eqb e.0 e.0 refl)))

-- the value of a batch with these fields
abbrev pub of_fields : {D : Type 0} → MerkleizedModel D → ℕ → List D → List (ℕ × D) → ℕ → UnmerkleizedModel D
of_fields parent leaves_before added updates forgotten =
    record { parent = parent; leaves_before = leaves_before; added = added; overwritten = from_entries updates; forgotten = forgotten }

pub is_positive : (n : ℕ) → n == 0 ≡ false → 0 < n
is_positive zero e = absurd (cc)
is_positive (suc n) e = omega arith
