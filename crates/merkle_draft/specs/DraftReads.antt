-- What a draft reads.
use Rattle.std.specs.Prelude.{◌≡◌, ℕ, ◌-◌, ◌<◌, List, Option, Some, is_some, true, slice_get, cond, length, nat_lt, refl}
use Rattle.std.specs.Ordering.{nat_cmp}
use Rattle.std.specs.FinMap.{FinMap, get, code}
use Rattle.std.specs.Coded.{Coded, code_by, coded×, coded_ℕ, coded_list}
use Rattle.std.specs.Option.{option_or}
use Rattle.merkle_base.specs.Tree.{Tree, position}
use Rattle.merkle_base.specs.Places.{peaks_of}
use Rattle.merkle_batch_theory.specs.Assignment.{ReadsAgree, digests_from}
use Rattle.merkle_batch_theory.specs.Contents.{Contents}
use Rattle.merkle_draft.specs.NodeErrors.{IsGapAt}
use Rattle.merkle_batch_theory.specs.Read.{read_over}
use Rattle.merkle_batch_theory.specs.Records.{RecordModel, record_model_code}
use Rattle.merkle_draft.specs.declared.node_error.NodeError.{NodeError}

-- a batch in the making
pub record DraftModel (D : Type 0) : Type 0 where
  -- the number of nodes before
  pub before : ℕ
  -- the records that it keeps, oldest first
  pub kept : List (RecordModel D)
  -- the new digests of nodes that were there before, by position
  pub overwritten : FinMap nat_cmp D
  -- the nodes from position `before` on
  pub appended : List D

-- how the prover writes a batch in the making as numbers
abbrev pub drafted_code : {D : Type 0} → Coded D → Coded (DraftModel D)
drafted_code d =
    code_by _ (coded× coded_ℕ (coded× (coded_list (record_model_code d)) (coded× (code coded_ℕ d) (coded_list d))))
    (λ r. (r.before, (r.kept, (r.overwritten, r.appended))))
    (λ p. record { before = p.0; kept = p.1.0; overwritten = p.1.1.0; appended = p.1.1.1 })
    (λ _. refl)

-- what a draft reads below its own nodes: what the newest kept record has, or else the base
abbrev pub below : {D : Type 0} → DraftModel D → Contents D → ℕ → Option D
below d base p = read_over d.kept base p

-- what a draft reads at a position before the nodes that it appends
abbrev pub old_node : {D : Type 0} → DraftModel D → Contents D → ℕ → Option D
old_node d base p = option_or (get d.overwritten p) (below d base p)

-- the digest that a draft stores for position p: an overwritten one before the nodes that it appends, or one of these
abbrev pub stored_node : {D : Type 0} → DraftModel D → ℕ → Option D
stored_node d p = cond (nat_lt p d.before) (get d.overwritten p) (slice_get d.appended (p - d.before))

-- P of each assignment of digests to positions that what a draft reads of old nodes, and what it appends, agree with
abbrev pub ForTruth : {D : Type 0} → DraftModel D → Contents D → ((ℕ → D) → Type 0) → Type 0
ForTruth {D} d base P = (truth : ℕ → D) → ReadsAgree (old_node d base) d.before truth
    → d.appended ≡ digests_from truth d.before (length d.appended) → P truth

-- new is old with other appended nodes
abbrev pub OnlyAppends : {D : Type 0} → DraftModel D → DraftModel D → Type 0
OnlyAppends old new = (new.before ≡ old.before) × (new.kept ≡ old.kept) × (new.overwritten ≡ old.overwritten)

-- new is old with other overwritten nodes
abbrev pub OnlyOverwrites : {D : Type 0} → DraftModel D → DraftModel D → Type 0
OnlyOverwrites old new = (new.before ≡ old.before) × (new.kept ≡ old.kept) × (new.appended ≡ old.appended)

-- the peaks of n leaves before position s are read
abbrev pub ArePeaksRead : {D : Type 0} → (List ℕ → List ℕ) → ℕ → ℕ → (ℕ → Option D) → Type 0
ArePeaksRead rule n s read = (i : ℕ) (t : Tree) → slice_get (peaks_of rule n) i ≡ Some t → position t < s → is_some (read (position t)) ≡ true

-- the error names a peak of n leaves, before position s, at which nothing is read
abbrev pub IsMissingPeak : {F D : Type 0} → (List ℕ → List ℕ) → ℕ → ℕ → (ℕ → Option D) → NodeError F → Type 0
IsMissingPeak rule n s read e = (i : ℕ) × (t : Tree) × (slice_get (peaks_of rule n) i ≡ Some t) × (position t < s) × IsGapAt read (position t) e
