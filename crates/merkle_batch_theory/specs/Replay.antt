-- At which state a batch is accepted, and what a `Mem` is after it.
use Rattle.std.specs.Prelude.{ℕ, suc, ◌+◌, ◌-◌, List, [], ◌∷◌, length, drop, Bool, Option, Some, None, Result, cond, nat_lt, nat_le, ◌&&◌, ◌==◌, slice_get}
use Rattle.std.specs.Cmp.Lexicographic.{pointwise}
use Rattle.std.specs.List.{fold}
use Rattle.std.specs.Option.{ok_or, option_map, unwrap_or}
use Rattle.std.specs.FinMap.{get}
use Rattle.merkle_base.specs.declared.error.Error.{Error}
use Rattle.merkle_base.specs.declared.error.Error.TheVariants.{AncestorDropped, StaleBatch}
use Rattle.merkle_batch_theory.specs.Contents.{Contents, held_peaks}
use Rattle.merkle_batch_theory.specs.MemModel.{MemModel, contents}
use Rattle.merkle_batch_theory.specs.Records.{RecordModel, MerkleizedModel, records, after}

-- a record laid over the old nodes, an overwrite of a node that is not held being dropped, and its new nodes appended
abbrev pub with_record : {D : Type 0} → RecordModel D → Contents D → Contents D
with_record r c = record {
  boundary = c.boundary;
  size = c.size + length r.appended;
  node = λ p. cond (nat_lt p c.size) (option_map (unwrap_or (get r.overwritten p)) (c.node p)) (slice_get r.appended (p - c.size));
}

-- a structure with records laid over it, one after another
abbrev pub with_records : {D : Type 0} → List (RecordModel D) → Contents D → Contents D
with_records rs c = fold (λ c r. with_record r c) c rs

-- the place after the last record that passes
abbrev pub last_match : {X : Type 0} → (X → Bool) → List X → Option ℕ
last_match test [] = None
last_match test (r ∷ rs) = elim (last_match test rs) [ Some i ↦ Some (suc i) | None ↦ cond (test r) (Some 1) None ]

-- the oldest kept record, or the batch's own
abbrev pub oldest : {D : Type 0} → MerkleizedModel D → RecordModel D
oldest b = elim b.ancestors [ [] ↦ b.own | r ∷ rs ↦ r ]

-- whether a state of this size and these peaks is the one of n nodes with the peaks ps
abbrev pub is_state : {D : Type 0} → (D → D → Bool) → ℕ → List D → ℕ → List D → Bool
is_state same size peaks n ps = (size == n) && pointwise same peaks ps

-- how many records a state of this size and these peaks is behind: none before the oldest, else those up to the newest kept ancestor that ends at it
abbrev pub matched : {D : Type 0} → (D → D → Bool) → ℕ → List D → MerkleizedModel D → Option ℕ
matched same size peaks b =
    cond (is_state same size peaks (oldest b).before (oldest b).peaks_before) (Some 0)
    (last_match (λ r. is_state same size peaks (after r) r.peaks_after) b.ancestors)

-- how many of a batch's records a structure is behind, by its size and peak digests
abbrev pub match_of : {D : Type 0} → (D → D → Bool) → (List ℕ → List ℕ) → MemModel D → MerkleizedModel D → Option ℕ
match_of same rule m b = matched same m.size (held_peaks rule m.leaves (contents m)) b

-- why a batch is not applied to a structure of this size
abbrev pub apply_error : {F D : Type 0} → ℕ → MerkleizedModel D → Error F
apply_error size b = cond (nat_le b.base_size size && nat_lt size (oldest b).before) (AncestorDropped (after b.own) size) (StaleBatch b.base_size size)

-- a `Mem` of n leaves after a batch, or the error
abbrev pub applied : {F D : Type 0} → (D → D → Bool) → (List ℕ → List ℕ) → ℕ → MerkleizedModel D → Contents D → Result (Contents D) (Error F)
applied same rule n b c =
    ok_or (option_map (λ i. with_records (drop i (records b)) c) (matched same c.size (held_peaks rule n c) b)) (apply_error c.size b)
