-- A batch that is not merkleized yet.
use Rattle.std.specs.Prelude.{◌≡◌, ℕ, suc, ◌+◌, ◌-◌, ◌<◌, ◌≤◌, List, [], ◌∷◌, ◌++◌, length, take, drop, slice_set, Bool, true, not, Option, Some, None, is_some, cond, nat_le, nat_lt, ◌==◌, ◌&&◌, min, refl}
use Rattle.std.specs.Ordering.{nat_cmp}
use Rattle.std.specs.FinMap.{FinMap, empty, get, insert, len, code}
use Rattle.std.specs.List.{fold}
use Rattle.std.specs.Option.{option_or}
use Rattle.std.specs.Coded.{Coded, code_by, coded×, coded_ℕ, coded_list}
use Rattle.merkle_base.specs.Forest.{size}
use Rattle.merkle_base.specs.declared.error.Error.{Error}
use Rattle.merkle_base.specs.declared.error.Error.TheVariants.{ElementPruned, LeafOutOfBounds}
use Rattle.merkle_batch_theory.specs.Records.{RecordModel, MerkleizedModel, merkleized_model_code}
use Rattle.merkle_batch_theory.specs.History.{replaced}

-- what a batch that isn't merkleized is to a contract: what it was forked from, and the leaves that it changes and adds
pub record UnmerkleizedModel (D : Type 0) : Type 0 where
  pub parent : MerkleizedModel D  -- the batch that it was forked from
  pub leaves_before : ℕ  -- that batch's number of leaves
  pub added : List D  -- the digests of the added leaves
  pub overwritten : FinMap nat_cmp D  -- the new digests of leaves that were there before, by position
  pub forgotten : ℕ  -- how many of the parent's ancestors it lets go

-- the code of a batch that isn't merkleized as a value
abbrev pub unmerkleized_model_code : {D : Type 0} → Coded D → Coded (UnmerkleizedModel D)
unmerkleized_model_code d =
    code_by _ (coded× (merkleized_model_code d) (coded× coded_ℕ (coded× (coded_list d) (coded× (code coded_ℕ d) coded_ℕ))))
    (λ p. (p.parent, (p.leaves_before, (p.added, (p.overwritten, p.forgotten)))))
    (λ q. record { parent = q.0; leaves_before = q.1.0; added = q.1.1.0; overwritten = q.1.1.1.0; forgotten = q.1.1.1.1 })
    (λ _. refl)

-- the number of leaves with the added ones
abbrev pub leaf_total : {D : Type 0} → UnmerkleizedModel D → ℕ
leaf_total p = p.leaves_before + length p.added

-- the batch with more leaves
abbrev pub with_leaves : {D : Type 0} → UnmerkleizedModel D → List D → UnmerkleizedModel D
with_leaves p ds = record p { added = p.added ++ ds }

-- the batch with another digest for the leaf at location k
abbrev pub with_update : {D : Type 0} → (List ℕ → List ℕ) → UnmerkleizedModel D → ℕ → D → UnmerkleizedModel D
with_update rule p k d =
    cond (nat_lt k p.leaves_before)
    (record p { overwritten = insert p.overwritten (size rule k) d })
    (record p { added = slice_set p.added (k - p.leaves_before) d })

-- the batch after updates, one after another
abbrev pub with_updates : {D : Type 0} → (List ℕ → List ℕ) → UnmerkleizedModel D → List (ℕ × D) → UnmerkleizedModel D
with_updates rule p us = fold (λ p u. with_update rule p u.0 u.1) p us

-- why the leaf at location k is not updated: there is no such leaf, or it is pruned
abbrev pub update_error : {F D : Type 0} → (List ℕ → List ℕ) → UnmerkleizedModel D → ℕ → Option (Error F)
update_error rule p k = cond (nat_le (leaf_total p) k) (Some (LeafOutOfBounds k)) (cond (nat_lt k p.parent.boundary) (Some (ElementPruned (size rule k))) None)

-- the first error of some updates
abbrev pub first_error : {F D : Type 0} → (List ℕ → List ℕ) → UnmerkleizedModel D → List (ℕ × D) → Option (Error F)
first_error rule p [] = None
first_error rule p (u ∷ us) = option_or (update_error rule p u.0) (first_error rule p us)

-- the batch without n more of its parent's oldest ancestors
abbrev pub without_ancestors : {D : Type 0} → UnmerkleizedModel D → ℕ → UnmerkleizedModel D
without_ancestors p n = record p { forgotten = min (p.forgotten + n) (length p.parent.ancestors) }

-- a batch without changes, forked from c
abbrev pub forked : {D : Type 0} → MerkleizedModel D → UnmerkleizedModel D
forked c = record { parent = c; leaves_before = c.leaves; added = []; overwritten = empty; forgotten = 0 }

-- whether a record has changes
abbrev pub is_changed : {D : Type 0} → RecordModel D → Bool
is_changed r = not ((length r.appended == 0) && (len r.overwritten == 0))

-- the records that the batch keeps: those of the parent's ancestors that are not let go, and the parent's own if it has changes
abbrev pub kept : {D : Type 0} → UnmerkleizedModel D → List (RecordModel D)
kept p = drop p.forgotten p.parent.ancestors ++ cond (is_changed p.parent.own) (p.parent.own ∷ []) []

-- the lists that the kept records have as their history, of those of the parent: one more than there are records
abbrev pub kept_lists : {D : Type 0} → UnmerkleizedModel D → List (List D) → List (List D)
kept_lists p ls = take (suc (length (kept p))) (drop p.forgotten ls)

-- the list that the batch makes of the parent's last list
abbrev pub pending_list : {D : Type 0} → (List ℕ → List ℕ) → UnmerkleizedModel D → List D → List D
pending_list rule p X = replaced rule (get p.overwritten) 0 X ++ p.added

-- the list with each of these entries set to its digest, one after another
abbrev pub with_entries : {D : Type 0} → List D → List (ℕ × D) → List D
with_entries X us = fold (λ X u. slice_set X u.0 u.1) X us

-- what holds of every batch that is not merkleized yet
pub record IsUnmerkleizedValid {D : Type 0} (rule : List ℕ → List ℕ) (max_leaves : ℕ) (p : UnmerkleizedModel D) : Type 0 where
  pub bounded : leaf_total p ≤ max_leaves
  pub sized : size rule p.leaves_before ≡ p.parent.own.before + length p.parent.own.appended
  -- only leaves that were there before are overwritten
  pub leaves : (q : ℕ) → is_some (get p.overwritten q) ≡ true → (k : ℕ) × (k < p.leaves_before) × (q ≡ size rule k)
  pub forgotten : p.forgotten ≤ length p.parent.ancestors
