-- What a batch changed, and the states before and after it.
use Rattle.std.specs.Prelude.{ℕ, ◌+◌, List, [], ◌∷◌, ◌++◌, length, refl}
use Rattle.std.specs.Ordering.{nat_cmp}
use Rattle.std.specs.FinMap.{FinMap, code}
use Rattle.std.specs.Coded.{Coded, code_by, coded×, coded_ℕ, coded_list}

-- what a record of a change is to a contract
pub record RecordModel (D : Type 0) : Type 0 where
  pub before : ℕ  -- the number of nodes before
  pub peaks_before : List D  -- the digests of the peaks before, oldest first
  pub appended : List D  -- the nodes from position `before` on
  pub overwritten : FinMap nat_cmp D  -- the nodes replaced, by position
  pub peaks_after : List D  -- the digests of the peaks after, oldest first

-- the code of a record as a value
abbrev pub record_model_code : {D : Type 0} → Coded D → Coded (RecordModel D)
record_model_code d =
    code_by _ (coded× coded_ℕ (coded× (coded_list d) (coded× (coded_list d) (coded× (code coded_ℕ d) (coded_list d)))))
    (λ r. (r.before, (r.peaks_before, (r.appended, (r.overwritten, r.peaks_after)))))
    (λ p. record { before = p.0; peaks_before = p.1.0; appended = p.1.1.0; overwritten = p.1.1.1.0; peaks_after = p.1.1.1.1 })
    (λ _. refl)

-- the number of nodes after a record's change
abbrev pub after : {D : Type 0} → RecordModel D → ℕ
after r = r.before + length r.appended

-- what a merkleized batch is to a contract: its own record and, oldest first, those of the ancestors that it keeps
pub record MerkleizedModel (D : Type 0) : Type 0 where
  pub base_size : ℕ  -- the size of the `Mem` that it began with
  pub boundary : ℕ  -- and its pruning boundary
  pub ancestors : List (RecordModel D)
  pub own : RecordModel D
  pub leaves : ℕ  -- the number of leaves after it

-- the records of a batch, oldest first: those of its kept ancestors, and then its own
abbrev pub records : {D : Type 0} → MerkleizedModel D → List (RecordModel D)
records c = c.ancestors ++ c.own ∷ []

-- the code of a merkleized batch as a value
abbrev pub merkleized_model_code : {D : Type 0} → Coded D → Coded (MerkleizedModel D)
merkleized_model_code d =
    code_by _ (coded× coded_ℕ (coded× coded_ℕ (coded× (coded_list (record_model_code d)) (coded× (record_model_code d) coded_ℕ))))
    (λ c. (c.base_size, (c.boundary, (c.ancestors, (c.own, c.leaves)))))
    (λ p. record { base_size = p.0; boundary = p.1.0; ancestors = p.1.1.0; own = p.1.1.1.0; leaves = p.1.1.1.1 })
    (λ _. refl)
