-- What holds of the records of every batch.
use Rattle.std.specs.Prelude.{◌≡◌, ℕ, List, [], ◌∷◌, length}
use Rattle.merkle_base.specs.Places.{peaks_of}
use Rattle.merkle_batch_theory.specs.Records.{RecordModel, MerkleizedModel, records, after}
use Rattle.merkle_batch_theory.specs.Replay.{oldest}
use Rattle.merkle_batch_theory.specs.MemValid.{HasLeafCount}

-- each record begins with as many nodes as there are after the one before it, the first one with n
abbrev pub RunsFrom : {D : Type 0} → ℕ → List (RecordModel D) → Type 0
RunsFrom n [] = Unit {0}
RunsFrom n (r ∷ rs) = (r.before ≡ n) × RunsFrom (after r) rs

-- what holds of every batch: its records follow one another, its leaves have the nodes after the last, and it has as many peaks as these leaves
pub record IsBatchValid {D : Type 0} (rule : List ℕ → List ℕ) (max_leaves : ℕ) (c : MerkleizedModel D) : Type 0 where
  pub runs : RunsFrom (oldest c).before (records c)
  pub counted : HasLeafCount rule max_leaves c.leaves (after c.own)
  pub peaks : length c.own.peaks_after ≡ length (peaks_of rule c.leaves)
