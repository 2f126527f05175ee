-- A base under a chain of lists.
use Rattle.std.specs.Prelude.{◌≡◌, ℕ, List, ◌∷◌, Some, slice_get}
use Rattle.merkle_base.specs.Hashing.{Hashing}
use Rattle.merkle_batch_theory.specs.Contents.{Contents, Agrees}
use Rattle.merkle_batch_theory.specs.Records.{RecordModel}
use Rattle.merkle_batch_theory.specs.History.{IsHistory}

-- the records stand on X and the lists after it, and the base agrees with one of these
pub record IsBased {D : Type 0} (h : Hashing D) (rule : List ℕ → List ℕ)
    (rs : List (RecordModel D)) (X : List D) (ls : List (List D)) (base : Contents D) : Type 0 where
  pub stands : IsHistory h rule rs (X ∷ ls)
  pub place : ℕ
  pub list : List D
  pub listed : slice_get (X ∷ ls) place ≡ Some list
  pub agrees : Agrees h rule base list
