-- What a structure is that agrees with a list.
use Rattle.std.specs.Prelude.{◌≡◌, ℕ, List}
use Rattle.merkle_base.specs.Hashing.{Hashing}
use Rattle.merkle_batch_theory.specs.Contents.{Contents, Agrees}

-- two structures that agree with one list and were pruned to one boundary are the same
abbrev pub OneStructure : Type 0 → Type 0
OneStructure D = (h : Hashing D) (rule : List ℕ → List ℕ) (X : List D) (c d : Contents D)
    → Agrees h rule c X → Agrees h rule d X → c.boundary ≡ d.boundary → c ≡ d
