-- Frontiers: what an entry that is appended does to the lists that the peaks of a log are of.
use Rattle.std.specs.Prelude.{◌≡◌, ℕ, List, [], ◌∷◌, ◌++◌, length}
use Rattle.merkle_core.specs.Contents.{Contents, Agrees}
use Rattle.merkle_core.specs.Forest.{size}
use Rattle.merkle_core.specs.Hashing.{Hashing}
use Rattle.merkle_core.specs.History.{IsHistory}
use Rattle.merkle_core.specs.Records.{MerkleizedModel, records}
use Rattle.merkle_core.specs.Root.{list_root}
use Rattle.merkle_core.specs.Scheme.{Scheme}

-- the list with the leaf digest of an entry at its end
abbrev pub with_entry : {D : Type 0} → Hashing D → (List ℕ → List ℕ) → List D → List ℕ → List D
with_entry h rule X entry = X ++ h.leaf (size rule (length X)) entry ∷ []

-- a structure agrees with each list with which it agreed before
abbrev pub StillAgrees : {D : Type 0} → Hashing D → (List ℕ → List ℕ) → (old new : Contents D) → Type 0
StillAgrees {D} h rule old new = (X : List D) → Agrees h rule old X → Agrees h rule new X

-- for each list that a structure agrees with, the batch is the step from this list to the one with the digest d at its end
abbrev pub ExtendsBy : {D : Type 0} → Hashing D → (List ℕ → List ℕ) → Contents D → (d : D) → MerkleizedModel D → Type 0
ExtendsBy {D} h rule c d b = (X : List D) → Agrees h rule c X → IsHistory h rule (records b) (X ∷ (X ++ d ∷ []) ∷ [])

-- for each list that a structure agreed with, it agrees with the list with the entry at its end, whose root this is
abbrev pub IsAppended : {D : Type 0} → Hashing D → (List ℕ → List ℕ) → Scheme D → (old new : Contents D) → (entry : List ℕ) → (root : D) → Type 0
IsAppended {D} h rule s old new entry root =
    (X : List D) → Agrees h rule old X → Agrees h rule new (with_entry h rule X entry) × (root ≡ list_root s (with_entry h rule X entry) 0)
