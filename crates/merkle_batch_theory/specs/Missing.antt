-- Which nodes keep a batch from being merkleized.
use Rattle.std.specs.Prelude.{◌≡◌, ℕ, List, None}
use Rattle.std.specs.FinMap.{get}
use Rattle.merkle_base.specs.Tree.{Tree, position}
use Rattle.merkle_batch_theory.specs.Contents.{Contents}
use Rattle.merkle_batch_theory.specs.Needed.{IsNeeded}
use Rattle.merkle_batch_theory.specs.Unmerkleized.{UnmerkleizedModel, kept, leaf_total}
use Rattle.merkle_batch_theory.specs.Read.{read_over}

-- the batch needs the node t, and neither the records that it keeps nor the base hold it
abbrev pub IsMissing : {D : Type 0} → (List ℕ → List ℕ) → UnmerkleizedModel D → Contents D → Tree → Type 0
IsMissing rule p base t = IsNeeded rule (get p.overwritten) p.leaves_before (leaf_total p) t × (read_over (kept p) base (position t) ≡ None)
