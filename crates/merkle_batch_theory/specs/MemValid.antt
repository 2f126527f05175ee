-- What holds of the fields of every structure and every batch.
use Rattle.std.specs.Prelude.{◌≡◌, ℕ, ◌≤◌, List}
use Rattle.merkle_base.specs.Forest.{size}
use Rattle.merkle_batch_theory.specs.Contents.{HoldsKept}
use Rattle.merkle_batch_theory.specs.Held.{Held, held_contents}

-- the leaf count is within the limit, and `nodes` is its size in nodes
pub record HasLeafCount (rule : List ℕ → List ℕ) (max_leaves leaves nodes : ℕ) : Type 0 where
  pub bounded : leaves ≤ max_leaves
  pub sized : size rule leaves ≡ nodes

-- the nodes held are those of a structure of `leaves` leaves that was pruned to the boundary: all from the position of the boundary on,
-- and before it those that are kept
pub record IsMemValid {D : Type 0} (rule : List ℕ → List ℕ) (max_leaves boundary leaves : ℕ) (held : Held D) : Type 0 where
  pub starts : held.start ≡ size rule boundary
  pub within : boundary ≤ leaves
  pub counted : HasLeafCount rule max_leaves leaves held.size
  pub holds : HoldsKept rule (held_contents boundary held)
