-- The positions of what a range proof reads, ascending.
use Rattle.std.proofs.Common.{◌≡◌, ℕ, List, map}
use Rattle.merkle_base.specs.Tree.{position}
use Rattle.merkle_root_theory.specs.Reads.{nodes_read}
use Rattle.merkle_scattered.specs.Positions.{IsAscendingOf, range_positions}
use Rattle.merkle_scattered.proofs.AscendingPositions.{ascending_positions}
use Rattle.merkle_proof.proofs.BuiltDigests.{reads_at}

pub range_ascending : (rule : List ℕ → List ℕ) (n a b : ℕ) (xs zs : List ℕ) → xs ≡ map position (nodes_read rule n a b) → IsAscendingOf xs zs → zs ≡ range_positions rule n a b
range_ascending rule n a b xs zs is once = ascending_positions rule n (nodes_read rule n a b) xs zs (reads_at rule n a b) is once
