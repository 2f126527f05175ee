-- The batch that every chain begins with.
use Rattle.std.specs.Prelude.{ℕ, List, []}
use Rattle.std.specs.FinMap.{empty}
use Rattle.merkle_batch_theory.specs.Contents.{Contents, held_peaks}
use Rattle.merkle_batch_theory.specs.Records.{RecordModel, MerkleizedModel}

-- the batch without changes over a structure of n leaves
abbrev pub root_batch : {D : Type 0} → (List ℕ → List ℕ) → ℕ → Contents D → MerkleizedModel D
root_batch {D} rule n c =
    let peaks = held_peaks rule n c in
    let own : RecordModel D = record { before = c.size; peaks_before = peaks; appended = []; overwritten = empty; peaks_after = peaks } in
    record { base_size = c.size; boundary = c.boundary; ancestors = []; own = own; leaves = n }
