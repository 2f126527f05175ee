-- The batch that a draft makes.
use Rattle.std.specs.Prelude.{ℕ, List}
use Rattle.merkle_batch_theory.specs.Records.{MerkleizedModel}
use Rattle.merkle_draft.specs.DraftReads.{DraftModel}

-- the batch that a draft makes, forked from c, for a structure of `leaves` leaves, and the digests of the peaks before it and after it
abbrev pub finished : {D : Type 0} → MerkleizedModel D → DraftModel D → (leaves : ℕ) (peaks_before peaks_after : List D) → MerkleizedModel D
finished c d leaves peaks_before peaks_after = record {
  base_size = c.base_size;
  boundary = c.boundary;
  ancestors = d.kept;
  own = record { before = d.before; peaks_before = peaks_before; appended = d.appended; overwritten = d.overwritten; peaks_after = peaks_after };
  leaves = leaves;
}
