use Rattle.std.proofs.Common.{ap, ◌∙◌}
use Rattle.merkle_batch_theory.specs.Unmerkleized.{forked}
use Rattle.merkle_batch.proofs.merkleized.MerkleizedBatch.new_batch.Goals as goal

pub returns-clause-forked : goal.returns-clause-forked
returns-clause-forked g c = c.new.ensures ∙ ap forked c.in_ok-clone.ensures.cases
