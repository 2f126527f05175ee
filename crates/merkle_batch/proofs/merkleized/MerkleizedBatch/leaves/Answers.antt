use Rattle.std.proofs.Common.{ap, ◌∙◌}
use Rattle.merkle_batch_theory.specs.Records.{after}
use Rattle.merkle_batch.proofs.merkleized.MerkleizedBatch.leaves.Goals as goal

pub returns-clause-count : goal.returns-clause-count
returns-clause-count g c = ap (λ b. b.leaves) c.self.view_is

pub returns-clause-sized : goal.returns-clause-sized
returns-clause-sized g c = c.self.invariant.counted.sized ∙ ap (λ b. after b.own) c.self.view_is
