use Rattle.std.proofs.Common.{ap, ◌∙◌}
use Rattle.merkle_batch_theory.specs.Records.{after}
use Rattle.merkle_batch.proofs.merkleized.MerkleizedBatch.size.Goals as goal

pub returns : goal.returns
returns g c = c.size.ensures ∙ ap after (c.deref.ensures ∙ ap (λ b. b.own) c.self.view_is)
