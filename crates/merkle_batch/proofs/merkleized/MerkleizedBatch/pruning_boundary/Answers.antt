use Rattle.std.proofs.Common.{ap}
use Rattle.merkle_batch.proofs.merkleized.MerkleizedBatch.pruning_boundary.Goals as goal

pub returns : goal.returns
returns g c = ap (λ b. b.boundary) c.self.view_is
