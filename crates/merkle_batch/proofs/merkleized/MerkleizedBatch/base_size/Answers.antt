use Rattle.std.proofs.Common.{ap}
use Rattle.merkle_batch.proofs.merkleized.MerkleizedBatch.base_size.Goals as goal

pub returns : goal.returns
returns g c = ap (λ b. b.base_size) c.self.view_is
