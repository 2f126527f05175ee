use Rattle.std.proofs.Common.{arith}
use Rattle.merkle_base.proofs.Limits.{lawful_leaves}
use Rattle.merkle_batch.proofs.batch.UnmerkleizedBatch.leaves.Goals as goal

pub add-requires : goal.add-requires
add-requires g c =
    omega (arith, c.self.invariant, c.len.ensures, lawful_leaves g.F.Family.rule g.F.Family.MAX_LEAVES g.F.Family.MAX_NODES g.met.F.Family.lawful)
