use Rattle.std.proofs.Common.{length, arith, ap}
use Rattle.merkle_batch_theory.proofs.RootBatch.{lawful_size}
use Rattle.merkle_batch.proofs.merkleized.MerkleizedBatch.without_changes.Goals as goal

pub invariant_of-own : goal.invariant_of-own
invariant_of-own g c =
    omega (
      arith,
      c.size.ensures,
      c.leaves-leaves.ensures.sized,
      ap length c.new.ensures.items,
      lawful_size g.F.Family.rule g.F.Family.MAX_LEAVES g.F.Family.MAX_NODES c.leaves-leaves.result g.met.F.Family.lawful c.leaves-leaves.ensures.bounded,
    )
