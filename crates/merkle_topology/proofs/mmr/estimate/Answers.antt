use Rattle.std.proofs.Common.{arith, refl}
use Rattle.std.proofs.lemmas.Nat.{ones-le}
use Rattle.merkle_topology.proofs.mmr.estimate.Goals as goal

pub overflow_add-leaves : goal.overflow_add-leaves
overflow_add-leaves c = omega (arith, c.requires, c.from.ensures, ones-le 63 c.loop.leaves c.loop.invariant.below)

pub loop-preserved : goal.loop-preserved
loop-preserved c = record {
  same = refl;
  below = omega (arith, c.requires, c.from.ensures, ones-le 63 c.loop.leaves c.loop.invariant.below);
}
