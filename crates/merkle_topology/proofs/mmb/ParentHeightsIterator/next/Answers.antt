use Rattle.std.proofs.Common.{rules}
use Rattle.merkle_topology.proofs.mmb.ParentHeightsIterator.next.Goals as goal

pub returns-clause-steps : goal.returns-clause-steps
returns-clause-steps c = search rules depth 2

pub returns-clause-goes : goal.returns-clause-goes
returns-clause-goes c = search rules depth 2
