use Rattle.std.proofs.Common.{rules}
use Rattle.merkle_topology.proofs.mmr.ChunkPeaksIterator.next.Goals as goal

pub returns-clause-steps : goal.returns-clause-steps
returns-clause-steps c = search rules depth 2
