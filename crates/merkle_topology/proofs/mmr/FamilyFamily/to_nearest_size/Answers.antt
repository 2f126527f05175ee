use Rattle.std.proofs.Common.{rules}
use Rattle.merkle_topology.proofs.mmr.FamilyFamily.to_nearest_size.Goals as goal

pub returns : goal.returns
returns c = search rules depth 2
