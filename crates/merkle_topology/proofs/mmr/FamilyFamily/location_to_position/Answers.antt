use Rattle.std.proofs.Common.{rules}
use Rattle.merkle_topology.proofs.mmr.FamilyFamily.location_to_position.Goals as goal

pub returns : goal.returns
returns c = search rules depth 2
