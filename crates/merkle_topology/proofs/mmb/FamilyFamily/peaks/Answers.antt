use Rattle.std.proofs.Common.{rules}
use Rattle.merkle_topology.proofs.mmb.FamilyFamily.peaks.Goals as goal

pub returns-clause-leaves : goal.returns-clause-leaves
returns-clause-leaves c = search rules depth 2

pub returns-clause-peaks : goal.returns-clause-peaks
returns-clause-peaks c = search rules depth 2
