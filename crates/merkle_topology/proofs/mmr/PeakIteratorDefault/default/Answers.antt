use Rattle.merkle_topology.proofs.Perfect.{trees_none}
use Rattle.merkle_topology.proofs.mmr.PeakIteratorDefault.default.Goals as goal

pub returns : goal.returns
returns c = trees_none 0
