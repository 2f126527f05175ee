use Rattle.std.proofs.Common.{rules}
use Rattle.merkle_topology.proofs.mmb.PeakIteratorDefault.default.Goals as goal

pub returns : goal.returns
returns c = search rules depth 2
