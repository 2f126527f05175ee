use Rattle.std.proofs.Common.{length, ap, sym, ◌∙◌}
use Rattle.merkle_topology.proofs.BeltPeaks.{length-newest_peaks}
use Rattle.merkle_topology.proofs.mmb.PeakIteratorExactSizeIterator.len.Goals as goal

pub returns-clause-value : goal.returns-clause-value
returns-clause-value c = sym (length-newest_peaks c.self.inside.left c.self.inside.leaves c.self.inside.enough) ∙ ap (λ s. length s.left) c.self.view_is
