use Rattle.std.proofs.Common.{◌∙◌}
use Rattle.merkle_verification.proofs.AllPeaks.{inactive_peaks-all}
use Rattle.merkle_verification.proofs.readers.peak_count.Goals as goal

pub returns : goal.returns
returns g c = c.inactive_peaks.ensures ∙ inactive_peaks-all g.F.Family.rule c.args.leaves
