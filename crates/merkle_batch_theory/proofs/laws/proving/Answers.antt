use Rattle.merkle_batch_theory.proofs.NeededNodes.{sibling_kept, peaks_kept}
use Rattle.merkle_batch_theory.proofs.laws.proving.Goals as goal

pub returns : goal.returns
returns c = record { peaks = peaks_kept; siblings = sibling_kept }
