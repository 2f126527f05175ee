use Rattle.std.proofs.Common.{arith}
use Rattle.merkle_hasher.proofs.hasher.Hasher.root_with_folded_peaks.Goals as goal

pub returns-then-to_fold-peaks : goal.returns-then-to_fold-peaks
returns-then-to_fold-peaks g c = λ w. omega (arith, c.if-to_fold-peaks.true, w.0)
