use Rattle.std.proofs.Common.{◌≡◌, fold, take}
use Rattle.merkle_hasher.proofs.root.fold_all.Given as goal

abbrev pub invariant-loop-peak : goal.invariant-loop-peak
invariant-loop-peak g l = l.acc ≡ fold (g.T.Hasher.hashing l.hasher).fold l.fn.start (take l.peak-index l.peaks)
