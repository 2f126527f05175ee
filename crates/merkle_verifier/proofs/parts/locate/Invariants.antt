use Rattle.std.proofs.Common.{◌≡◌, ◌++◌, drop}
use Rattle.merkle_verifier.specs.Inputs.{located}
use Rattle.merkle_verifier.proofs.parts.locate.Given as goal

abbrev pub invariant-loop-i : goal.invariant-loop-i
invariant-loop-i g l = l.all.items ++ located (drop l.i l.locations) (drop l.i l.parts) ≡ located l.locations l.parts
