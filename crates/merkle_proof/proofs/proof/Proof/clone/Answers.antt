use Rattle.std.proofs.Common.{refl}
use Rattle.merkle_proof.proofs.proof.Proof.clone.Goals as goal

pub returns-clause-inactive : goal.returns-clause-inactive
returns-clause-inactive g c = refl
