use Rattle.merkle_batch_theory.proofs.Accepted.{accepted, peaks_agree}
use Rattle.merkle_batch_theory.proofs.Matching.{accepts}
use Rattle.merkle_batch_theory.proofs.Applied.{applied_at}
use Rattle.merkle_batch_theory.proofs.laws.acceptance.Goals as goal

pub returns : goal.returns
returns g c = record { accepted = accepted; applied = applied_at; accepts = accepts; peaks = peaks_agree }
