use Rattle.merkle_batch_theory.proofs.Complete.{completed, stands_push, no_change}
use Rattle.merkle_batch_theory.proofs.Accepted.{stands_from}
use Rattle.merkle_batch_theory.proofs.Chains.{splits, still}
use Rattle.merkle_batch_theory.proofs.BaseFacts.{based_needed, based_missing}
use Rattle.merkle_batch_theory.proofs.laws.completing.Goals as goal

pub returns : goal.returns
returns g c = record { step = completed; stands = stands_push; splits = splits; still = still; no_change = no_change; forgets = stands_from; needed_right = based_needed; none_missing = based_missing }
