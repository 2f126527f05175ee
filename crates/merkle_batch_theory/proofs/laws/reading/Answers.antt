use Rattle.merkle_batch_theory.proofs.ReadThroughRecords.{newest_read}
use Rattle.merkle_batch_theory.proofs.BaseFacts.{based_right, based_answered}
use Rattle.merkle_batch_theory.proofs.laws.reading.Goals as goal

pub returns : goal.returns
returns g c = record { newest = newest_read; right = based_right; answered = based_answered }
