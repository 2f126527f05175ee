use Rattle.merkle_store_theory.proofs.PositionReads.{reads_by_position}
use Rattle.merkle_store_theory.proofs.StoreHolds.{answered_is_held, shorter_is_refused, shorter_is_next}
use Rattle.merkle_store_theory.proofs.HonestStores.{honest_store_is_honest}
use Rattle.merkle_store_theory.proofs.StoreProofs.{store_reads_claim, store_answers, store_is_accepted}
use Rattle.merkle_store_theory.proofs.laws.stores.Goals as goal

pub returns : goal.returns
returns g c = record {
  claim = store_reads_claim;
  answers = store_answers;
  accepted = store_is_accepted;
  honest = honest_store_is_honest;
  held = answered_is_held;
  shorter = shorter_is_refused;
  next = shorter_is_next;
  positions = reads_by_position;
}
