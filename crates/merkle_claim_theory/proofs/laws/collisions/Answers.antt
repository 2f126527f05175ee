use Rattle.merkle_claim_theory.proofs.FirstCollisions.{finds_first}
use Rattle.merkle_root_theory.proofs.RootStrings.{tells_all}
use Rattle.merkle_claim_theory.proofs.HonestClaims.{same_peaks, honest_never_collides}
use Rattle.merkle_claim_theory.proofs.PlaceOrder.{places_in_order}
use Rattle.merkle_claim_theory.proofs.PlacesOnce.{places_once}
use Rattle.merkle_claim_theory.proofs.laws.collisions.Goals as goal

pub returns : goal.returns
returns g c = record {
  first = finds_first;
  strings = tells_all;
  peaks = same_peaks;
  honest = honest_never_collides;
  order = places_in_order;
  once = places_once;
}
