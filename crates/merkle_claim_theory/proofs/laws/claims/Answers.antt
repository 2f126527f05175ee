use Rattle.merkle_root_theory.proofs.Collisions.{main}
use Rattle.merkle_root_theory.proofs.Claims.{honest_accepted, nothing_else, pair_agrees}
use Rattle.merkle_claim_theory.proofs.laws.claims.Goals as goal

pub returns : goal.returns
returns g c = record { collide = main; honest = honest_accepted; others = nothing_else; pairs = pair_agrees }
