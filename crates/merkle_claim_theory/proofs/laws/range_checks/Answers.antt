use Rattle.merkle_root_theory.proofs.RangeChecks.{honest_is_accepted, accepted_is_honest}
use Rattle.merkle_claim_theory.proofs.Verdicts.{check_decides}
use Rattle.merkle_root_theory.proofs.Extraction.{extracts_nodes}
use Rattle.merkle_claim_theory.proofs.ExtractedPositionsDistinct.{extracts_once}
use Rattle.merkle_root_theory.proofs.Reconstruction.{leads_is_accepted}
use Rattle.merkle_claim_theory.proofs.laws.range_checks.Goals as goal

pub returns : goal.returns
returns g c = record { honest = honest_is_accepted; others = accepted_is_honest; leads = leads_is_accepted; decides = check_decides; nodes = extracts_nodes; once = extracts_once }
