use Rattle.std.proofs.Common.{sym, ◌∙◌}
use Rattle.std.proofs.lemmas.Bool.{eqb-true, eq-eqb}
use Rattle.merkle_proof.proofs.proof.Proof.matches_canonical_inactive_peaks.Goals as goal

pub returns : goal.returns
returns g c = (λ t. eqb-true _ _ t ∙ c.inactive_peaks.ensures, λ e. eq-eqb _ _ (e ∙ sym c.inactive_peaks.ensures))
