use Rattle.merkle_proof.proofs.MultiRefusals.{refused_are_none}
use Rattle.merkle_audit_parts.proofs.multi_claim.are_places_refused.Goals as goal

pub returns-in_default : goal.returns-in_default
returns-in_default g c = λ _ at.
    absurd (refused_are_none g.row.F.Denot g.F.Family.MAX_LEAVES c.args.leaves c.args.locations.now c.in-Err.error (c.in-Err.ensures.err c.in_default.not-OutOfMemory) at)
