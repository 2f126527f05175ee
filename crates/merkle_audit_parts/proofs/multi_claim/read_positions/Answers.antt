use Rattle.std.proofs.Common.{◌≡◌, ◌<◌, length, arith, rules, ap, sym, ◌∙◌}
use Rattle.merkle_proof.proofs.MultiRefusals.{refused_are_none}
use Rattle.merkle_audit_parts.proofs.Claims.{only_memory}
use Rattle.merkle_audit_parts.proofs.GivenElements.{none_read}
use Rattle.merkle_audit_parts.proofs.multi_claim.read_positions.Goals as goal

pub returns-then-is_empty-clause-positions : goal.returns-then-is_empty-clause-positions
returns-then-is_empty-clause-positions g c =
    let none : length c.args.locations.now ≡ 0 = search rules in
    c.new.ensures.items ∙ sym (none_read g.F.Family.rule c.args.leaves c.args.locations.now none)

pub returns-then-is_empty-clause-rises : goal.returns-then-is_empty-clause-rises
returns-then-is_empty-clause-rises g c = λ k l. absurd (omega (arith, l, ap length c.new.ensures.items))

pub returns-in-Err-clause-refused : goal.returns-in-Err-clause-refused
returns-in-Err-clause-refused g c =
    let some : 0 < length c.args.locations.now = search rules in
    only_memory c.in-Err.error (λ f. refused_are_none g.row.F.Denot g.F.Family.MAX_LEAVES c.args.leaves c.args.locations.now c.in-Err.error (c.in-Err.ensures.err f) (c.requires some))
