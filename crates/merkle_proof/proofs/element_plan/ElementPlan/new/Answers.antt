use Rattle.std.proofs.Common.{arith, inr, subst}
use Rattle.merkle_proof.specs.RangePlans.{IsRefusal}
use Rattle.merkle_proof.proofs.element_plan.ElementPlan.new.Goals as goal

pub returns-in-Err-clause-err : goal.returns-in-Err-clause-err
returns-in-Err-clause-err g c = λ other.
    let within = c.in-Some.ensures.0 in
    inr (omega (arith, within), subst (λ b. IsRefusal g.F.Family.MAX_LEAVES c.args.leaves c.args.location b c.in-Err.error) c.in-Some.ensures.1 (c.in-Err.ensures.err other))
