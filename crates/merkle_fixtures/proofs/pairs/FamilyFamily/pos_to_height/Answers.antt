use Rattle.std.proofs.Common.{arith, sym}
use Rattle.merkle_fixtures.proofs.PairFacts.{pairs_height}
use Rattle.merkle_fixtures.proofs.pairs.FamilyFamily.pos_to_height.Goals as goal

pub returns-then-as_u64-eq2 : goal.returns-then-as_u64-eq2
returns-then-as_u64-eq2 c = λ n t e. sym ((pairs_height n c.args.position t e).0 (omega (arith, c.as_u64.ensures, c.if-as_u64-eq2.true)))

pub returns-else-as_u64-eq2 : goal.returns-else-as_u64-eq2
returns-else-as_u64-eq2 c = λ n t e. sym ((pairs_height n c.args.position t e).1 (λ d. c.if-as_u64-eq2.false (omega (arith, c.as_u64.ensures, d))))
