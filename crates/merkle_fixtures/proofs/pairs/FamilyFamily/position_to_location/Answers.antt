use Rattle.std.proofs.Common.{arith}
use Rattle.merkle_fixtures.proofs.PairFacts.{pairs_size}
use Rattle.merkle_fixtures.proofs.pairs.FamilyFamily.position_to_location.Goals as goal

pub returns-then-position-eq2-clause-none : goal.returns-then-position-eq2-clause-none
returns-then-position-eq2-clause-none c = λ n e. omega (arith, e, pairs_size n, c.as_u64-position.ensures, c.if-position-eq2.true)

pub returns-else-position-eq2-clause-found : goal.returns-else-position-eq2-clause-found
returns-else-position-eq2-clause-found c =
    let r = c.new.ensures in
    (omega (arith, r, c.as_u64-position.ensures, c.if-position-eq2.false, c.requires), omega (arith, r, c.as_u64-position.ensures, c.if-position-eq2.false, pairs_size c.new.result))
