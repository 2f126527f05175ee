use Rattle.std.proofs.Common.{◌-◌, ◌/◌, arith}
use Rattle.merkle_fixtures.proofs.PairFacts.{pairs_size}
use Rattle.merkle_fixtures.proofs.pairs.FamilyFamily.to_nearest_size.Goals as goal

pub returns-then-as_u64-eq2 : goal.returns-then-as_u64-eq2
returns-then-as_u64-eq2 c =
    let p = c.sub.result in
    let e = c.sub.ensures in
    let u = c.as_u64.ensures in record {
      valid = (p - p / 3, omega (arith, e, u, c.if-as_u64-eq2.true, c.requires), omega (arith, e, u, c.if-as_u64-eq2.true, pairs_size (p - p / 3)));
      within = omega (arith, e);
      greatest = λ r s l. omega (arith, e, u, l, s.2, pairs_size s.0, c.if-as_u64-eq2.true);
    }

pub returns-else-as_u64-eq2 : goal.returns-else-as_u64-eq2
returns-else-as_u64-eq2 c =
    let p = c.args.nodes in record {
      valid = (p - p / 3, omega (arith, c.as_u64.ensures, c.if-as_u64-eq2.false, c.requires), omega (arith, c.as_u64.ensures, c.if-as_u64-eq2.false, pairs_size (p - p / 3)));
      within = omega arith;
      greatest = λ r s l. l;
    }
