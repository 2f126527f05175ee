use Rattle.std.proofs.Common.{arith}
use Rattle.merkle_fixtures.proofs.PairFacts.{pairs_size}
use Rattle.merkle_fixtures.proofs.pairs.FamilyFamily.location_to_position.Goals as goal

pub returns : goal.returns
returns c = omega (arith, c.new.ensures, c.as_u64.ensures, c.as_u64-2.ensures, pairs_size c.args.location)
