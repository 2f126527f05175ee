use Rattle.std.proofs.Common.{arith}
use Rattle.merkle_fixtures.specs.FlatLawful.{flat_size}
use Rattle.merkle_fixtures.proofs.flat.FamilyFamily.to_nearest_size.Goals as goal

pub returns : goal.returns
returns c = record {
  valid = (c.args.nodes, c.requires, flat_size c.args.nodes);
  within = omega arith;
  greatest = λ r s l. l;
}
