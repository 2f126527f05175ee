use Rattle.std.proofs.Common.{arith}
use Rattle.merkle_base.specs.Tree.{join}
use Rattle.merkle_fixtures.proofs.FlatFacts.{flat_height}
use Rattle.merkle_fixtures.proofs.flat.FamilyFamily.children.Goals as goal

pub returns : goal.returns
returns c = λ n a b e. absurd (omega (arith, flat_height n c.args.position (join c.args.position a b) e))
