use Rattle.std.proofs.Common.{sym}
use Rattle.merkle_fixtures.proofs.FlatFacts.{flat_height}
use Rattle.merkle_fixtures.proofs.flat.FamilyFamily.pos_to_height.Goals as goal

pub returns : goal.returns
returns c = λ n t e. sym (flat_height n c.args.position t e)
