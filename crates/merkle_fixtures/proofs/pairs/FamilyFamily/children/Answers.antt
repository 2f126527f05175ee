use Rattle.std.proofs.Common.{arith}
use Rattle.merkle_fixtures.proofs.PairFacts.{pairs_inner, pairs_children}
use Rattle.merkle_fixtures.proofs.pairs.FamilyFamily.children.Goals as goal

pub sub-requires : goal.sub-requires
sub-requires c = let k = c.requires in pairs_inner k.0 c.args.position k.1 k.3 (omega (arith, k.4, k.5))

pub sub-requires-2 : goal.sub-requires-2
sub-requires-2 c = let k = c.requires in omega (arith, pairs_inner k.0 c.args.position k.1 k.3 (omega (arith, k.4, k.5)))

pub returns : goal.returns
returns c = λ n a b e.
    let k = pairs_children n c.args.position a b e in
    (omega (arith, k.0, c.sub.ensures), omega (arith, k.1, c.sub-2.ensures))
