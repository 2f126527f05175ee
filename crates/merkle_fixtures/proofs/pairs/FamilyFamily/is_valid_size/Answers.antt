use Rattle.std.proofs.Common.{◌-◌, ◌/◌, arith}
use Rattle.std.proofs.lemmas.Bool.{leb-true, le-leb}
use Rattle.merkle_fixtures.proofs.PairFacts.{pairs_size}
use Rattle.merkle_fixtures.proofs.pairs.FamilyFamily.is_valid_size.Goals as goal

pub returns-then-nodes-eq2 : goal.returns-then-nodes-eq2
returns-then-nodes-eq2 c = (
  λ t. absurd (cc),
  λ s. absurd (omega (arith, s.2, pairs_size s.0, c.as_u64-nodes.ensures, c.if-nodes-eq2.true)),
)

pub returns-else-nodes-eq2 : goal.returns-else-nodes-eq2
returns-else-nodes-eq2 c =
    let p = c.as_u64-nodes.result in (
      λ t.
          let low = leb-true p 150 t in
          (p - p / 3, omega (arith, low, c.if-nodes-eq2.false), omega (arith, low, pairs_size (p - p / 3), c.as_u64-nodes.ensures, c.if-nodes-eq2.false)),
      λ s. le-leb p 150 (omega (arith, s.1, s.2, pairs_size s.0, c.as_u64-nodes.ensures)),
    )
