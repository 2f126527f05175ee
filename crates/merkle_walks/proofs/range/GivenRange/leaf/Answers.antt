use Rattle.std.proofs.Common.{ap, get_or, ◌∙◌}
use Rattle.merkle_walks.proofs.RangeWalks.{read_or}
use Rattle.merkle_walks.proofs.range.GivenRange.leaf.Goals as goal

pub returns : goal.returns
returns g c =
    c.digest_at.ensures ∙ read_or c.args.self.now.leaves.now _ g.D.Digest.EMPTY ∙ ap (λ j. get_or c.args.self.now.leaves.now j g.D.Digest.EMPTY) (c.as_u64.ensures ∙ c.sub-index.ensures)
