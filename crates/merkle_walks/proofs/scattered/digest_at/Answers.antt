use Rattle.std.proofs.Common.{ap, sym, ◌∙◌}
use Rattle.std.specs.Option.{unwrap_or}
use Rattle.merkle_scattered.proofs.ToldTable.{get_reads}
use Rattle.merkle_walks.proofs.scattered.digest_at.Goals as goal

pub returns-in-Some : goal.returns-in-Some
returns-in-Some g c =
    ap (λ o. unwrap_or o g.D.Digest.EMPTY) (sym c.in-Some.is ∙ c.copied.ensures ∙ get_reads c.args.digests.now c.args.index c.get.result c.get.ensures.lookup)

pub returns-in-None : goal.returns-in-None
returns-in-None g c =
    c.EMPTY.ensures
    ∙ ap (λ o. unwrap_or o g.D.Digest.EMPTY) (sym c.in-None.is ∙ c.copied.ensures ∙ get_reads c.args.digests.now c.args.index c.get.result c.get.ensures.lookup)
