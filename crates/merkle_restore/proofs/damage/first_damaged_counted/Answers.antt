use Rattle.std.proofs.Common.{arith, ap}
use Rattle.merkle_restore.proofs.HasherFacts.{decides}
use Rattle.merkle_restore.proofs.SearchResults.{first_when, whole_when, counted_when}
use Rattle.merkle_restore.proofs.MergedCounts.{at_most_merged}
use Rattle.merkle_restore.proofs.damage.first_damaged_counted.Goals as goal

pub returns-clause-damaged : goal.returns-clause-damaged
returns-clause-damaged g c =
    let laws = decides _ _ _ _ (g.met.H.Hasher.over_digest c.args.hasher.now) g.met.D.Digest.eq_decides in
    first_when (g.H.Hasher.hashing c.args.hasher.now) laws g.F.Family.rule (g.B.Base.contents c.args.base.now) (g.B.Base.leaves c.args.base.now)
    c.search-found.ensures.sized c.search-found.result.0 c.search-found.ensures.found

pub returns-clause-whole : goal.returns-clause-whole
returns-clause-whole g c =
    let laws = decides _ _ _ _ (g.met.H.Hasher.over_digest c.args.hasher.now) g.met.D.Digest.eq_decides in
    whole_when (g.H.Hasher.hashing c.args.hasher.now) laws g.F.Family.rule (g.B.Base.contents c.args.base.now) (g.B.Base.leaves c.args.base.now)
    c.search-found.ensures.sized c.search-found.result.0 c.search-found.ensures.found

pub returns-clause-work : goal.returns-clause-work
returns-clause-work g c =
    counted_when g.F.Family.rule (g.B.Base.contents c.args.base.now) (g.B.Base.leaves c.args.base.now) c.search-found.result.1
    c.set_node_digests.new.self.node_digests c.search-found.ensures.sized (ap (λ w. w.node_digests) c.set_node_digests.ensures)
    c.search-found.result.0 c.search-found.ensures.counted

pub returns-clause-at_most : goal.returns-clause-at_most
returns-clause-at_most g c =
    omega (
      arith,
      ap (λ w. w.node_digests) c.set_node_digests.ensures,
      c.search-found.ensures.at_most,
      at_most_merged g.F.Family.rule (g.B.Base.contents c.args.base.now).boundary (g.B.Base.leaves c.args.base.now) (g.B.Base.contents c.args.base.now).node,
    )
