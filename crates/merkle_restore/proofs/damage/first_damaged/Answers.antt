use Rattle.merkle_restore.proofs.HasherFacts.{decides}
use Rattle.merkle_restore.proofs.SearchResults.{first_when, whole_when}
use Rattle.merkle_restore.proofs.damage.first_damaged.Goals as goal

pub returns-clause-damaged : goal.returns-clause-damaged
returns-clause-damaged g c =
    let laws = decides _ _ _ _ (g.met.H.Hasher.over_digest c.args.hasher.now) g.met.D.Digest.eq_decides in
    first_when (g.H.Hasher.hashing c.args.hasher.now) laws g.F.Family.rule (g.B.Base.contents c.args.base.now) (g.B.Base.leaves c.args.base.now)
    c.search-found.ensures.sized c.search-found.result.0 c.search-found.ensures.found

pub returns-clause-whole : goal.returns-clause-whole
returns-clause-whole g c =
    let laws = decides _ _ _ _ (g.met.H.Hasher.over_digest c.args.hasher.now) g.met.D.Digest.eq_decides in
    whole_when (g.H.Hasher.hashing c.args.hasher.now) laws g.F.Family.rule (g.B.Base.contents c.args.base.now) (g.B.Base.leaves c.args.base.now)
    c.search-found.ensures.sized c.search-found.result.0 c.search-found.ensures.found
