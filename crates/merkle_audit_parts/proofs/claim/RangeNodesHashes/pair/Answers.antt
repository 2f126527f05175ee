use Rattle.std.proofs.Common.{ap, ap₂, sym, cond, ◌∙◌, Some, None}
use Rattle.merkle_base.specs.Tree.{position}
use Rattle.merkle_audit_parts.specs.Claimed.{digest_in_claim}
use Rattle.merkle_walks.proofs.Walks.{stands}
use Rattle.merkle_audit_parts.proofs.claim.RangeNodesHashes.pair.Goals as goal

pub returns-then-not-meets : goal.returns-then-not-meets
returns-then-not-meets g c = λ p a b x y.
    let f = digest_in_claim g.D.Digest.EMPTY c.args.self.now in
    sym (ap (λ v. cond v (Some (f (position a), f (position b))) None) (sym (c.meets.ensures a b x y) ∙ c.if-not-meets.true))

pub returns : goal.returns
returns g c = λ p a b x y.
    let f = digest_in_claim g.D.Digest.EMPTY c.args.self.now in
    ap₂ (λ u v. Some (u, v))
    (c.digest.ensures ∙ ap f (stands g.F.Family.rule g.F.Family.MAX_LEAVES c.args.left.now a x))
    (c.digest-2.ensures ∙ ap f (stands g.F.Family.rule g.F.Family.MAX_LEAVES c.args.right.now b y))
    ∙ sym (ap (λ v. cond v (Some (f (position a), f (position b))) None) (sym (c.meets.ensures a b x y) ∙ c.if-not-meets.false))
