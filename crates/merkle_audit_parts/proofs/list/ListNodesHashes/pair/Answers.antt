use Rattle.std.proofs.Common.{ap, ap₂, ◌∙◌, Some}
use Rattle.merkle_audit_parts.specs.Listed.{digest_in}
use Rattle.merkle_walks.proofs.Walks.{stands}
use Rattle.merkle_audit_parts.proofs.list.ListNodesHashes.pair.Goals as goal

pub returns : goal.returns
returns g c = λ p a b x y.
    let f = digest_in g.D.Digest.EMPTY c.args.self.now.nodes.value in
    ap₂ (λ u v. Some (u, v))
    (c.digest.ensures ∙ ap f (stands g.F.Family.rule g.F.Family.MAX_LEAVES c.args.left.now a x))
    (c.digest-2.ensures ∙ ap f (stands g.F.Family.rule g.F.Family.MAX_LEAVES c.args.right.now b y))
