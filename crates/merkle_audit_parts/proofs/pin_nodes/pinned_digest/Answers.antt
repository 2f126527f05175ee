use Rattle.std.proofs.Common.{arith, ap, sym, ◌∙◌}
use Rattle.merkle_hasher.proofs.Comparisons.{le_yes, le_no}
use Rattle.merkle_audit_parts.specs.PinnedClaimed.{digest_given, pin_in}
use Rattle.merkle_audit_parts.proofs.PinnedWalks.{value_before, value_other}
use Rattle.merkle_walks.proofs.Walks.{stands}
use Rattle.merkle_audit_parts.proofs.pin_nodes.pinned_digest.Goals as goal

pub returns-then-le : goal.returns-then-le
returns-then-le g c = λ t w.
    let low = le_yes c.leaf_end-end.result c.args.nodes.now.start (sym c.le.ensures ∙ c.if-le.true) in
    value_before (g.H.Hasher.hashing c.args.hasher.now) (pin_in c.args.nodes.now) c.args.nodes.now.start (digest_given g.H.Digest.Digest.EMPTY c.args.nodes.now) t _
    (omega (arith, low, c.leaf_end-end.ensures t w)) (c.rebuilt_digest.ensures t w)

pub returns : goal.returns
returns g c = λ t w.
    let high = le_no c.leaf_end-end.result c.args.nodes.now.start (sym c.le.ensures ∙ c.if-le.false) in
    value_other (g.H.Hasher.hashing c.args.hasher.now) (pin_in c.args.nodes.now) c.args.nodes.now.start (digest_given g.H.Digest.Digest.EMPTY c.args.nodes.now) t _
    (omega (arith, high, c.leaf_end-end.ensures t w))
    (c.given.ensures ∙ ap (digest_given g.H.Digest.Digest.EMPTY c.args.nodes.now) (stands g.F.Family.rule g.F.Family.MAX_LEAVES c.args.node.now t w))
