use Rattle.std.proofs.Common.{arith, ap, sym, ◌∙◌}
use Rattle.merkle_base.specs.Tree.{join}
use Rattle.merkle_hasher.proofs.Comparisons.{le_yes, le_no, ge_yes, ge_no}
use Rattle.merkle_audit_parts.specs.PinnedClaimed.{digest_given, pin_in}
use Rattle.merkle_audit_parts.proofs.PinnedWalks.{children_pinned, children_rebuilt, children_after, children_over}
use Rattle.merkle_walks.proofs.Walks.{stands}
use Rattle.merkle_audit_parts.proofs.pin_nodes.pinned_digests.Goals as goal

pub returns-in-Some : goal.returns-in-Some
returns-in-Some g c = λ p a q d x y.
    let low = le_yes c.leaf_end-end.result c.args.nodes.now.start (sym c.le.ensures ∙ c.if-le.true) in
    children_pinned (g.H.Hasher.hashing c.args.hasher.now) (pin_in c.args.nodes.now) c.args.nodes.now.start c.args.nodes.now.end (digest_given g.H.Digest.Digest.EMPTY c.args.nodes.now) p a q _
    (omega (arith, low, c.leaf_end-end.ensures (join p a q) d))
    (ap (pin_in c.args.nodes.now) (sym (stands g.F.Family.rule g.F.Family.MAX_LEAVES c.args.node.now (join p a q) d)) ∙ sym c.in-Some.ensures)

pub returns-then-le : goal.returns-then-le
returns-then-le g c = λ p a q d x y.
    let low = le_yes c.leaf_end-end.result c.args.nodes.now.start (sym c.le.ensures ∙ c.if-le.true) in
    children_rebuilt (g.H.Hasher.hashing c.args.hasher.now) (pin_in c.args.nodes.now) c.args.nodes.now.start c.args.nodes.now.end (digest_given g.H.Digest.Digest.EMPTY c.args.nodes.now) p a q _ _
    (omega (arith, low, c.leaf_end-end.ensures (join p a q) d))
    (ap (pin_in c.args.nodes.now) (sym (stands g.F.Family.rule g.F.Family.MAX_LEAVES c.args.node.now (join p a q) d)) ∙ sym c.in_default.ensures)
    (c.rebuilt_digest-first.ensures a x) (c.rebuilt_digest-second.ensures q y)

pub returns-then-ge : goal.returns-then-ge
returns-then-ge g c = λ p a q d x y.
    let high = le_no c.leaf_end-end.result c.args.nodes.now.start (sym c.le.ensures ∙ c.if-le.false) in
    let late = ge_yes c.args.node.now.first_leaf c.args.nodes.now.end (sym c.ge.ensures ∙ c.if-ge.true) in
    children_after (g.H.Hasher.hashing c.args.hasher.now) (pin_in c.args.nodes.now) c.args.nodes.now.start c.args.nodes.now.end (digest_given g.H.Digest.Digest.EMPTY c.args.nodes.now) p a q
    (omega (arith, high, c.leaf_end-end.ensures (join p a q) d)) (omega (arith, late, d.first_is))

pub returns : goal.returns
returns g c = λ p a q d x y.
    let high = le_no c.leaf_end-end.result c.args.nodes.now.start (sym c.le.ensures ∙ c.if-le.false) in
    let early = ge_no c.args.node.now.first_leaf c.args.nodes.now.end (sym c.ge.ensures ∙ c.if-ge.false) in
    children_over (g.H.Hasher.hashing c.args.hasher.now) (pin_in c.args.nodes.now) c.args.nodes.now.start c.args.nodes.now.end (digest_given g.H.Digest.Digest.EMPTY c.args.nodes.now) p a q _ _
    (omega (arith, high, c.leaf_end-end.ensures (join p a q) d)) (omega (arith, early, d.first_is))
    (c.pinned_digest-first.ensures a x) (c.pinned_digest-second.ensures q y)
