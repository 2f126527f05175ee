use Rattle.std.proofs.Common.{arith, inl, inr, sym, refl, ◌∙◌}
use Rattle.merkle_hasher.proofs.Spans.{heights_same}
use Rattle.merkle_hasher.proofs.NodeSteps.{inner_node, lower}
use Rattle.merkle_walks.proofs.GivenNodes.{digest_unmet, digest_leaf, digest_parent, found_unmet, found_leaf, found_parent}
use Rattle.merkle_walks.proofs.Walks.{stands}
use Rattle.merkle_walks.proofs.scattered.+walk.Goals as goal

pub returns-then-not-meets-clause-digest : goal.returns-then-not-meets-clause-digest
returns-then-not-meets-clause-digest g t c = λ u w.
    let h = g.H.Hasher.hashing c.args.hasher.now in
    let gv = c.args.given.now in
    c.told.ensures ∙ digest_unmet h gv.positions.now gv.digests.now gv.locations.now gv.leaves.now u (sym (c.meets.ensures u w) ∙ c.if-not-meets.true) c.args.node.now.position
    (stands g.F.Family.rule g.F.Family.MAX_LEAVES c.args.node.now u w) g.H.Digest.Digest.EMPTY (g.met.H.Hasher.over_digest c.args.hasher.now).empty

pub returns-then-not-meets-clause-found : goal.returns-then-not-meets-clause-found
returns-then-not-meets-clause-found g t c = λ u w.
    let h = g.H.Hasher.hashing c.args.hasher.now in
    let gv = c.args.given.now in
    found_unmet h gv.positions.now gv.digests.now gv.locations.now gv.leaves.now (g.B.Hashes.hashed c.args.listed.now) u (sym (c.meets.ensures u w) ∙ c.if-not-meets.true)

pub returns-then-node-eq0-clause-digest : goal.returns-then-node-eq0-clause-digest
returns-then-node-eq0-clause-digest g t c = λ u w.
    let h = g.H.Hasher.hashing c.args.hasher.now in
    let gv = c.args.given.now in
    c.leaf.ensures ∙ digest_leaf h gv.positions.now gv.digests.now gv.locations.now gv.leaves.now g.F.Family.rule g.F.Family.MAX_LEAVES _ _ _ u w
    c.if-node-eq0.true (sym (c.meets.ensures u w) ∙ c.if-not-meets.false)
    g.H.Digest.Digest.EMPTY (g.met.H.Hasher.over_digest c.args.hasher.now).empty

pub returns-then-node-eq0-clause-found : goal.returns-then-node-eq0-clause-found
returns-then-node-eq0-clause-found g t c = λ u w.
    let h = g.H.Hasher.hashing c.args.hasher.now in
    let gv = c.args.given.now in
    found_leaf h gv.positions.now gv.digests.now gv.locations.now gv.leaves.now g.F.Family.rule g.F.Family.MAX_LEAVES _ _ _ (g.B.Hashes.hashed c.args.listed.now) u w
    c.if-node-eq0.true (sym (c.meets.ensures u w) ∙ c.if-not-meets.false)

pub children-left-requires : goal.children-left-requires
children-left-requires g t c = let n = c.requires.node in inner_node _ _ _ _ _ n.0 n.1 c.if-node-eq0.false

pub walk-one-requires : goal.walk-one-requires
walk-one-requires g t c κs within =
    let n = c.requires.node in
    let i = inner_node _ _ _ _ _ n.0 n.1 c.if-node-eq0.false in
    let k = c.children-left.ensures i.0 i.1 i.2 i.3 in (
      omega (arith, lower _ _ _ _ _ _ _ _ _ _ _ _ i.3 k.0 (inl refl), c.decreases),
      (within.0, (within.1.0, (within.1.1.0, (within.1.1.1.0, (within.1.1.1.1.0, (within.1.1.1.1.1, (c.requires.ascends, (i.1, k.0)))))))),
    )

pub walk-other-requires : goal.walk-other-requires
walk-other-requires g t c κs within =
    let n = c.requires.node in
    let i = inner_node _ _ _ _ _ n.0 n.1 c.if-node-eq0.false in
    let k = c.children-left.ensures i.0 i.1 i.2 i.3 in (
      omega (arith, lower _ _ _ _ _ _ _ _ _ _ _ _ i.3 k.1 (inr (heights_same _ _ _ g.met.F.Family.lawful _ _ _ _ _ _ i.3)), c.decreases),
      (within.0, (within.1.0, (within.1.1.0, (within.1.1.1.0, (within.1.1.1.1.0, (within.1.1.1.1.1, (c.requires.ascends, (i.2, k.1)))))))),
    )

pub pair-requires : goal.pair-requires
pair-requires g t c =
    let n = c.requires.node in
    let i = inner_node _ _ _ _ _ n.0 n.1 c.if-node-eq0.false in
    let k = c.children-left.ensures i.0 i.1 i.2 i.3 in
    (i.1, i.2, k.0, k.1)

pub returns-clause-digest : goal.returns-clause-digest
returns-clause-digest g t c = λ u w.
    let h = g.H.Hasher.hashing c.args.hasher.now in
    let gv = c.args.given.now in
    c.node_digest.ensures ∙ digest_parent h gv.positions.now gv.digests.now gv.locations.now gv.leaves.now g.F.Family.rule g.F.Family.MAX_LEAVES _ _ _
    u w c.if-node-eq0.false (sym (c.meets.ensures u w) ∙ c.if-not-meets.false)
    c.walk-one.result.0 c.walk-other.result.0 (λ q a b v. let k = c.children-left.ensures q a b v in (c.walk-one.ensures.digest a k.0, c.walk-other.ensures.digest b k.1))

pub returns-clause-found : goal.returns-clause-found
returns-clause-found g t c = λ u w.
    let h = g.H.Hasher.hashing c.args.hasher.now in
    let gv = c.args.given.now in
    c.first_over-found.ensures h (g.met.H.Hasher.over_digest c.args.hasher.now)
    ∙ found_parent h gv.positions.now gv.digests.now gv.locations.now gv.leaves.now g.F.Family.rule g.F.Family.MAX_LEAVES _ _ _ (g.B.Hashes.hashed c.args.listed.now)
    u w c.if-node-eq0.false (sym (c.meets.ensures u w) ∙ c.if-not-meets.false) c.walk-one.result.0 c.walk-other.result.0 c.pair.result _ _
    (λ q a b v. let n = c.children-left.ensures q a b v in (
      c.walk-one.ensures.digest a n.0,
      c.walk-other.ensures.digest b n.1,
      c.pair.ensures q a b n.0 n.1,
      c.walk-one.ensures.found a n.0,
      c.walk-other.ensures.found b n.1,
    ))
