use Rattle.std.proofs.Common.{arith, sym, refl, inl, inr, ◌∙◌}
use Rattle.merkle_base.specs.Table.{digest_for}
use Rattle.merkle_hasher.proofs.Spans.{heights_same}
use Rattle.merkle_hasher.proofs.NodeSteps.{inner_node, lower}
use Rattle.merkle_range.proofs.PinWalks.{pinned_node, unpinned_leaf, unpinned_inner}
use Rattle.merkle_range.proofs.pins.+rebuilt_digest.Goals as goal

pub returns-in-Some : goal.returns-in-Some
returns-in-Some g t c = λ u w.
    pinned_node g.F.Family.rule g.F.Family.MAX_LEAVES _ _ _ (g.H.Hasher.hashing c.args.hasher.now)
    (digest_for c.args.pins.now.positions.items c.args.pins.now.digests.now) u w c.in-Some.digest (sym c.in-Some.ensures)

pub returns-then-subtree-eq0 : goal.returns-then-subtree-eq0
returns-then-subtree-eq0 g t c = λ u w.
    unpinned_leaf g.F.Family.rule g.F.Family.MAX_LEAVES _ _ _ (g.H.Hasher.hashing c.args.hasher.now)
    (digest_for c.args.pins.now.positions.items c.args.pins.now.digests.now) u w c.if-subtree-eq0.true (sym c.in_default.ensures) _
    (c.EMPTY.ensures ∙ sym (g.met.H.Hasher.over_digest c.args.hasher.now).empty)

pub children-left-requires : goal.children-left-requires
children-left-requires g t c = let n = c.requires.node in inner_node _ _ _ _ _ n.0 n.1 c.if-subtree-eq0.false

pub rebuilt_digest-first-requires : goal.rebuilt_digest-first-requires
rebuilt_digest-first-requires g t c κs within =
    let n = c.requires.node in
    let i = inner_node _ _ _ _ _ n.0 n.1 c.if-subtree-eq0.false in
    let k = c.children-left.ensures i.0 i.1 i.2 i.3 in
    (omega (arith, lower _ _ _ _ _ _ _ _ _ _ _ _ i.3 k.0 (inl refl), c.decreases), (within.0, (within.1.0, (within.1.1.0, (within.1.1.1.0, (within.1.1.1.1, (i.1, k.0)))))))

pub rebuilt_digest-second-requires : goal.rebuilt_digest-second-requires
rebuilt_digest-second-requires g t c κs within =
    let n = c.requires.node in
    let i = inner_node _ _ _ _ _ n.0 n.1 c.if-subtree-eq0.false in
    let k = c.children-left.ensures i.0 i.1 i.2 i.3 in (
      omega (arith, lower _ _ _ _ _ _ _ _ _ _ _ _ i.3 k.1 (inr (heights_same _ _ _ g.met.F.Family.lawful _ _ _ _ _ _ i.3)), c.decreases),
      (within.0, (within.1.0, (within.1.1.0, (within.1.1.1.0, (within.1.1.1.1, (i.2, k.1)))))),
    )

pub returns : goal.returns
returns g t c = λ u w.
    unpinned_inner g.F.Family.rule g.F.Family.MAX_LEAVES _ _ _ (g.H.Hasher.hashing c.args.hasher.now)
    (digest_for c.args.pins.now.positions.items c.args.pins.now.digests.now) u w c.if-subtree-eq0.false (sym c.in_default.ensures) _ _ _
    (λ q l r v. let k = c.children-left.ensures q l r v in (c.rebuilt_digest-first.ensures l k.0, c.rebuilt_digest-second.ensures r k.1)) c.node_digest.ensures
