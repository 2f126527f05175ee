use Rattle.std.proofs.Common.{arith, sym, refl, inl, inr, ◌∙◌}
use Rattle.merkle_hasher.proofs.Spans.{heights_same}
use Rattle.merkle_hasher.proofs.NodeSteps.{inner_node, lower}
use Rattle.merkle_claim_theory.specs.PinnedClaim.{pin_tree}
use Rattle.merkle_walks.specs.Ranged.{pin_in}
use Rattle.merkle_walks.proofs.RangeWalks.{supplied_value, supplied_none, parent_value, parent_found, pinned, unpinned_leaf, unpinned}
use Rattle.merkle_walks.proofs.range.+walk_pins.Goals as goal

pub returns-in-Some-clause-digest : goal.returns-in-Some-clause-digest
returns-in-Some-clause-digest g t c = λ u w.
    let h = g.H.Hasher.hashing c.args.hasher.now in
    supplied_value h (g.B.Hashes.hashed c.args.listed.now) _ c.in-Some.digest
    (pinned h (pin_in c.args.pins.now) g.F.Family.rule g.F.Family.MAX_LEAVES _ _ _ u w c.in-Some.digest (sym c.in-Some.ensures))

pub returns-in-Some-clause-found : goal.returns-in-Some-clause-found
returns-in-Some-clause-found g t c = λ u w.
    let h = g.H.Hasher.hashing c.args.hasher.now in
    supplied_none h (g.B.Hashes.hashed c.args.listed.now) u _ c.in-Some.digest
    (pinned h (pin_in c.args.pins.now) g.F.Family.rule g.F.Family.MAX_LEAVES _ _ _ u w c.in-Some.digest (sym c.in-Some.ensures))

pub returns-then-node-eq0-clause-digest : goal.returns-then-node-eq0-clause-digest
returns-then-node-eq0-clause-digest g t c = λ u w.
    let h = g.H.Hasher.hashing c.args.hasher.now in
    c.EMPTY.ensures ∙ sym (g.met.H.Hasher.over_digest c.args.hasher.now).empty
    ∙ supplied_value h (g.B.Hashes.hashed c.args.listed.now) _ h.empty
    (unpinned_leaf h (pin_in c.args.pins.now) g.F.Family.rule g.F.Family.MAX_LEAVES _ _ _ u w c.if-node-eq0.true (sym c.in_default.ensures))

pub returns-then-node-eq0-clause-found : goal.returns-then-node-eq0-clause-found
returns-then-node-eq0-clause-found g t c = λ u w.
    let h = g.H.Hasher.hashing c.args.hasher.now in
    supplied_none h (g.B.Hashes.hashed c.args.listed.now) u _ h.empty
    (unpinned_leaf h (pin_in c.args.pins.now) g.F.Family.rule g.F.Family.MAX_LEAVES _ _ _ u w c.if-node-eq0.true (sym c.in_default.ensures))

pub children-left-requires : goal.children-left-requires
children-left-requires g t c = let n = c.requires.node in inner_node _ _ _ _ _ n.0 n.1 c.if-node-eq0.false

pub walk_pins-one-requires : goal.walk_pins-one-requires
walk_pins-one-requires g t c κs within =
    let n = c.requires.node in
    let i = inner_node _ _ _ _ _ n.0 n.1 c.if-node-eq0.false in
    let k = c.children-left.ensures i.0 i.1 i.2 i.3 in (
      omega (arith, lower _ _ _ _ _ _ _ _ _ _ _ _ i.3 k.0 (inl refl), c.decreases),
      (within.0, (within.1.0, (within.1.1.0, (within.1.1.1.0, (within.1.1.1.1.0, (within.1.1.1.1.1, (i.1, k.0))))))),
    )

pub walk_pins-other-requires : goal.walk_pins-other-requires
walk_pins-other-requires g t c κs within =
    let n = c.requires.node in
    let i = inner_node _ _ _ _ _ n.0 n.1 c.if-node-eq0.false in
    let k = c.children-left.ensures i.0 i.1 i.2 i.3 in (
      omega (arith, lower _ _ _ _ _ _ _ _ _ _ _ _ i.3 k.1 (inr (heights_same _ _ _ g.met.F.Family.lawful _ _ _ _ _ _ i.3)), c.decreases),
      (within.0, (within.1.0, (within.1.1.0, (within.1.1.1.0, (within.1.1.1.1.0, (within.1.1.1.1.1, (i.2, k.1))))))),
    )

pub pair-requires : goal.pair-requires
pair-requires g t c =
    let n = c.requires.node in
    let i = inner_node _ _ _ _ _ n.0 n.1 c.if-node-eq0.false in
    let k = c.children-left.ensures i.0 i.1 i.2 i.3 in
    (i.1, i.2, k.0, k.1)

pub returns-clause-digest : goal.returns-clause-digest
returns-clause-digest g t c = λ u w.
    let h = g.H.Hasher.hashing c.args.hasher.now in
    let b = pin_in c.args.pins.now in
    let rule = g.F.Family.rule in
    let m = g.F.Family.MAX_LEAVES in
    c.node_digest.ensures
    ∙ parent_value h (g.B.Hashes.hashed c.args.listed.now) rule m _ _ _ (pin_tree h b) c.walk_pins-one.result.0 c.walk_pins-other.result.0 u w c.if-node-eq0.false
    (λ q l r v. let k = c.children-left.ensures q l r v in (
      pin_tree h b l,
      pin_tree h b r,
      unpinned h b rule m _ _ _ q l r v (sym c.in_default.ensures),
      c.walk_pins-one.ensures.digest l k.0,
      c.walk_pins-other.ensures.digest r k.1,
    ))

pub returns-clause-found : goal.returns-clause-found
returns-clause-found g t c = λ u w.
    let h = g.H.Hasher.hashing c.args.hasher.now in
    let b = pin_in c.args.pins.now in
    let rule = g.F.Family.rule in
    let m = g.F.Family.MAX_LEAVES in
    c.first_over-found.ensures h (g.met.H.Hasher.over_digest c.args.hasher.now)
    ∙ parent_found h (g.B.Hashes.hashed c.args.listed.now) rule m _ _ _ (pin_tree h b) c.walk_pins-one.result.0 c.walk_pins-other.result.0 c.pair.result _ _ u w c.if-node-eq0.false
    (λ q l r v. let k = c.children-left.ensures q l r v in (
      pin_tree h b l,
      pin_tree h b r,
      unpinned h b rule m _ _ _ q l r v (sym c.in_default.ensures),
      c.walk_pins-one.ensures.digest l k.0,
      c.walk_pins-other.ensures.digest r k.1,
      c.pair.ensures q l r k.0 k.1,
      c.walk_pins-one.ensures.found l k.0,
      c.walk_pins-other.ensures.found r k.1,
    ))
