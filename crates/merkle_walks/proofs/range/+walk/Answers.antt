use Rattle.std.proofs.Common.{◌-◌, arith, sym, ap, get_or, refl, inl, inr, ◌∙◌}
use Rattle.std.proofs.lemmas.Bool.{not-true, not-false}
use Rattle.std.proofs.lemmas.List.{nil_from_length}
use Rattle.merkle_hasher.proofs.Spans.{heights_same}
use Rattle.merkle_hasher.proofs.NodeSteps.{inner_node, lower}
use Rattle.merkle_root_theory.specs.Check.{in_range}
use Rattle.merkle_root_theory.specs.Expression.{value}
use Rattle.merkle_root_theory.specs.Claim.{next}
use Rattle.merkle_root_theory.specs.Walk.{leaf_from}
use Rattle.merkle_root_theory.proofs.Walks.{leaf_in_range}
use Rattle.merkle_walk_theory.specs.Compared.{found_in}
use Rattle.merkle_walks.specs.Ranged.{pins_in, outside_given, tree_given}
use Rattle.merkle_walks.proofs.RangeWalks.{supplied_value, supplied_none, parent_met, found_met, claim_unmet, claim_leaf, left_unmet, left_none, left_leaf, left_parent, left_then}
use Rattle.merkle_walks.proofs.range.+walk.Goals as goal

pub children-left-requires : goal.children-left-requires
children-left-requires g t c = let n = c.requires.node in inner_node _ _ _ _ _ n.0 n.1 c.if-node-eq0.false

pub pair-requires : goal.pair-requires
pair-requires g t c =
    let n = c.requires.node in
    let i = inner_node _ _ _ _ _ n.0 n.1 c.if-node-eq0.false in
    let k = c.children-left.ensures i.0 i.1 i.2 i.3 in
    (i.1, i.2, k.0, k.1)

pub returns-in_default-clause-digest : goal.returns-in_default-clause-digest
returns-in_default-clause-digest g t c = λ u w.
    let h = g.H.Hasher.hashing c.args.hasher.now in
    let gv = c.args.given.now in
    let unmet = not-true _ (sym (c.is_outside.ensures u w) ∙ c.if-is_outside.true) in
    c.walk_outside.ensures.digest u w
    ∙ ap (λ d. value h (outside_given h gv u d))
    (c.EMPTY.ensures ∙ sym (g.met.H.Hasher.over_digest c.args.hasher.now).empty ∙ sym (ap (next h) (nil_from_length c.args.rest.now.now c.in_default.ensures.cases)))
    ∙ sym (ap (value h) (claim_unmet h (pins_in gv.pins) (in_range 0 gv.start) (in_range gv.start gv.end) (leaf_from h gv.start gv.leaves.now) u c.args.rest.now.now unmet))

pub returns-in_default-clause-found : goal.returns-in_default-clause-found
returns-in_default-clause-found g t c = λ u w.
    let h = g.H.Hasher.hashing c.args.hasher.now in
    let gv = c.args.given.now in
    let f = g.B.Hashes.hashed c.args.listed.now in
    let unmet = not-true _ (sym (c.is_outside.ensures u w) ∙ c.if-is_outside.true) in
    c.walk_outside.ensures.found u w
    ∙ ap (λ d. found_in h f u (outside_given h gv u d))
    (c.EMPTY.ensures ∙ sym (g.met.H.Hasher.over_digest c.args.hasher.now).empty ∙ sym (ap (next h) (nil_from_length c.args.rest.now.now c.in_default.ensures.cases)))
    ∙ sym (ap (found_in h f u) (claim_unmet h (pins_in gv.pins) (in_range 0 gv.start) (in_range gv.start gv.end) (leaf_from h gv.start gv.leaves.now) u c.args.rest.now.now unmet))

pub returns-in_default-clause-left : goal.returns-in_default-clause-left
returns-in_default-clause-left g t c = λ u w.
    left_none (in_range c.args.given.now.start c.args.given.now.end) u c.args.rest.now.now (nil_from_length c.args.rest.now.now c.in_default.ensures.cases)

pub returns-then-is_outside-clause-digest : goal.returns-then-is_outside-clause-digest
returns-then-is_outside-clause-digest g t c = λ u w.
    let h = g.H.Hasher.hashing c.args.hasher.now in
    let gv = c.args.given.now in
    let unmet = not-true _ (sym (c.is_outside.ensures u w) ∙ c.if-is_outside.true) in
    c.walk_outside-then-is_outside.ensures.digest u w
    ∙ ap (λ d. value h (outside_given h gv u d)) (sym (ap (next h) c.in-Some.ensures.cases.0))
    ∙ sym (ap (value h) (claim_unmet h (pins_in gv.pins) (in_range 0 gv.start) (in_range gv.start gv.end) (leaf_from h gv.start gv.leaves.now) u c.args.rest.now.now unmet))

pub returns-then-is_outside-clause-found : goal.returns-then-is_outside-clause-found
returns-then-is_outside-clause-found g t c = λ u w.
    let h = g.H.Hasher.hashing c.args.hasher.now in
    let gv = c.args.given.now in
    let f = g.B.Hashes.hashed c.args.listed.now in
    let unmet = not-true _ (sym (c.is_outside.ensures u w) ∙ c.if-is_outside.true) in
    c.walk_outside-then-is_outside.ensures.found u w
    ∙ ap (λ d. found_in h f u (outside_given h gv u d)) (sym (ap (next h) c.in-Some.ensures.cases.0))
    ∙ sym (ap (found_in h f u) (claim_unmet h (pins_in gv.pins) (in_range 0 gv.start) (in_range gv.start gv.end) (leaf_from h gv.start gv.leaves.now) u c.args.rest.now.now unmet))

pub returns-then-is_outside-clause-left : goal.returns-then-is_outside-clause-left
returns-then-is_outside-clause-left g t c = λ u w.
    left_unmet (in_range c.args.given.now.start c.args.given.now.end) u c.args.rest.now.now c.in-Some.others.now c.in-Some.first.now
    (not-true _ (sym (c.is_outside.ensures u w) ∙ c.if-is_outside.true)) c.in-Some.ensures.cases.0

pub leaf-requires : goal.leaf-requires
leaf-requires g t c = let n = c.requires.node in
    (leaf_in_range _ _ _ _ _ _ _ n.0 n.1 c.if-node-eq0.true (not-false _ (sym (c.is_outside.ensures n.0 n.1) ∙ c.if-is_outside.false))).0

pub returns-then-node-eq0-clause-digest : goal.returns-then-node-eq0-clause-digest
returns-then-node-eq0-clause-digest g t c = λ u w.
    let h = g.H.Hasher.hashing c.args.hasher.now in
    let gv = c.args.given.now in
    let met = not-false _ (sym (c.is_outside.ensures u w) ∙ c.if-is_outside.false) in
    c.leaf.ensures ∙ ap (get_or gv.leaves.now (c.args.node.now.first_leaf - gv.start)) (sym (g.met.H.Hasher.over_digest c.args.hasher.now).empty)
    ∙ supplied_value h (g.B.Hashes.hashed c.args.listed.now) (tree_given h gv u c.args.rest.now.now) _
    (claim_leaf h (pins_in gv.pins) (in_range 0 gv.start) (in_range gv.start gv.end) (leaf_from h gv.start gv.leaves.now)
    g.F.Family.rule g.F.Family.MAX_LEAVES _ _ _ u c.args.rest.now.now w c.if-node-eq0.true met)

pub returns-then-node-eq0-clause-found : goal.returns-then-node-eq0-clause-found
returns-then-node-eq0-clause-found g t c = λ u w.
    let h = g.H.Hasher.hashing c.args.hasher.now in
    let gv = c.args.given.now in
    let met = not-false _ (sym (c.is_outside.ensures u w) ∙ c.if-is_outside.false) in
    supplied_none h (g.B.Hashes.hashed c.args.listed.now) u (tree_given h gv u c.args.rest.now.now) _
    (claim_leaf h (pins_in gv.pins) (in_range 0 gv.start) (in_range gv.start gv.end) (leaf_from h gv.start gv.leaves.now)
    g.F.Family.rule g.F.Family.MAX_LEAVES _ _ _ u c.args.rest.now.now w c.if-node-eq0.true met)

pub returns-then-node-eq0-clause-left : goal.returns-then-node-eq0-clause-left
returns-then-node-eq0-clause-left g t c = λ u w.
    left_leaf (in_range c.args.given.now.start c.args.given.now.end) g.F.Family.rule g.F.Family.MAX_LEAVES _ _ _ u c.args.rest.now.now w c.if-node-eq0.true
    (not-false _ (sym (c.is_outside.ensures u w) ∙ c.if-is_outside.false))

pub walk-one-requires : goal.walk-one-requires
walk-one-requires g t c κs within =
    let n = c.requires.node in
    let i = inner_node _ _ _ _ _ n.0 n.1 c.if-node-eq0.false in
    let k = c.children-left.ensures i.0 i.1 i.2 i.3 in (
      omega (arith, lower _ _ _ _ _ _ _ _ _ _ _ _ i.3 k.0 (inl refl), c.decreases),
      (
        within.0,
        (
          within.1.0,
          (within.1.1.0, (within.1.1.1.0, (within.1.1.1.1.0, (within.1.1.1.1.1, ((i.1, k.0), c.requires.nonempty))))),
        ),
      ),
    )

pub walk-other-requires : goal.walk-other-requires
walk-other-requires g t c κs within =
    let n = c.requires.node in
    let i = inner_node _ _ _ _ _ n.0 n.1 c.if-node-eq0.false in
    let k = c.children-left.ensures i.0 i.1 i.2 i.3 in (
      omega (arith, lower _ _ _ _ _ _ _ _ _ _ _ _ i.3 k.1 (inr (heights_same _ _ _ g.met.F.Family.lawful _ _ _ _ _ _ i.3)), c.decreases),
      (
        within.0,
        (
          within.1.0,
          (within.1.1.0, (within.1.1.1.0, (within.1.1.1.1.0, (within.1.1.1.1.1, ((i.2, k.1), c.requires.nonempty))))),
        ),
      ),
    )

pub returns-clause-digest : goal.returns-clause-digest
returns-clause-digest g t c = λ u w.
    let h = g.H.Hasher.hashing c.args.hasher.now in
    let gv = c.args.given.now in
    let rule = g.F.Family.rule in
    let m = g.F.Family.MAX_LEAVES in
    let ds = c.args.rest.now.now in
    let met = not-false _ (sym (c.is_outside.ensures u w) ∙ c.if-is_outside.false) in
    c.node_digest.ensures
    ∙ parent_met h (g.B.Hashes.hashed c.args.listed.now) (pins_in gv.pins) (in_range 0 gv.start) (in_range gv.start gv.end) (leaf_from h gv.start gv.leaves.now)
    rule m _ _ _ ds c.walk-one.new.rest.now c.walk-one.result.0 c.walk-other.result.0 u w c.if-node-eq0.false met
    (λ q l r v. let k = c.children-left.ensures q l r v in (c.walk-one.ensures.left l k.0, c.walk-one.ensures.digest l k.0, c.walk-other.ensures.digest r k.1))

pub returns-clause-found : goal.returns-clause-found
returns-clause-found g t c = λ u w.
    let h = g.H.Hasher.hashing c.args.hasher.now in
    let gv = c.args.given.now in
    let rule = g.F.Family.rule in
    let m = g.F.Family.MAX_LEAVES in
    let ds = c.args.rest.now.now in
    let met = not-false _ (sym (c.is_outside.ensures u w) ∙ c.if-is_outside.false) in
    c.first_over-found.ensures h (g.met.H.Hasher.over_digest c.args.hasher.now)
    ∙ found_met h (g.B.Hashes.hashed c.args.listed.now) (pins_in gv.pins) (in_range 0 gv.start) (in_range gv.start gv.end) (leaf_from h gv.start gv.leaves.now)
    rule m _ _ _ ds c.walk-one.new.rest.now c.walk-one.result.0 c.walk-other.result.0 c.pair.result _ _ u w c.if-node-eq0.false met
    (λ q l r v. let k = c.children-left.ensures q l r v in (
      c.walk-one.ensures.left l k.0,
      c.walk-one.ensures.digest l k.0,
      c.walk-other.ensures.digest r k.1,
      c.pair.ensures q l r k.0 k.1,
      c.walk-one.ensures.found l k.0,
      c.walk-other.ensures.found r k.1,
    ))

pub returns-clause-left : goal.returns-clause-left
returns-clause-left g t c = λ u w.
    let ds = c.args.rest.now.now in
    left_parent (in_range c.args.given.now.start c.args.given.now.end) g.F.Family.rule g.F.Family.MAX_LEAVES _ _ _ u ds c.walk-other.new.rest.now w c.if-node-eq0.false
    (not-false _ (sym (c.is_outside.ensures u w) ∙ c.if-is_outside.false))
    (λ q l r v. let k = c.children-left.ensures q l r v in left_then (in_range c.args.given.now.start c.args.given.now.end) l r ds _ _
    (c.walk-one.ensures.left l k.0) (c.walk-other.ensures.left r k.1))
