use Rattle.std.proofs.Common.{arith, true, false, None, ap, inl, inr, sym, refl, ◌∙◌}
use Rattle.std.proofs.lemmas.Bool.{false≢true}
use Rattle.merkle_hasher.proofs.Spans.{heights_same}
use Rattle.merkle_hasher.proofs.NodeSteps.{inner_node, lower}
use Rattle.merkle_claim_theory.specs.FirstCollision.{or_else}
use Rattle.merkle_walks.proofs.Walks.{at_leaf, one_silent, other_silent, at_both, search_below, tested}
use Rattle.merkle_walks.proofs.nodes.+first_at.Goals as goal

pub returns-then-node-eq0 : goal.returns-then-node-eq0
returns-then-node-eq0 g t c = λ h u f k over den sees sees'.
    at_leaf h g.F.Family.rule g.F.Family.MAX_LEAVES _ _ _ (g.A.Hashes.hashed c.args.claimed.now) (g.B.Hashes.hashed c.args.listed.now) f k u den c.if-node-eq0.true

pub children-left-requires : goal.children-left-requires
children-left-requires g t c = let n = c.requires.node in inner_node _ _ _ _ _ n.0 n.1 c.if-node-eq0.false

pub pair-requires : goal.pair-requires
pair-requires g t c =
    let n = c.requires.node in
    let i = inner_node _ _ _ _ _ n.0 n.1 c.if-node-eq0.false in
    let k = c.children-left.ensures i.0 i.1 i.2 i.3 in
    (i.1, i.2, k.0, k.1)

pub returns-in_default : goal.returns-in_default
returns-in_default g t c = λ h u f k over den sees sees'.
    one_silent h g.F.Family.rule g.F.Family.MAX_LEAVES _ _ _ (g.A.Hashes.hashed c.args.claimed.now) (g.B.Hashes.hashed c.args.listed.now) f k u den sees
    (λ q a b w. let v = c.children-left.ensures q a b w in sym (c.in_default.ensures q a b v.0 v.1))

pub pair-requires-2 : goal.pair-requires-2
pair-requires-2 g t c =
    let n = c.requires.node in
    let i = inner_node _ _ _ _ _ n.0 n.1 c.if-node-eq0.false in
    let k = c.children-left.ensures i.0 i.1 i.2 i.3 in
    (i.1, i.2, k.0, k.1)

pub returns-in_default-pair : goal.returns-in_default-pair
returns-in_default-pair g t c = λ h u f k over den sees sees'.
    other_silent h g.F.Family.rule g.F.Family.MAX_LEAVES _ _ _ (g.A.Hashes.hashed c.args.claimed.now) (g.B.Hashes.hashed c.args.listed.now) f k u den sees'
    (λ q a b w. let v = c.children-left.ensures q a b w in sym (c.in_default-pair.ensures q a b v.0 v.1))

pub first_at-requires : goal.first_at-requires
first_at-requires g t c κs within =
    let n = c.requires.node in
    let i = inner_node _ _ _ _ _ n.0 n.1 c.if-node-eq0.false in
    let k = c.children-left.ensures i.0 i.1 i.2 i.3 in
    (omega (arith, lower _ _ _ _ _ _ _ _ _ _ _ _ i.3 k.0 (inl refl), c.decreases), (within.0, (within.1.0, (within.1.1.0, (within.1.1.1.0, (within.1.1.1.1.0, (within.1.1.1.1.1, (i.1, k.0))))))))

pub first_at-requires-in-None : goal.first_at-requires-in-None
first_at-requires-in-None g t c κs within =
    let n = c.requires.node in
    let i = inner_node _ _ _ _ _ n.0 n.1 c.if-node-eq0.false in
    let k = c.children-left.ensures i.0 i.1 i.2 i.3 in (
      omega (arith, lower _ _ _ _ _ _ _ _ _ _ _ _ i.3 k.1 (inr (heights_same _ _ _ g.met.F.Family.lawful _ _ _ _ _ _ i.3)), c.decreases),
      (within.0, (within.1.0, (within.1.1.0, (within.1.1.1.0, (within.1.1.1.1.0, (within.1.1.1.1.1, (i.2, k.1))))))),
    )

pub returns-then-not-are_same : goal.returns-then-not-are_same
returns-then-not-are_same g t c = λ h u f k over den sees sees'.
    at_both h g.F.Family.rule g.F.Family.MAX_LEAVES _ _ _ (g.A.Hashes.hashed c.args.claimed.now) (g.B.Hashes.hashed c.args.listed.now) f k u den
    c.if-node-eq0.false sees sees' c.in-Some.one c.in-Some-pair.other false
    (tested over _ _ _ _ _ c.are_same.ensures ∙ c.if-not-are_same.true)
    (λ q a b w. let v = c.children-left.ensures q a b w in (sym (c.in-Some.ensures q a b v.0 v.1), sym (c.in-Some-pair.ensures q a b v.0 v.1)))
    None (λ e. absurd (false≢true e))

pub returns-in-Some-first_at : goal.returns-in-Some-first_at
returns-in-Some-first_at g t c = λ h u f k over den sees sees'.
    at_both h g.F.Family.rule g.F.Family.MAX_LEAVES _ _ _ (g.A.Hashes.hashed c.args.claimed.now) (g.B.Hashes.hashed c.args.listed.now) f k u den
    c.if-node-eq0.false sees sees' c.in-Some.one c.in-Some-pair.other true
    (tested over _ _ _ _ _ c.are_same.ensures ∙ c.if-not-are_same.false)
    (λ q a b w. let v = c.children-left.ensures q a b w in (sym (c.in-Some.ensures q a b v.0 v.1), sym (c.in-Some-pair.ensures q a b v.0 v.1)))
    _ (λ e q a b w l l' r r'. let v = c.children-left.ensures q a b w in ap (λ o. or_else o (search_below h f k b)) (c.in-Some-first_at.ensures h a f k over v.0 l l'))

pub returns-in-None : goal.returns-in-None
returns-in-None g t c = λ h u f k over den sees sees'.
    at_both h g.F.Family.rule g.F.Family.MAX_LEAVES _ _ _ (g.A.Hashes.hashed c.args.claimed.now) (g.B.Hashes.hashed c.args.listed.now) f k u den
    c.if-node-eq0.false sees sees' c.in-Some.one c.in-Some-pair.other true
    (tested over _ _ _ _ _ c.are_same.ensures ∙ c.if-not-are_same.false)
    (λ q a b w. let v = c.children-left.ensures q a b w in (sym (c.in-Some.ensures q a b v.0 v.1), sym (c.in-Some-pair.ensures q a b v.0 v.1)))
    _ (λ e q a b w l l' r r'. let v = c.children-left.ensures q a b w in
    c.first_at-in-None.ensures h b f k over v.1 r r' ∙ ap (λ o. or_else o (search_below h f k b)) (c.in-None.ensures h a f k over v.0 l l'))
