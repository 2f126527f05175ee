use Rattle.std.proofs.Common.{arith, refl, inl, inr}
use Rattle.merkle_hasher.proofs.Spans.{heights_same}
use Rattle.merkle_hasher.proofs.NodeSteps.{inner_node, lower}
use Rattle.std.proofs.lemmas.Result.{on_ok_weaker}
use Rattle.merkle_reconstruction.proofs.inside.+collect_inside.Goals as goal

pub put_inside-requires-clause-node : goal.put_inside-requires-clause-node
put_inside-requires-clause-node g t c =
    let n = c.requires.node in
    let i = c.is_inside.ensures.inside n.0 n.1 c.if-is_inside.true in
    (n.0, (n.1, i.0, omega (arith, i.1, c.requires.covered)))

pub children-left-requires : goal.children-left-requires
children-left-requires g t c = let n = c.requires.node in inner_node _ _ _ _ _ n.0 n.1 c.if-subtree-eq0.false

pub collect_inside-requires : goal.collect_inside-requires
collect_inside-requires g t c κs within =
    let n = c.requires.node in
    let i = inner_node _ _ _ _ _ n.0 n.1 c.if-subtree-eq0.false in
    let k = c.children-left.ensures i.0 i.1 i.2 i.3 in
    (omega (arith, lower _ _ _ _ _ _ _ _ _ _ _ _ i.3 k.0 (inl refl), c.decreases), (within.0, (within.1.0, (within.1.1.0, (within.1.1.1, ((i.1, k.0), (c.requires.nonempty, c.requires.covered)))))))

pub collect_inside-requires-2 : goal.collect_inside-requires-2
collect_inside-requires-2 g t c κs within =
    let n = c.requires.node in
    let i = inner_node _ _ _ _ _ n.0 n.1 c.if-subtree-eq0.false in
    let k = c.children-left.ensures i.0 i.1 i.2 i.3 in (
      omega (arith, lower _ _ _ _ _ _ _ _ _ _ _ _ i.3 k.1 (inr (heights_same _ _ _ g.met.F.Family.lawful _ _ _ _ _ _ i.3)), c.decreases),
      (within.0, (within.1.0, (within.1.1.0, (within.1.1.1, ((i.2, k.1), (c.requires.nonempty, c.requires.covered)))))),
    )

pub returns-clause-parents : goal.returns-clause-parents
returns-clause-parents g t c = on_ok_weaker c.collect_inside-2.result (λ f h all. f h (c.in_ok-collect_inside.ensures.parents h all)) c.collect_inside-2.ensures.parents
