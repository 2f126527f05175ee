use Rattle.std.proofs.Common.{◌≢◌, arith}
use Rattle.merkle_reconstruction.proofs.InsideNodes.{inside_join, inside_children}
use Rattle.merkle_reconstruction.proofs.InsideLists.{all_item, all_pushed}
use Rattle.merkle_reconstruction.proofs.below.children_of.Goals as goal

pub children-left-requires : goal.children-left-requires
children-left-requires g c =
    let n = c.requires in
    let w = all_item _ c.args.nodes.now n.4 c.loop-node.node-index c.loop-node-test.true c.node-item.result c.node-item.is in
    inside_join _ _ n.0 n.1 c.node-item.result w.0 (omega (arith, w.1, n.3))

pub loop-node-preserved : goal.loop-node-preserved
loop-node-preserved g c = λ start count height tall level.
    let w = all_item _ c.args.nodes.now level c.loop-node.node-index c.loop-node-test.true c.node-item.result c.node-item.is in
    let parent : c.node-item.result.height ≢ 0 = omega (arith, w.1, tall) in
    let both = inside_children _ _ start count _ g.met.F.Family.lawful c.node-item.result c.children-left.result.0 c.children-left.result.1 c.children-left.ensures w.0 parent in
    all_pushed _ _ _ _ c.in_ok-push-2.ensures.items
    (all_pushed _ _ _ _ c.in_ok-push.ensures.items (c.loop-node.invariant start count height tall level) (both.0, omega (arith, both.2, w.1)))
    (both.1, omega (arith, both.3, w.1))
