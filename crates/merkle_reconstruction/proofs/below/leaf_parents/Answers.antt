use Rattle.merkle_reconstruction.proofs.InsideLists.{all_item, all_pushed}
use Rattle.merkle_reconstruction.proofs.below.leaf_parents.Goals as goal

pub leaf_parent-requires-clause-node : goal.leaf_parent-requires-clause-node
leaf_parent-requires-clause-node g c = (all_item _ c.args.nodes.now c.requires c.loop-node.node-index c.loop-node-test.true c.node-item.result c.node-item.is).0

pub leaf_parent-requires-clause-parent : goal.leaf_parent-requires-clause-parent
leaf_parent-requires-clause-parent g c = (all_item _ c.args.nodes.now c.requires c.loop-node.node-index c.loop-node-test.true c.node-item.result c.node-item.is).1

pub loop-node-preserved : goal.loop-node-preserved
loop-node-preserved g c = λ h. all_pushed _ _ _ _ c.in_ok-push.ensures.items (c.loop-node.invariant h) (c.leaf_parent.ensures.digest h)
