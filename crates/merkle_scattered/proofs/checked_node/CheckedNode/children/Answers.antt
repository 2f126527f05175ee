use Rattle.merkle_base.specs.Tree.{join}
use Rattle.merkle_scattered.proofs.CheckedNodes.{denotes_checked, indices_within, children_are}
use Rattle.merkle_scattered.proofs.checked_node.CheckedNode.children.Goals as goal

pub children-requires : goal.children-requires
children-requires g c =
    let n = c.requires in
    (n.0, n.1, n.2, denotes_checked _ _ c.args.located.now c.args.self.now (join n.0 n.1 n.2) n.3.0 n.3.1)

pub count_before-middle-requires : goal.count_before-middle-requires
count_before-middle-requires g c = let n = c.requires in (indices_within c.args.located.now c.args.self.now (join n.0 n.1 n.2) n.3.0).0

pub returns : goal.returns
returns g c = λ p l r w.
    children_are c.args.located.now c.args.self.now g.F.Family.rule g.F.Family.MAX_LEAVES p l r w.0 w.1 c.children.result.0 c.children.result.1
    (c.children.ensures p l r (denotes_checked _ _ c.args.located.now c.args.self.now (join p l r) w.0 w.1)) c.count_before-middle.result c.count_before-middle.ensures
