use Rattle.std.proofs.Common.{◌≡◌, ◌++◌, List, drop, map}
use Rattle.merkle_base.specs.Tree.{Tree}
use Rattle.merkle_scattered.specs.Confirmed.{AreChecked, checked_node, all_children_met}
use Rattle.merkle_scattered.proofs.confirm.push_children.Given as goal

abbrev pub invariant-loop-node : goal.invariant-loop-node
invariant-loop-node g l = (ts : List Tree) → AreChecked g.F.Family.rule g.F.Family.MAX_LEAVES l.located l.nodes ts
    → l.children.items ++ map (checked_node l.located) (all_children_met l.located (drop l.node-index ts)) ≡ l.fn.children.items ++ map (checked_node l.located) (all_children_met l.located ts)
