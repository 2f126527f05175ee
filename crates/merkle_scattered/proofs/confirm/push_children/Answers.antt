use Rattle.std.proofs.Common.{◌+◌, ◌++◌, map, drop, sym, subst, ap, arith, ◌∙◌, append-nil}
use Rattle.merkle_scattered.specs.Confirmed.{IsChecked, checked_node, all_children_met}
use Rattle.merkle_scattered.proofs.CheckedNodes.{checked_item, none_after, parent_is, no_children}
use Rattle.merkle_scattered.proofs.CheckedDigests.{children_more, no_more_children}
use Rattle.merkle_scattered.proofs.confirm.push_children.Goals as goal
use Rattle.merkle_scattered.proofs.confirm.push_children.Goals.{then-is_parent+in_ok-push+in_ok-push-2, else-is_parent}

pub children-left-requires : goal.children-left-requires
children-left-requires g c =
    let n = c.requires.nodes in
    let v = checked_item g.F.Family.rule g.F.Family.MAX_LEAVES c.args.located.now c.args.nodes.now n.0 n.1 c.loop-node.node-index c.loop-node-test.true c.node-item.result in
    let e = c.node-item.is ∙ v.1 in
    let p = parent_is g.F.Family.rule g.F.Family.MAX_LEAVES c.args.located.now c.requires.ascend c.node-item.result v.0 e v.2 (sym c.is_parent.ensures ∙ c.if-is_parent.true) in
    (p.0, p.1, p.2, subst (IsChecked g.F.Family.rule g.F.Family.MAX_LEAVES c.args.located.now c.node-item.result) p.3 (e, v.2))

pub loop-node-preserved : goal.loop-node-preserved
loop-node-preserved g c = λ ts w.
    let es = c.args.located.now in
    let i = c.loop-node.node-index in
    let v = checked_item g.F.Family.rule g.F.Family.MAX_LEAVES es c.args.nodes.now ts w i c.loop-node-test.true c.node-item.result in
    let e = c.node-item.is ∙ v.1 in
    let whole = c.args.children.now.items ++ map (checked_node es) (all_children_met es ts) in
    elim c.if-is_parent.branch [
      | then-is_parent+in_ok-push+in_ok-push-2 b ↦ (
          let p = parent_is g.F.Family.rule g.F.Family.MAX_LEAVES es c.requires.ascend c.node-item.result v.0 e v.2 (sym c.is_parent.ensures ∙ b.if-is_parent.true) in
          let k = b.children-left.ensures p.0 p.1 p.2 (subst (IsChecked g.F.Family.rule g.F.Family.MAX_LEAVES es c.node-item.result) p.3 (e, v.2)) in
          children_more es c.loop-node.children.items b.push.new.self.items c.if-is_parent.children.items whole _ _ v.0 p.1 p.2 (drop i ts) (drop (i + 1) ts) v.3 p.4 k.0 k.1
          b.in_ok-push.ensures.items (ap (λ z. z.items) b.children-is ∙ b.in_ok-push-2.ensures.items) (c.loop-node.invariant ts w)
          )
      | else-is_parent b ↦ (
          let none = no_children g.F.Family.rule g.F.Family.MAX_LEAVES es c.requires.ascend c.node-item.result v.0 e v.2 (sym c.is_parent.ensures ∙ b.if-is_parent.false) in
          ap (λ z. z.items ++ map (checked_node es) (all_children_met es (drop (i + 1) ts))) b.children-is
          ∙ no_more_children es c.loop-node.children.items whole v.0 (drop i ts) (drop (i + 1) ts) v.3 none (c.loop-node.invariant ts w)
          )
    ]

pub returns : goal.returns
returns g c = λ ts w.
    let es = c.args.located.now in
    let i = c.loop-node.node-index in
    let none = none_after g.F.Family.rule g.F.Family.MAX_LEAVES es c.args.nodes.now ts w i (omega (arith, c.loop-node-test.false)) in
    sym (append-nil c.loop-node.children.items) ∙ sym (ap (λ z. c.loop-node.children.items ++ map (checked_node es) (all_children_met es z)) none) ∙ c.loop-node.invariant ts w
