use Rattle.std.proofs.Common.{◌+◌, ◌++◌, ◌≤◌, [], length, drop, sym, ap, arith, rules, ◌∙◌, append-nil}
use Rattle.merkle_base.specs.Tree.{position}
use Rattle.merkle_root_theory.specs.Expression.{value}
use Rattle.merkle_scattered.specs.Confirmed.{node_checked, nodes_checked, all_children_met, all_parents_met}
use Rattle.merkle_scattered.proofs.CheckedNodes.{checked_item, none_after, parent_is, no_children, no_parent}
use Rattle.merkle_scattered.proofs.CheckedDigests.{two_left, two_children, no_child, parents_more, parent_more}
use Rattle.merkle_scattered.proofs.confirm.push_parents.Goals as goal
use Rattle.merkle_scattered.proofs.confirm.push_parents.Goals.{then-is_parent+in_ok-push, else-is_parent}

pub bounds-below-next-then-is_parent : goal.bounds-below-next-then-is_parent
bounds-below-next-then-is_parent g c =
    let n = c.requires.nodes in
    let i = c.loop-node.node-index in
    let v = checked_item g.F.Family.rule g.F.Family.MAX_LEAVES n.0 c.args.nodes.now n.1 n.3 i c.loop-node-test.true c.node-item.result in
    let p = parent_is g.F.Family.rule g.F.Family.MAX_LEAVES n.0 n.2 c.node-item.result v.0 (c.node-item.is ∙ v.1) v.2 (sym c.is_parent.ensures ∙ c.if-is_parent.true) in
    omega (arith, c.loop-node.invariant.0 n.0 n.1 n.2 n.3 n.4, ap length (two_children n.0 v.0 (drop i n.1) (drop (i + 1) n.1) v.3 p.1 p.2 p.4))

pub bounds-below-next : goal.bounds-below-next
bounds-below-next g c =
    let n = c.requires.nodes in
    let i = c.loop-node.node-index in
    let v = checked_item g.F.Family.rule g.F.Family.MAX_LEAVES n.0 c.args.nodes.now n.1 n.3 i c.loop-node-test.true c.node-item.result in
    let p = parent_is g.F.Family.rule g.F.Family.MAX_LEAVES n.0 n.2 c.node-item.result v.0 (c.node-item.is ∙ v.1) v.2 (sym c.is_parent.ensures ∙ c.if-is_parent.true) in
    omega (arith, c.loop-node.invariant.0 n.0 n.1 n.2 n.3 n.4, ap length (two_children n.0 v.0 (drop i n.1) (drop (i + 1) n.1) v.3 p.1 p.2 p.4))

pub overflow_add-next : goal.overflow_add-next
overflow_add-next g c =
    let n = c.requires.nodes in
    let i = c.loop-node.node-index in
    let v = checked_item g.F.Family.rule g.F.Family.MAX_LEAVES n.0 c.args.nodes.now n.1 n.3 i c.loop-node-test.true c.node-item.result in
    let p = parent_is g.F.Family.rule g.F.Family.MAX_LEAVES n.0 n.2 c.node-item.result v.0 (c.node-item.is ∙ v.1) v.2 (sym c.is_parent.ensures ∙ c.if-is_parent.true) in
    let l : c.loop-node.next + 1 ≤ length c.args.below.now =
    omega (arith, c.loop-node.invariant.0 n.0 n.1 n.2 n.3 n.4, ap length (two_children n.0 v.0 (drop i n.1) (drop (i + 1) n.1) v.3 p.1 p.2 p.4)) in
    search rules

pub offset_bounds-below-next-then-is_parent : goal.offset_bounds-below-next-then-is_parent
offset_bounds-below-next-then-is_parent g c =
    let n = c.requires.nodes in
    let i = c.loop-node.node-index in
    let v = checked_item g.F.Family.rule g.F.Family.MAX_LEAVES n.0 c.args.nodes.now n.1 n.3 i c.loop-node-test.true c.node-item.result in
    let p = parent_is g.F.Family.rule g.F.Family.MAX_LEAVES n.0 n.2 c.node-item.result v.0 (c.node-item.is ∙ v.1) v.2 (sym c.is_parent.ensures ∙ c.if-is_parent.true) in
    omega (arith, c.loop-node.invariant.0 n.0 n.1 n.2 n.3 n.4, ap length (two_children n.0 v.0 (drop i n.1) (drop (i + 1) n.1) v.3 p.1 p.2 p.4))

pub overflow_add-next-then-is_parent : goal.overflow_add-next-then-is_parent
overflow_add-next-then-is_parent g c =
    let n = c.requires.nodes in
    let i = c.loop-node.node-index in
    let v = checked_item g.F.Family.rule g.F.Family.MAX_LEAVES n.0 c.args.nodes.now n.1 n.3 i c.loop-node-test.true c.node-item.result in
    let p = parent_is g.F.Family.rule g.F.Family.MAX_LEAVES n.0 n.2 c.node-item.result v.0 (c.node-item.is ∙ v.1) v.2 (sym c.is_parent.ensures ∙ c.if-is_parent.true) in
    let l : c.loop-node.next + 2 ≤ length c.args.below.now =
    omega (arith, c.loop-node.invariant.0 n.0 n.1 n.2 n.3 n.4, ap length (two_children n.0 v.0 (drop i n.1) (drop (i + 1) n.1) v.3 p.1 p.2 p.4)) in
    search rules

pub loop-node-preserved : goal.loop-node-preserved
loop-node-preserved g c = (
  λ es ts up w many.
      let i = c.loop-node.node-index in
      let v = checked_item g.F.Family.rule g.F.Family.MAX_LEAVES es c.args.nodes.now ts w i c.loop-node-test.true c.node-item.result in
      let e = c.node-item.is ∙ v.1 in
      elim c.if-is_parent.branch [
        | then-is_parent+in_ok-push b ↦ (
            let p = parent_is g.F.Family.rule g.F.Family.MAX_LEAVES es up c.node-item.result v.0 e v.2 (sym c.is_parent.ensures ∙ b.if-is_parent.true) in
            omega (arith, b.next-is, c.loop-node.invariant.0 es ts up w many, ap length (two_children es v.0 (drop i ts) (drop (i + 1) ts) v.3 p.1 p.2 p.4))
            )
        | else-is_parent b ↦ (
            let none = no_children g.F.Family.rule g.F.Family.MAX_LEAVES es up c.node-item.result v.0 e v.2 (sym c.is_parent.ensures ∙ b.if-is_parent.false) in
            omega (arith, b.next-is, c.loop-node.invariant.0 es ts up w many, ap length (no_child es v.0 (drop i ts) (drop (i + 1) ts) v.3 none))
            )
      ],
  λ h a es ts up w below_is.
      let i = c.loop-node.node-index in
      let v = checked_item g.F.Family.rule g.F.Family.MAX_LEAVES es c.args.nodes.now ts w i c.loop-node-test.true c.node-item.result in
      let e = c.node-item.is ∙ v.1 in
      let u = c.loop-node.invariant.1 h a es ts up w below_is in
      let whole = c.args.parents.now.items ++ all_parents_met h a es ts in
      elim c.if-is_parent.branch [
        | then-is_parent+in_ok-push b ↦ (
            let p = parent_is g.F.Family.rule g.F.Family.MAX_LEAVES es up c.node-item.result v.0 e v.2 (sym c.is_parent.ensures ∙ b.if-is_parent.true) in
            let children = two_children es v.0 (drop i ts) (drop (i + 1) ts) v.3 p.1 p.2 p.4 in
            let two = two_left c.args.below.now c.loop-node.next (value h (node_checked h a es p.1)) (value h (node_checked h a es p.2)) (nodes_checked h a es (all_children_met es (drop (i + 1) ts)))
            (u.0 ∙ ap (nodes_checked h a es) children) in
            let same = ap (λ x. x.subtree.position) e ∙ ap position p.3 in
            let more = ap (λ z. z.items) b.parents-is ∙ b.in_ok-push.ensures.items in (
              ap (λ k. drop k c.args.below.now) b.next-is ∙ (two b.index-below-next.result).2,
              parent_more h a es v.0 p.1 p.2 p.0 p.3 p.5 c.node-item.result.subtree.position b.index-below-next.result b.index-below-next-then-is_parent.result same
                  (b.index-below-next.is ∙ (two b.index-below-next.result).0) (b.index-below-next-then-is_parent.is ∙ (two b.index-below-next-then-is_parent.result).1)
                  (drop i ts) (drop (i + 1) ts) v.3 c.loop-node.parents.items c.if-is_parent.parents.items whole more u.1,
            )
            )
        | else-is_parent b ↦ (
            let none = no_children g.F.Family.rule g.F.Family.MAX_LEAVES es up c.node-item.result v.0 e v.2 (sym c.is_parent.ensures ∙ b.if-is_parent.false) in
            let lone = no_parent g.F.Family.rule g.F.Family.MAX_LEAVES es up h a c.node-item.result v.0 e v.2 (sym c.is_parent.ensures ∙ b.if-is_parent.false) in (
              ap (λ k. drop k c.args.below.now) b.next-is ∙ u.0 ∙ ap (nodes_checked h a es) (no_child es v.0 (drop i ts) (drop (i + 1) ts) v.3 none),
              ap (λ z. z.items ++ all_parents_met h a es (drop (i + 1) ts)) b.parents-is
                  ∙ sym (ap (λ z. c.loop-node.parents.items ++ z) (parents_more es v.0 (drop i ts) (drop (i + 1) ts) v.3 h a [] lone)) ∙ u.1,
            )
            )
      ],
)

pub returns : goal.returns
returns g c = λ h a es ts up w below_is.
    let i = c.loop-node.node-index in
    let none = none_after g.F.Family.rule g.F.Family.MAX_LEAVES es c.args.nodes.now ts w i (omega (arith, c.loop-node-test.false)) in
    sym (append-nil c.loop-node.parents.items) ∙ sym (ap (λ z. c.loop-node.parents.items ++ all_parents_met h a es z) none) ∙ (c.loop-node.invariant.1 h a es ts up w below_is).1
