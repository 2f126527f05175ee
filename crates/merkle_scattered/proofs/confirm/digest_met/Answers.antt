use Rattle.std.proofs.Common.{◌+◌, ◌++◌, ◌≤◌, length, map, get_or, sym, ap, arith, rules, ◌∙◌}
use Rattle.merkle_root_theory.specs.Expression.{value}
use Rattle.merkle_scattered.specs.Confirmed.{node_checked, parent_met}
use Rattle.merkle_scattered.proofs.LocatedIndices.{leaf_located_is}
use Rattle.merkle_scattered.proofs.CheckedNodes.{indices_within, leaf_is, inner_is}
use Rattle.merkle_scattered.proofs.CheckedDigests.{one_left, parent_met_is, value_of_leaf, value_of_parent}
use Rattle.merkle_scattered.proofs.confirm.digest_met.Goals as goal

pub offset_bounds-located-node : goal.offset_bounds-located-node
offset_bounds-located-node g c = let n = c.requires.node in (indices_within c.args.located.now c.args.node.now n.2 n.3.0).0

pub bounds-located-node : goal.bounds-located-node
bounds-located-node g c = let n = c.requires.node in omega (arith, c.requires.met, (indices_within c.args.located.now c.args.node.now n.2 n.3.0).2)

pub bounds-located-node-then-node-eq0 : goal.bounds-located-node-then-node-eq0
bounds-located-node-then-node-eq0 g c = let n = c.requires.node in omega (arith, c.requires.met, (indices_within c.args.located.now c.args.node.now n.2 n.3.0).2)

pub returns-then-node-eq0-clause-digest : goal.returns-then-node-eq0-clause-digest
returns-then-node-eq0-clause-digest g c = λ h a t more w e.
    let es = c.args.located.now in
    let p = leaf_is g.F.Family.rule g.F.Family.MAX_LEAVES es c.requires.ascend c.args.node.now c.requires.met t w c.if-node-eq0.true in (
      ap (λ n. (get_or es n c.index-located-node.result).1) p.4 ∙ leaf_located_is h p.1 es c.index-located-node.result p.5
          ∙ sym (ap (λ t. value h (node_checked h a es t)) p.2 ∙ value_of_leaf h a es p.0 p.1 p.3),
      e ∙ ap (λ t. map (λ n. h.node n.0 n.1 n.2) (parent_met h a es t) ++ more) p.2,
    )

pub returns-then-node-eq0-clause-taken : goal.returns-then-node-eq0-clause-taken
returns-then-node-eq0-clause-taken g c = λ h a t w.
    let p = leaf_is g.F.Family.rule g.F.Family.MAX_LEAVES c.args.located.now c.requires.ascend c.args.node.now c.requires.met t w c.if-node-eq0.true in
    omega (arith, ap (λ t. length (parent_met h a c.args.located.now t)) p.2)

pub bounds-computed-next : goal.bounds-computed-next
bounds-computed-next g c =
    let n = c.requires.node in
    let p = inner_is g.F.Family.rule g.F.Family.MAX_LEAVES c.args.located.now c.requires.ascend c.args.node.now c.requires.met n.2 n.3 c.if-node-eq0.false in
    omega (arith, n.4, ap length (parent_met_is n.0 n.1 c.args.located.now n.2 p.1 p.2 p.0 p.3 p.4))

pub overflow_add-next : goal.overflow_add-next
overflow_add-next g c =
    let n = c.requires.node in
    let p = inner_is g.F.Family.rule g.F.Family.MAX_LEAVES c.args.located.now c.requires.ascend c.args.node.now c.requires.met n.2 n.3 c.if-node-eq0.false in
    let l : c.args.next.now + 1 ≤ length c.args.computed.now = omega (arith, n.4, ap length (parent_met_is n.0 n.1 c.args.located.now n.2 p.1 p.2 p.0 p.3 p.4)) in
    search rules

pub returns-clause-digest : goal.returns-clause-digest
returns-clause-digest g c = λ h a t more w e.
    let es = c.args.located.now in
    let p = inner_is g.F.Family.rule g.F.Family.MAX_LEAVES es c.requires.ascend c.args.node.now c.requires.met t w c.if-node-eq0.false in
    let one = one_left c.args.computed.now c.args.next.now (h.node p.0 (value h (node_checked h a es p.1)) (value h (node_checked h a es p.2))) more
    (e ∙ ap (λ z. map (λ n. h.node n.0 n.1 n.2) z ++ more) (parent_met_is h a es t p.1 p.2 p.0 p.3 p.4)) c.index-computed-next.result in
    (c.index-computed-next.is ∙ one.0 ∙ sym (ap (λ t. value h (node_checked h a es t)) p.3 ∙ value_of_parent h a es p.0 p.1 p.2 p.4), one.1)

pub returns-clause-taken : goal.returns-clause-taken
returns-clause-taken g c = λ h a t w.
    let es = c.args.located.now in
    let p = inner_is g.F.Family.rule g.F.Family.MAX_LEAVES es c.requires.ascend c.args.node.now c.requires.met t w c.if-node-eq0.false in
    omega (arith, ap length (parent_met_is h a es t p.1 p.2 p.0 p.3 p.4))
