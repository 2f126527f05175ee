use Rattle.std.proofs.Common.{◌+◌, ◌-◌, ℕ, ◌∷◌, length, ap, sym, ◌∙◌, arith}
use Rattle.merkle_topology.specs.Perfect.{trees_from}
use Rattle.merkle_topology.proofs.Perfect.{trees_none, first_tree, doubled}
use Rattle.merkle_topology.proofs.mmr.PeakIteratorIterator.next.Goals as goal

pub returns-then-self-eq0-clause-steps : goal.returns-then-self-eq0-clause-steps
returns-then-self-eq0-clause-steps c =
    let e = sym c.self.view_is ∙ ap (trees_from c.self.inside.next) c.if-self-eq0.true ∙ trees_none c.self.inside.next in (e, e)

pub overflow_sub-nodes : goal.overflow_sub-nodes
overflow_sub-nodes c =
    let k = first_tree c.self.inside.next c.self.inside.left c.ilog2-height.result c.if-self-eq0.false c.self.inside.bounded c.ilog2-height.ensures.power_le c.ilog2-height.ensures.next_power_gt in
    omega (arith, k.nodes)

pub overflow_add-self : goal.overflow_add-self
overflow_add-self c =
    let k = first_tree c.self.inside.next c.self.inside.left c.ilog2-height.result c.if-self-eq0.false c.self.inside.bounded c.ilog2-height.ensures.power_le c.ilog2-height.ensures.next_power_gt in
    omega (arith, k.nodes, k.fits, c.self.inside.bounded)

pub overflow_sub-self : goal.overflow_sub-self
overflow_sub-self c =
    let k = first_tree c.self.inside.next c.self.inside.left c.ilog2-height.result c.if-self-eq0.false c.self.inside.bounded c.ilog2-height.ensures.power_le c.ilog2-height.ensures.next_power_gt in
    omega (arith, k.nodes, k.fits)

pub invariant_of-self-inside : goal.invariant_of-self-inside
invariant_of-self-inside c =
    let k = first_tree c.self.inside.next c.self.inside.left c.ilog2-height.result c.if-self-eq0.false c.self.inside.bounded c.ilog2-height.ensures.power_le c.ilog2-height.ensures.next_power_gt in
    (omega (arith, k.nodes, k.fits, c.self.inside.bounded), tt)

pub overflow_sub-self-inside : goal.overflow_sub-self-inside
overflow_sub-self-inside c =
    let k = first_tree c.self.inside.next c.self.inside.left c.ilog2-height.result c.if-self-eq0.false c.self.inside.bounded c.ilog2-height.ensures.power_le c.ilog2-height.ensures.next_power_gt in
    omega (arith, k.nodes)

pub returns-clause-steps : goal.returns-clause-steps
returns-clause-steps c =
    let k = first_tree c.self.inside.next c.self.inside.left c.ilog2-height.result c.if-self-eq0.false c.self.inside.bounded c.ilog2-height.ensures.power_le c.ilog2-height.ensures.next_power_gt in
    sym c.self.view_is ∙ k.first ∙ ap
    (λ (x : ℕ). (x, c.ilog2-height.result - 1) ∷ trees_from (c.self.inside.next + (doubled c.ilog2-height.result - 1))
    (c.self.inside.left - (doubled c.ilog2-height.result - 1))) (sym c.new.ensures)

pub returns-clause-goes : goal.returns-clause-goes
returns-clause-goes c =
    let k = first_tree c.self.inside.next c.self.inside.left c.ilog2-height.result c.if-self-eq0.false c.self.inside.bounded c.ilog2-height.ensures.power_le c.ilog2-height.ensures.next_power_gt in
    record { on = λ _. (tt, tt, omega (arith, ap length (sym c.self.view_is ∙ k.first))); keeps = tt; rests = λ _. tt }
