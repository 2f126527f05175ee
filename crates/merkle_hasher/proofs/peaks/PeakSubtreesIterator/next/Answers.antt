use Rattle.std.proofs.Common.{List, sym, ap, ◌∙◌, length, arith, subst}
use Rattle.std.specs.Iterator.{YieldsFirst}
use Rattle.merkle_hasher.specs.declared.subtree.Subtree.{Subtree}
use Rattle.merkle_hasher.specs.Subtrees.{AreNodesFrom, subtrees_from}
use Rattle.merkle_hasher.proofs.SubtreeLists.{first_node, others_stand, first_and_others}
use Rattle.merkle_hasher.proofs.peaks.PeakSubtreesIterator.next.Goals as goal

pub invariant_of-self : goal.invariant_of-self
invariant_of-self g c =
    let y = g.met.F.Peaks.Listed.gives_first _ _ _ c.in_err-position.ensures.steps in
    subst (AreNodesFrom g.F.Family.rule g.F.Family.MAX_LEAVES c.self.inside.first_leaf) (sym y.1) tt

pub returns-in_err-position-clause-steps : goal.returns-in_err-position-clause-steps
returns-in_err-position-clause-steps g c =
    let y = g.met.F.Peaks.Listed.gives_first _ _ _ c.in_err-position.ensures.steps in
    let from = subtrees_from {F = g.row.F.Denot} c.self.inside.first_leaf in
    subst (λ r. YieldsFirst (λ (left : List (Subtree g.row.F.Denot)). left) c.args.self.now r (from (g.F.Peaks.Listed.left c.next.new.self))) (sym c.from_residual.ensures)
    (sym c.self.view_is ∙ ap from y.0, ap from y.1)

pub leaf_end-self-inside-requires : goal.leaf_end-self-inside-requires
leaf_end-self-inside-requires g c =
    let y = g.met.F.Peaks.Listed.gives_first _ _ _ c.in_ok-position.ensures.steps in
    first_node _ _ _ g.met.F.Family.lawful _ _ _ _ _ y c.self.invariant

pub invariant_of-self-2 : goal.invariant_of-self-2
invariant_of-self-2 g c =
    let y = g.met.F.Peaks.Listed.gives_first _ _ _ c.in_ok-position.ensures.steps in
    others_stand _ _ _ g.met.F.Family.lawful _ _ _ _ _ y c.self.invariant _ c.leaf_end-self-inside.ensures

pub returns-clause-steps : goal.returns-clause-steps
returns-clause-steps g c =
    let y = g.met.F.Peaks.Listed.gives_first _ _ _ c.in_ok-position.ensures.steps in
    sym c.self.view_is ∙ first_and_others _ _ _ g.met.F.Family.lawful _ _ _ _ _ y c.self.invariant _ c.leaf_end-self-inside.ensures

pub returns-clause-goes : goal.returns-clause-goes
returns-clause-goes g c = record { on = λ _. (tt, tt, omega (arith, ap length (returns-clause-steps g c))); keeps = tt; rests = λ _. tt }
