use Rattle.std.proofs.Common.{sym, ap, ◌∙◌, length, arith}
use Rattle.merkle_hasher.proofs.Comparisons.{lt_yes, lt_no}
use Rattle.merkle_leaves.proofs.PathSteps.{path_ends, inner_over, left_step, right_step}
use Rattle.merkle_leaves.proofs.path.IteratorIterator.next.Goals as goal

pub returns-then-node-eq0-clause-steps : goal.returns-then-node-eq0-clause-steps
returns-then-node-eq0-clause-steps g c = let e = sym c.self.view_is ∙ path_ends _ _ _ _ _ _ c.self.invariant c.if-node-eq0.true in (e, e)

pub children-left-requires : goal.children-left-requires
children-left-requires g c = let i = inner_over _ _ _ _ _ _ c.self.invariant c.if-node-eq0.false in (i.0, i.1, i.2, i.3)

pub invariant_of-self : goal.invariant_of-self
invariant_of-self g c = (left_step _ _ _ _ _ _ _ _ _ _ _ _ c.self.invariant c.if-node-eq0.false c.children-left.ensures (lt_yes _ _ (sym c.lt.ensures ∙ c.if-lt.true))).0

pub invariant_of-self-else-lt : goal.invariant_of-self-else-lt
invariant_of-self-else-lt g c = (right_step _ _ _ _ _ _ _ _ _ _ _ _ c.self.invariant c.if-node-eq0.false c.children-left.ensures (lt_no _ _ (sym c.lt.ensures ∙ c.if-lt.false))).0

pub returns-then-lt-clause-steps : goal.returns-then-lt-clause-steps
returns-then-lt-clause-steps g c =
    sym c.self.view_is ∙ (left_step _ _ _ _ _ _ _ _ _ _ _ _ c.self.invariant c.if-node-eq0.false c.children-left.ensures (lt_yes _ _ (sym c.lt.ensures ∙ c.if-lt.true))).1

pub returns-then-lt-clause-goes : goal.returns-then-lt-clause-goes
returns-then-lt-clause-goes g c =
    let e = sym c.self.view_is ∙ (left_step _ _ _ _ _ _ _ _ _ _ _ _ c.self.invariant c.if-node-eq0.false c.children-left.ensures (lt_yes _ _ (sym c.lt.ensures ∙ c.if-lt.true))).1 in
    record { on = λ _. (tt, tt, omega (arith, ap length e)); keeps = tt; rests = λ _. tt }

pub returns-else-lt-clause-steps : goal.returns-else-lt-clause-steps
returns-else-lt-clause-steps g c =
    sym c.self.view_is ∙ (right_step _ _ _ _ _ _ _ _ _ _ _ _ c.self.invariant c.if-node-eq0.false c.children-left.ensures (lt_no _ _ (sym c.lt.ensures ∙ c.if-lt.false))).1

pub returns-else-lt-clause-goes : goal.returns-else-lt-clause-goes
returns-else-lt-clause-goes g c =
    let e = sym c.self.view_is ∙ (right_step _ _ _ _ _ _ _ _ _ _ _ _ c.self.invariant c.if-node-eq0.false c.children-left.ensures (lt_no _ _ (sym c.lt.ensures ∙ c.if-lt.false))).1 in
    record { on = λ _. (tt, tt, omega (arith, ap length e)); keeps = tt; rests = λ _. tt }
