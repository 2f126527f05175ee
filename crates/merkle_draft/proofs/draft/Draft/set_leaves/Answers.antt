use Rattle.std.proofs.Common.{[], refl, ◌∙◌}
use Rattle.merkle_draft.proofs.ChangedLeaves.{entries_are, taken_more, taken_all}
use Rattle.merkle_draft.proofs.draft.Draft.set_leaves.Goals as goal

pub loop-position-preserved : goal.loop-position-preserved
loop-position-preserved g c =
    let i = c.loop-position.invariant in
    let sorted = c.into_iter-position-iterator.ensures.into_iter_gives.5 in
    (i.0, i.1, i.2, taken_more _ _ _ _ _ _ _ _ _ sorted c.in-Some.ensures.steps c.in_ok-insert.ensures.inserted c.in_ok-push.ensures.items i.3)

pub returns-clause-set : goal.returns-clause-set
returns-clause-set g c = (taken_all _ _ _ _ c.in-None.ensures.steps.0 c.loop-position.invariant.3).0

pub returns-clause-listed : goal.returns-clause-listed
returns-clause-listed g c = λ n leaves.
    (taken_all _ _ _ _ c.in-None.ensures.steps.0 c.loop-position.invariant.3).1
    ∙ entries_are g.F.Family.rule n c.args.updates.now.entries leaves c.into_iter-position-iterator.ensures.into_iter_gives.5
