use Rattle.std.proofs.Common.{◌≡◌, sym, ◌∙◌, ap, map}
use Rattle.std.specs.FinMap.{get}
use Rattle.std.specs.Map.Iter.{deref_pair}
use Rattle.merkle_batch_theory.specs.Held.{overwritten_by}
use Rattle.merkle_batch_theory.proofs.MapFacts.{get_entries}
use Rattle.merkle_batch_theory.proofs.OverwriteFacts.{over_push, latest_all, moved, all_came}
use Rattle.merkle_draft.proofs.replay.replace_all.Goals as goal

pub loop-position-preserved : goal.loop-position-preserved
loop-position-preserved g c = (
  c.replace.ensures.start ∙ c.loop-position.invariant.0,
  c.replace.ensures.size ∙ c.loop-position.invariant.1,
  c.replace.ensures.capacity ∙ c.loop-position.invariant.2,
  (λ p. over_push c.loop-position.yielded (c.in-Some.position, c.in-Some.digest) p _ (get c.loop-position.held.stored p) _ (c.loop-position.invariant.3 p) (c.replace.ensures.stored p)),
  moved c.loop-position.yielded (c.in-Some.position, c.in-Some.digest) c.loop-position.position-iterator c.next.new.self
      c.into_iter-position-iterator.result c.in-Some.ensures.steps c.loop-position.invariant.4,
)

pub returns-clause-stored : goal.returns-clause-stored
returns-clause-stored g c =
    let entries : c.into_iter-position-iterator.result ≡ c.overwrites.inside.nodes.entries = c.into_iter-position-iterator.ensures.into_iter_gives.0 in
    let all : map deref_pair c.loop-position.yielded ≡ c.overwrites.inside.nodes.entries =
    all_came c.loop-position.yielded c.loop-position.position-iterator c.overwrites.inside.nodes.entries c.in-None.ensures.steps.0
    (c.loop-position.invariant.4 ∙ entries) in
    λ p. c.loop-position.invariant.3 p
    ∙ ap (λ o. overwritten_by o (get c.args.held.now.stored p))
    (latest_all c.loop-position.yielded c.overwrites.inside.nodes.entries p all c.len-len.ensures.unique
    ∙ sym (get_entries c.overwrites.inside.nodes.entries p) ∙ ap (λ m. get m p) c.overwrites.view_is)
