use Rattle.std.proofs.Common.{◌≡◌, ◌+◌, ◌-◌, length, cond, ◌∙◌, ap}
use Rattle.std.specs.Prelude.{nat_lt, slice_get}
use Rattle.std.specs.FinMap.{get}
use Rattle.merkle_batch_theory.specs.Held.{overwritten_by}
use Rattle.merkle_batch_theory.proofs.RecordFacts.{with_record_by}
use Rattle.merkle_draft.proofs.replay.apply_record.Goals as goal

pub returns-clause-replayed : goal.returns-clause-replayed
returns-clause-replayed g c = λ b.
    let mid = c.replace_all.new.held in
    let appended : c.deref.result.now ≡ c.args.change.now.appended = c.deref.ensures.value ∙ ap (λ r. r.appended) c.change.view_is in
    with_record_by b c.args.held.now mid c.append.new.self c.args.change.now c.replace_all.ensures.size
    (λ p. c.replace_all.ensures.stored p ∙ ap (λ r. overwritten_by (get r.overwritten p) (get c.args.held.now.stored p)) c.change.view_is)
    (c.append.ensures.size ∙ ap (λ ds. mid.size + length ds) appended)
    (λ p. c.append.ensures.stored p ∙ ap (λ ds. cond (nat_lt p mid.size) (get mid.stored p) (slice_get ds (p - mid.size))) appended)
