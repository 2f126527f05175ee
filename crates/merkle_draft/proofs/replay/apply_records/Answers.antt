use Rattle.std.proofs.Common.{◌≡◌, ◌+◌, ◌∷◌, length, ◌∙◌, ap, arith, map, drop, add-one}
use Rattle.merkle_batch_theory.specs.Held.{held_contents, total_appended}
use Rattle.merkle_batch_theory.specs.Replay.{with_record}
use Rattle.merkle_batch_theory.proofs.RecordFacts.{all_step, drop_here}
use Rattle.merkle_draft.proofs.replay.apply_records.Goals as goal

pub apply_record-requires : goal.apply_record-requires
apply_record-requires g c =
    let i = c.loop-change.change-index in
    let rs = map (λ r. r.value) c.args.changes.now in
    let here : drop i rs ≡ c.change-item.result.value ∷ drop (i + 1) rs = rw add-one (drop_here (λ r. r.value) c.args.changes.now i c.change-item.result c.loop-change-test.true c.change-item.is) in
    let alike : length c.deref.result.now.appended ≡ length c.change-item.result.value.appended = ap (λ r. length r.appended) c.deref.ensures in
    omega (arith, c.requires, c.loop-change.invariant.1, c.loop-change.invariant.2, ap total_appended here, alike)

pub loop-change-preserved : goal.loop-change-preserved
loop-change-preserved g c =
    let i = c.loop-change.change-index in
    let rs = map (λ r. r.value) c.args.changes.now in
    let here : drop i rs ≡ c.change-item.result.value ∷ drop (i + 1) rs = rw add-one (drop_here (λ r. r.value) c.args.changes.now i c.change-item.result c.loop-change-test.true c.change-item.is) in
    let alike : length c.deref.result.now.appended ≡ length c.change-item.result.value.appended = ap (λ r. length r.appended) c.deref.ensures in (
      c.apply_record.ensures.start ∙ c.loop-change.invariant.0,
      c.apply_record.ensures.capacity ∙ c.loop-change.invariant.1,
      omega (arith, c.loop-change.invariant.2, ap total_appended here, alike, c.apply_record.ensures.size),
      (λ b. all_step (drop i rs) (drop (i + 1) rs) c.change-item.result.value (held_contents b c.loop-change.held) (held_contents b c.apply_record.new.held) _ here
          (c.apply_record.ensures.replayed b ∙ ap (λ r. with_record r (held_contents b c.loop-change.held)) c.deref.ensures) (c.loop-change.invariant.3 b)),
    )
