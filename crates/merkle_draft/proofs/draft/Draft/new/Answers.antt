use Rattle.std.proofs.Common.{◌≡◌, true, false, sym, ap, ◌∙◌}
use Rattle.std.specs.Prelude.{not}
use Rattle.merkle_batch_theory.specs.Unmerkleized.{is_changed}
use Rattle.merkle_draft.proofs.KeptRecords.{taken_over, with_own, without_own}
use Rattle.merkle_draft.proofs.draft.Draft.new.Goals.{then-not-is_empty+in_ok-clone-2+in_ok-push-2, else-not-is_empty}
use Rattle.merkle_draft.proofs.draft.Draft.new.Goals as goal

pub loop-record-preserved : goal.loop-record-preserved
loop-record-preserved g c =
    taken_over (λ r. r.value) _ c.loop-record.kept.items c.push.new.self.items c.loop-record.record-index c.record-item.result c.in_ok-clone.field-0 c.loop-record-test.true c.record-item.is
    c.in_ok-clone.ensures.cases c.loop-record.invariant c.in_ok-push.ensures.items

pub returns-clause-kept : goal.returns-clause-kept
returns-clause-kept g c =
    let own = c.args.parent.now.value in
    let read : c.deref.result.now ≡ own = c.deref.ensures in
    elim c.if-not-is_empty.branch [
      | then-not-is_empty+in_ok-clone-2+in_ok-push-2 w ↦ (let changed : not (is_changed own) ≡ false = ap (λ r. not (is_changed r)) (sym read) ∙ sym c.is_empty.ensures ∙ w.if-not-is_empty.true in
          with_own (λ r. r.value) c.args.ancestors.now c.loop-record.kept.items c.if-not-is_empty.kept.items c.loop-record.record-index own w.in_ok-clone-2.field-0
          (is_changed own) c.loop-record-test.false c.loop-record.invariant (ap (λ v. v.items) w.kept-is ∙ w.in_ok-push-2.ensures.items) w.in_ok-clone-2.ensures.cases changed)
      | else-not-is_empty w ↦ (let unchanged : not (is_changed own) ≡ true = ap (λ r. not (is_changed r)) (sym read) ∙ sym c.is_empty.ensures ∙ w.if-not-is_empty.false in
          without_own (λ r. r.value) c.args.ancestors.now c.loop-record.kept.items c.if-not-is_empty.kept.items c.loop-record.record-index own
          (is_changed own) c.loop-record-test.false c.loop-record.invariant (ap (λ v. v.items) w.kept-is) unchanged)
    ]
