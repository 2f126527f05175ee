use Rattle.std.specs.Prelude.{Bool, Some}
use Rattle.std.proofs.Common.{◌≡◌, suc, ◌-◌, ◌<◌, length, sym, ◌∙◌, ap, arith, take, map, add-one}
use Rattle.std.proofs.lemmas.List.{length-map, take_all}
use Rattle.merkle_batch_theory.specs.Replay.{last_match, is_state}
use Rattle.merkle_batch_theory.specs.Records.{RecordModel, after}
use Rattle.merkle_batch_theory.proofs.LastMatch.{last_match_yes, last_match_no, get_or_map}
use Rattle.merkle_core.proofs.find.last_end.Goals as goal

pub loop-i-init : goal.loop-i-init
loop-i-init g c =
    let rs = map (λ r. r.value) c.args.records.now in (
      omega arith,
      ap (last_match (λ r. is_state g.D.PartialEq.eq c.args.size c.args.peaks.now (after r) r.peaks_after))
          (sym (take_all (length c.args.records.now) rs (omega (arith, length-map c.args.records.now (λ r. r.value))))),
    )

pub loop-i-preserved : goal.loop-i-preserved
loop-i-preserved g c =
    let test : RecordModel g.row.D.Denot → Bool = λ r. is_state g.D.PartialEq.eq c.args.size c.args.peaks.now (after r) r.peaks_after in
    let rs = map (λ r. r.value) c.args.records.now in
    let next : c.loop-i.i ≡ suc (c.loop-i.i - 1) = omega arith in
    let within : c.loop-i.i - 1 < length c.args.records.now = omega arith in
    let same : c.is_at.result ≡ test c.index-records-i.result.value =
    c.is_at.ensures ∙ ap (λ n. is_state g.D.PartialEq.eq c.args.size c.args.peaks.now n c.as_slice.result.now) c.size.ensures
    ∙ ap (λ ds. is_state g.D.PartialEq.eq c.args.size c.args.peaks.now (after c.deref-record.result.now) ds) (c.as_slice.ensures.value ∙ ap (λ r. r.peaks_after) c.record.view_is)
    ∙ ap test c.deref-record.ensures in
    let at = get_or_map (λ r. r.value) c.args.records.now (c.loop-i.i - 1) c.index-records-i.result within c.index-records-i.is in (
      omega arith,
      c.loop-i.invariant.1 ∙ ap (λ n. last_match test (take n rs)) next
          ∙ last_match_no test rs (c.loop-i.i - 1) c.index-records-i.result.value (omega (arith, within, length-map c.args.records.now (λ r. r.value)))
          at (sym same ∙ c.if-is_at.false),
    )

pub returns-then-is_at : goal.returns-then-is_at
returns-then-is_at g c =
    let test : RecordModel g.row.D.Denot → Bool = λ r. is_state g.D.PartialEq.eq c.args.size c.args.peaks.now (after r) r.peaks_after in
    let rs = map (λ r. r.value) c.args.records.now in
    let next : c.loop-i.i ≡ suc (c.loop-i.i - 1) = omega arith in
    let within : c.loop-i.i - 1 < length c.args.records.now = omega arith in
    let same : c.is_at.result ≡ test c.index-records-i.result.value =
    c.is_at.ensures ∙ ap (λ n. is_state g.D.PartialEq.eq c.args.size c.args.peaks.now n c.as_slice.result.now) c.size.ensures
    ∙ ap (λ ds. is_state g.D.PartialEq.eq c.args.size c.args.peaks.now (after c.deref-record.result.now) ds) (c.as_slice.ensures.value ∙ ap (λ r. r.peaks_after) c.record.view_is)
    ∙ ap test c.deref-record.ensures in
    let at = get_or_map (λ r. r.value) c.args.records.now (c.loop-i.i - 1) c.index-records-i.result within c.index-records-i.is in
    sym (c.loop-i.invariant.1 ∙ ap (λ n. last_match test (take n rs)) next
    ∙ last_match_yes test rs (c.loop-i.i - 1) c.index-records-i.result.value (omega (arith, within, length-map c.args.records.now (λ r. r.value)))
    at (sym same ∙ c.if-is_at.true) ∙ ap Some (sym (add-one (c.loop-i.i - 1))))
