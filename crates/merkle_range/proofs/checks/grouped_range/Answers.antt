use Rattle.std.proofs.Common.{arith, ap, sym, ◌∙◌, length, inl, inr, Some}
use Rattle.std.proofs.lemmas.Result.{err_from_is_err_and}
use Rattle.merkle_base.specs.Places.{peaks_of}
use Rattle.merkle_root_theory.proofs.Reconstruction.{refusal-start, refusal-end_past_limit, refusal-end, refusal-leaves, refusal-inactive}
use Rattle.merkle_range.specs.Input.{digest_input_of_parts}
use Rattle.merkle_range.proofs.checks.grouped_range.Goals as goal

pub returns-in_err-end-clause-err : goal.returns-in_err-end-clause-err
returns-in_err-end-clause-err g c =
    let p = err_from_is_err_and c.from_residual.result c.from_residual.ensures.1 in
    rw (p.1, p.2) (λ _ s leaves rule_is most_is long.
    let r = digest_input_of_parts c.args.parts.now c.args.start leaves in
    elim c.in_err-end.ensures.err [
      | inl x ↦ refusal-start s r (omega (arith, x.0, most_is)) ∙ ap Some (sym x.1)
      | inr (inl x) ↦ refusal-end_past_limit s r (omega (arith, x.0, most_is)) (omega (arith, x.1, long, most_is)) ∙ ap Some (sym x.2)
      | inr (inr (inl x)) ↦ refusal-end s r (omega (arith, x.0, most_is)) (omega (arith, x.1, long, most_is)) (omega (arith, x.2, long)) ∙ ap Some (sym x.3)
      | inr (inr (inr x)) ↦ refusal-leaves s r (omega (arith, x.0, most_is)) (omega (arith, x.2, long, most_is)) (omega (arith, x.1, long)) (omega (arith, x.3, most_is)) ∙ ap Some (sym x.4)
    ])

pub returns-then-parts-count-clause-err : goal.returns-then-parts-count-clause-err
returns-then-parts-count-clause-err g c = λ _ s leaves rule_is most_is long.
    let n = c.args.parts.now.leaves in
    let end = c.in_ok-end.ensures.ok in
    refusal-inactive s (digest_input_of_parts c.args.parts.now c.args.start leaves) (omega (arith, c.requires.nonempty, long)) (omega (arith, end.0, end.1, long)) (omega (arith, end.2, most_is))
    (omega (arith, c.if-parts-count.true, ap (λ rule. length (peaks_of rule n)) rule_is, c.count.ensures c.args.start c.in_ok-end.end n (omega (arith, end.0, c.requires.nonempty)) c.in-Ok.ensures))
