use Rattle.std.proofs.Common.{IfOk, arith, ap, take, subst, inl, inr}
use Rattle.std.proofs.lemmas.Result.{IfErr-weaker, IfOk-weaker}
use Rattle.merkle_scattered.specs.Positions.{range_positions}
use Rattle.merkle_proof.specs.RangePlans.{LeafRange, IsBuiltProof, list_input}
use Rattle.merkle_proof.proofs.RefusedProofs.{is_memory, range_planned}
use Rattle.merkle_root_theory.specs.Range.{IsHonestRange}
use Rattle.merkle_verification.specs.ReaderRefusals.{IsReadRefusal}
use Rattle.merkle_verification.proofs.HeldReads.{read_held}
use Rattle.merkle_verification.proofs.readers.historical_range_proof.Goals as goal

pub returns-in-Ok-clause-within : goal.returns-in-Ok-clause-within
returns-in-Ok-clause-within g c = IfOk-weaker c.prove_plan.result _ _ (λ p _. c.in-Ok.ensures.within) c.prove_plan.ensures.built

pub returns-in-Ok-clause-built : goal.returns-in-Ok-clause-built
returns-in-Ok-clause-built g c =
    subst (λ (r : LeafRange). IfOk c.prove_plan.result
    (λ p. IsBuiltProof (g.H.Hasher.scheme c.args.hasher.now) (g.R.Readable.node c.args.reader.now) c.args.inactive r p)) c.in-Ok.ensures.ok c.prove_plan.ensures.built

pub returns-in-Ok-clause-honest : goal.returns-in-Ok-clause-honest
returns-in-Ok-clause-honest g c = λ X shows within.
    let plan = c.in-Ok.ensures.ok in
    subst (λ (r : LeafRange). IfOk c.prove_plan.result (λ p. IsHonestRange (g.H.Hasher.scheme c.args.hasher.now) (take r.leaves X) c.args.inactive (list_input p (take r.leaves X) r.start r.end))) plan
    (c.prove_plan.ensures.honest X shows (omega (arith, within, ap (λ (r : LeafRange). r.leaves) plan)))

pub returns-in-Ok-clause-held : goal.returns-in-Ok-clause-held
returns-in-Ok-clause-held g c = λ some less within few held.
    let rule = g.R.Family.Family.rule in let node = g.R.Readable.node c.args.reader.now in
    let ps = range_positions rule c.args.leaves c.args.range.start c.args.range.end in
    IfErr-weaker c.prove_plan.result _ _ (λ e refused. elim (is_memory e) [
      | inr is ↦ is
      | inl other ↦ absurd (read_held rule c.args.leaves c.args.inactive node ps few held e
          (subst (λ (r : LeafRange). IsReadRefusal rule r.leaves c.args.inactive node (range_positions rule r.leaves r.start r.end) e) c.in-Ok.ensures.ok (refused other)))
    ]) c.prove_plan.ensures.err

pub returns-in-Ok-clause-err : goal.returns-in-Ok-clause-err
returns-in-Ok-clause-err g c =
    let rule = g.R.Family.Family.rule in let node = g.R.Readable.node c.args.reader.now in
    let fits = c.in-Ok.ensures.within in
    IfErr-weaker c.prove_plan.result _ _ (λ e refused other. inr (
      fits.0,
      fits.1,
      fits.2,
      subst (λ (r : LeafRange). IsReadRefusal rule r.leaves c.args.inactive node (range_positions rule r.leaves r.start r.end) e) c.in-Ok.ensures.ok (refused other),
    )) c.prove_plan.ensures.err

pub returns-in-Err-clause-held : goal.returns-in-Err-clause-held
returns-in-Err-clause-held g c = λ some less within few held.
    elim (is_memory c.in-Err.error) [
      | inr is ↦ is
      | inl other ↦ absurd (range_planned g.R.Family.Family.MAX_LEAVES c.args.leaves c.args.range.start c.args.range.end c.in-Err.error some less within (c.in-Err.ensures.err other))
    ]

pub returns-in-Err-clause-err : goal.returns-in-Err-clause-err
returns-in-Err-clause-err g c = λ other. inl (c.in-Err.ensures.err other)
