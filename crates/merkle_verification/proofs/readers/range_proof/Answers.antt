use Rattle.std.proofs.Common.{◌≡◌, ◌<◌, ◌≤◌, IfOk, arith, ap, length, subst, sym, take_all, ◌∙◌, inl, inr}
use Rattle.std.proofs.lemmas.Result.{IfErr-weaker, IfOk-weaker}
use Rattle.merkle_base.specs.Forest.{size}
use Rattle.merkle_base.specs.Places.{peaks_of}
use Rattle.merkle_base.proofs.Nodes.{size_inj}
use Rattle.merkle_scattered.specs.Positions.{range_positions}
use Rattle.merkle_proof.specs.RangePlans.{IsBuiltProof, list_input}
use Rattle.merkle_root_theory.specs.Range.{IsHonestRange}
use Rattle.merkle_root_theory.proofs.Grouping.{if_ok_both}
use Rattle.merkle_verification.specs.ReaderRefusals.{AreNodesHeld, IsSizeRefusal}
use Rattle.merkle_verification.proofs.HeldReads.{sized_held}
use Rattle.merkle_verification.proofs.readers.range_proof.Goals as goal

pub returns-in-Ok-clause-sized : goal.returns-in-Ok-clause-sized
returns-in-Ok-clause-sized g c =
    let rule = g.R.Family.Family.rule in
    IfOk-weaker c.historical_range_proof.result _ _ (λ p built. ap (size rule) built.leaves ∙ c.in-Ok.ensures.ok.0 ∙ c.size.ensures) c.historical_range_proof.ensures.built

pub returns-in-Ok-clause-within : goal.returns-in-Ok-clause-within
returns-in-Ok-clause-within g c =
    if_ok_both c.historical_range_proof.result
    (λ p built within. subst (λ n. (c.args.range.start < c.args.range.end) × (c.args.range.end ≤ n) × (n ≤ g.R.Family.Family.MAX_LEAVES)) (sym built.leaves) within)
    c.historical_range_proof.ensures.built c.historical_range_proof.ensures.within

pub returns-in-Ok-clause-built : goal.returns-in-Ok-clause-built
returns-in-Ok-clause-built g c =
    IfOk-weaker c.historical_range_proof.result _ _
    (λ p built. subst (λ n. IsBuiltProof (g.H.Hasher.scheme c.args.hasher.now) (g.R.Readable.node c.args.reader.now) c.args.inactive
    (record { leaves = n; start = c.args.range.start; end = c.args.range.end }) p) (sym built.leaves) built)
    c.historical_range_proof.ensures.built

pub returns-in-Ok-clause-honest : goal.returns-in-Ok-clause-honest
returns-in-Ok-clause-honest g c = λ X shows.
    let n = c.in-Ok.leaves in
    let long : n ≡ length X = size_inj g.R.Family.Family.rule n (length X) (c.in-Ok.ensures.ok.0 ∙ c.size.ensures ∙ shows.sized) in
    subst (λ xs. IfOk c.historical_range_proof.result
    (λ p. IsHonestRange (g.H.Hasher.scheme c.args.hasher.now) xs c.args.inactive (list_input p xs c.args.range.start c.args.range.end)))
    (take_all n X (omega (arith, long)))
    (c.historical_range_proof.ensures.honest X shows (omega (arith, long)))

pub returns-in-Ok-clause-held : goal.returns-in-Ok-clause-held
returns-in-Ok-clause-held g c = λ n at some less within few held.
    let rule = g.R.Family.Family.rule in
    let same : c.in-Ok.leaves ≡ n = size_inj rule c.in-Ok.leaves n (c.in-Ok.ensures.ok.0 ∙ c.size.ensures ∙ sym at) in
    c.historical_range_proof.ensures.held some (omega (arith, less, same)) (omega (arith, within, same))
    (subst (λ m. c.args.inactive ≤ length (peaks_of rule m)) (sym same) few)
    (subst (λ m. AreNodesHeld (g.R.Readable.node c.args.reader.now) (range_positions rule m c.args.range.start c.args.range.end)) (sym same) held)

pub returns-in-Ok-clause-err : goal.returns-in-Ok-clause-err
returns-in-Ok-clause-err g c =
    IfErr-weaker c.historical_range_proof.result _ _
    (λ e refused other. inr (
      c.in-Ok.leaves,
      omega (arith, c.in-Ok.ensures.ok.1, c.size.ensures),
      c.in-Ok.ensures.ok.0
          ∙ c.size.ensures,
      refused other,
    )) c.historical_range_proof.ensures.err

pub returns-in-Err-clause-held : goal.returns-in-Err-clause-held
returns-in-Err-clause-held g c = λ n at some less within few held.
    absurd (sized_held g.R.Family.Family.rule g.R.Family.Family.MAX_LEAVES g.R.Family.Family.MAX_NODES g.met.R.Family.Family.lawful n c.size.result
    within (at ∙ sym c.size.ensures) c.in-Err.error c.in-Err.ensures.err)

pub returns-in-Err-clause-err : goal.returns-in-Err-clause-err
returns-in-Err-clause-err g c = λ _. inl (subst (λ m. IsSizeRefusal g.R.Family.Family.rule g.R.Family.Family.MAX_NODES m c.in-Err.error) c.size.ensures c.in-Err.ensures.err)
