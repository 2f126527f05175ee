use Rattle.std.proofs.Common.{◌≡◌, ◌≤◌, arith, ap, length, subst, sym, ◌∙◌, inl, inr}
use Rattle.std.proofs.lemmas.Result.{IfErr-weaker, IfOk-weaker}
use Rattle.merkle_base.specs.Forest.{size}
use Rattle.merkle_base.specs.Places.{peaks_of}
use Rattle.merkle_base.proofs.Nodes.{size_inj}
use Rattle.merkle_claim_theory.specs.Multiproof.{multi_positions}
use Rattle.merkle_scattered.specs.MultiPositions.{AreLocations}
use Rattle.merkle_proof.proofs.RefusedProofs.{is_memory}
use Rattle.merkle_verification.specs.ReaderProofs.{IsBuiltMulti}
use Rattle.merkle_verification.specs.ReaderRefusals.{AreNodesHeld, IsSizeRefusal}
use Rattle.merkle_verification.proofs.HeldReads.{locations_held, sized_held}
use Rattle.merkle_verification.proofs.MultiReads.{honest_multi}
use Rattle.merkle_verification.proofs.readers.multi_proof.Goals as goal

pub returns-in-Ok-clause-sized : goal.returns-in-Ok-clause-sized
returns-in-Ok-clause-sized g c =
    IfOk-weaker c.prove_locations.result _ _ (λ p built. ap (size g.R.Family.Family.rule) built.leaves ∙ c.in-Ok.ensures.ok.0 ∙ c.size.ensures) c.prove_locations.ensures.built

pub returns-in-Ok-clause-built : goal.returns-in-Ok-clause-built
returns-in-Ok-clause-built g c =
    IfOk-weaker c.prove_locations.result _ _
    (λ p built. subst (λ n. IsBuiltMulti g.R.Family.Family.rule g.R.Family.Family.MAX_LEAVES (g.R.Readable.node c.args.reader.now) c.args.inactive n c.args.locations.now p) (sym built.leaves) built)
    c.prove_locations.ensures.built

pub returns-in-Ok-clause-honest : goal.returns-in-Ok-clause-honest
returns-in-Ok-clause-honest g c = λ s same X shows.
    let n = c.in-Ok.leaves in let node = g.R.Readable.node c.args.reader.now in
    let sized : size s.rule n ≡ g.R.Readable.size c.args.reader.now = ap (λ rule. size rule n) same ∙ c.in-Ok.ensures.ok.0 ∙ c.size.ensures in
    IfOk-weaker c.prove_locations.result _ _
    (λ p built. honest_multi s (g.R.Readable.size c.args.reader.now) node X shows g.R.Family.Family.MAX_LEAVES c.args.inactive n c.args.locations.now p sized
    (subst (λ rule. IsBuiltMulti rule g.R.Family.Family.MAX_LEAVES node c.args.inactive n c.args.locations.now p) (sym same) built))
    c.prove_locations.ensures.built

pub returns-in-Ok-clause-held : goal.returns-in-Ok-clause-held
returns-in-Ok-clause-held g c = λ n at within few held.
    let rule = g.R.Family.Family.rule in let m = c.in-Ok.leaves in
    let same : n ≡ m = size_inj rule n m (at ∙ sym (c.in-Ok.ensures.ok.0 ∙ c.size.ensures)) in
    IfErr-weaker c.prove_locations.result _ _ (λ e refused. elim (is_memory e) [
      | inr is ↦ is
      | inl other ↦ absurd (locations_held rule g.R.Family.Family.MAX_LEAVES m c.args.inactive c.args.locations.now (g.R.Readable.node c.args.reader.now)
          (subst (λ l. AreLocations g.R.Family.Family.MAX_LEAVES l c.args.locations.now) same within) (subst (λ l. c.args.inactive ≤ length (peaks_of rule l)) same few)
          (subst (λ l. AreNodesHeld (g.R.Readable.node c.args.reader.now) (multi_positions rule l c.args.locations.now)) same held) e (refused other))
    ]) c.prove_locations.ensures.err

pub returns-in-Ok-clause-err : goal.returns-in-Ok-clause-err
returns-in-Ok-clause-err g c =
    IfErr-weaker c.prove_locations.result _ _
    (λ e refused other. inr (
      c.in-Ok.leaves,
      omega (arith, c.in-Ok.ensures.ok.1, c.size.ensures),
      c.in-Ok.ensures.ok.0
          ∙ c.size.ensures,
      refused other,
    )) c.prove_locations.ensures.err

pub returns-in-Err-clause-held : goal.returns-in-Err-clause-held
returns-in-Err-clause-held g c = λ n at within few held.
    absurd (sized_held g.R.Family.Family.rule g.R.Family.Family.MAX_LEAVES g.R.Family.Family.MAX_NODES g.met.R.Family.Family.lawful n c.size.result
    within.leaves (at ∙ sym c.size.ensures) c.in-Err.error c.in-Err.ensures.err)

pub returns-in-Err-clause-err : goal.returns-in-Err-clause-err
returns-in-Err-clause-err g c = λ _. inl (subst (λ m. IsSizeRefusal g.R.Family.Family.rule g.R.Family.Family.MAX_NODES m c.in-Err.error) c.size.ensures c.in-Err.ensures.err)
