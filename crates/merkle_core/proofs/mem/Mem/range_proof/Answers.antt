use Rattle.std.proofs.Common.{◌≡◌, ℕ, length, arith, ap, sym, ◌∙◌, inl, inr, subst}
use Rattle.std.proofs.lemmas.Result.{IfErr-weaker, IfOk-weaker}
use Rattle.merkle_base.proofs.Nodes.{size_inj}
use Rattle.std.specs.FinMap.{get}
use Rattle.merkle_batch_theory.specs.MemModel.{contents}
use Rattle.merkle_batch.proofs.KeptReads.{only_memory}
use Rattle.merkle_core.proofs.HonestReads.{answered_kept}
use Rattle.merkle_proof.proofs.RefusedProofs.{is_memory, range_planned}
use Rattle.merkle_root_theory.specs.Range.{IsHonestRange}
use Rattle.merkle_proof.specs.RangePlans.{LeafRange, IsRefusal, IsBuildRefusal, IsBuiltProof, list_input}
use Rattle.merkle_core.proofs.mem.Mem.range_proof.Goals as goal

pub returns-in-Ok-clause-built : goal.returns-in-Ok-clause-built
returns-in-Ok-clause-built g c =
    let s = g.H.Hasher.scheme c.args.hasher.now in
    let leaves : c.leaves-leaves.result ≡ c.args.self.now.leaves = c.leaves-leaves.ensures.count in
    let plan : c.in-Ok.plan ≡ record { leaves = c.args.self.now.leaves; start = c.args.range.start; end = c.args.range.end } = c.in-Ok.ensures.ok
    ∙ ap (λ m. record { leaves = m; start = c.args.range.start; end = c.args.range.end }) leaves in
    let fits = c.in-Ok.ensures.within in
    IfOk-weaker c.build_proof.result _ _
    (λ p built. (
      fits.0,
      omega (arith, fits.1, leaves),
      subst (λ (r : LeafRange). IsBuiltProof s (get c.args.self.now.stored) c.args.inactive r p) plan built,
    )) c.build_proof.ensures.built

pub returns-in-Ok-clause-honest : goal.returns-in-Ok-clause-honest
returns-in-Ok-clause-honest g c = λ X agrees.
    let s = g.H.Hasher.scheme c.args.hasher.now in
    let leaves : c.leaves-leaves.result ≡ length X = size_inj g.F.Family.rule c.leaves-leaves.result (length X) (c.leaves-leaves.ensures.sized ∙ agrees.sized) in
    let plan : c.in-Ok.plan ≡ record { leaves = c.leaves-leaves.result; start = c.args.range.start; end = c.args.range.end } = c.in-Ok.ensures.ok in
    let fits = c.in-Ok.ensures.within in
    IfOk-weaker c.build_proof.result _ _ (λ p honest. (fits.0, omega (arith, fits.1, leaves), subst (λ (r : LeafRange). IsHonestRange s X c.args.inactive (list_input p X r.start r.end)) plan honest))
    (c.build_proof.ensures.honest X (sym leaves ∙ sym (ap (λ (r : LeafRange). r.leaves) plan)) agrees)

pub returns-in-Ok-clause-granted : goal.returns-in-Ok-clause-granted
returns-in-Ok-clause-granted g c = λ h X agrees low some less few.
    let leaves : c.leaves-leaves.result ≡ length X = size_inj g.F.Family.rule c.leaves-leaves.result (length X) (c.leaves-leaves.ensures.sized ∙ agrees.sized) in
    let plan : c.in-Ok.plan ≡ record { leaves = length X; start = c.args.range.start; end = c.args.range.end } = c.in-Ok.ensures.ok
    ∙ ap (λ m. record { leaves = m; start = c.args.range.start; end = c.args.range.end }) leaves in
    IfErr-weaker c.build_proof.result _ _
    (λ e refused. only_memory h g.F.Family.rule c.args.self.now.boundary (length X) agrees.bounded (get c.args.self.now.stored)
    (answered_kept h g.F.Family.rule (contents c.args.self.now) X agrees) (g.H.Hasher.bagging_of c.args.hasher.now) c.args.range.start
    c.args.range.end c.args.inactive low few e
    (λ other. subst (λ r. IsBuildRefusal (g.H.Hasher.bagging_of c.args.hasher.now) g.F.Family.rule r c.args.inactive
    (λ p o. o ≡ get c.args.self.now.stored p) e) plan (refused other))) c.build_proof.ensures.err

pub returns-in-Ok-clause-err : goal.returns-in-Ok-clause-err
returns-in-Ok-clause-err g c =
    let leaves : c.leaves-leaves.result ≡ c.args.self.now.leaves = c.leaves-leaves.ensures.count in
    let plan : c.in-Ok.plan ≡ record { leaves = c.args.self.now.leaves; start = c.args.range.start; end = c.args.range.end } = c.in-Ok.ensures.ok
    ∙ ap (λ m. record { leaves = m; start = c.args.range.start; end = c.args.range.end }) leaves in
    let fits = c.in-Ok.ensures.within in
    IfErr-weaker c.build_proof.result _ _
    (λ e refused other. inr (
      fits.0,
      omega (arith, fits.1, leaves),
      subst (λ r. IsBuildRefusal (g.H.Hasher.bagging_of c.args.hasher.now) g.F.Family.rule r c.args.inactive
          (λ p o. o ≡ get c.args.self.now.stored p) e) plan (refused other),
    )) c.build_proof.ensures.err

pub returns-in-Err-clause-granted : goal.returns-in-Err-clause-granted
returns-in-Err-clause-granted g c = λ h X agrees low some less few.
    let leaves : c.leaves-leaves.result ≡ length X = size_inj g.F.Family.rule c.leaves-leaves.result (length X) (c.leaves-leaves.ensures.sized ∙ agrees.sized) in
    elim (is_memory c.in-Err.error) [
      | inr is ↦ is
      | inl other ↦ absurd (range_planned g.F.Family.MAX_LEAVES c.leaves-leaves.result c.args.range.start c.args.range.end c.in-Err.error some
          (omega (arith, less, leaves)) c.leaves-leaves.ensures.bounded (c.in-Err.ensures.err other))
    ]

pub returns-in-Err-clause-err : goal.returns-in-Err-clause-err
returns-in-Err-clause-err g c = λ other.
    let leaves : c.leaves-leaves.result ≡ c.args.self.now.leaves = c.leaves-leaves.ensures.count in
    inl (subst (λ (m : ℕ). IsRefusal g.F.Family.MAX_LEAVES m c.args.range.start c.args.range.end c.in-Err.error) leaves (c.in-Err.ensures.err other))
