use Rattle.std.proofs.Common.{◌≡◌, ◌+◌, ◌<◌, ◌≤◌, length, arith, ap, sym, ◌∙◌, refl, inl, inr, subst}
use Rattle.std.proofs.lemmas.Bool.{false≢true}
use Rattle.std.proofs.lemmas.Result.{IfErr-weaker, IfOk-weaker}
use Rattle.merkle_base.proofs.Nodes.{size_inj}
use Rattle.merkle_base.proofs.Limits.{lawful_leaves}
use Rattle.std.specs.FinMap.{get}
use Rattle.merkle_batch_theory.specs.MemModel.{contents}
use Rattle.merkle_batch.proofs.KeptReads.{only_memory}
use Rattle.merkle_core.proofs.HonestReads.{answered_kept}
use Rattle.merkle_proof.proofs.FewDigests.{built_few}
use Rattle.merkle_proof.proofs.RefusedProofs.{is_memory, range_planned}
use Rattle.merkle_root_theory.specs.Range.{IsHonestRange}
use Rattle.merkle_proof.specs.RangePlans.{LeafRange, IsBuildRefusal, IsBuiltProof, list_input}
use Rattle.merkle_hasher.proofs.Comparisons.{ge_yes, ge_no}
use Rattle.merkle_core.proofs.mem.Mem.proof.Goals as goal

pub returns-then-not-is_valid_index-clause-granted : goal.returns-then-not-is_valid_index-clause-granted
returns-then-not-is_valid_index-clause-granted g c = λ h X agrees low less few.
    let leaves : c.leaves-leaves.result ≡ length X = size_inj g.F.Family.rule c.leaves-leaves.result (length X) (c.leaves-leaves.ensures.sized ∙ agrees.sized) in
    absurd (false≢true (c.if-not-is_valid_index.ensures.1 (omega (arith, leaves, less, c.leaves-leaves.ensures.bounded))))

pub returns-then-ge-clause-granted : goal.returns-then-ge-clause-granted
returns-then-ge-clause-granted g c = λ h X agrees low less few.
    let leaves : c.leaves-leaves.result ≡ length X = size_inj g.F.Family.rule c.leaves-leaves.result (length X) (c.leaves-leaves.ensures.sized ∙ agrees.sized) in
    let past : c.leaves-leaves.result ≤ c.args.location = ge_yes c.args.location c.leaves-leaves.result (sym c.ge.ensures ∙ c.if-ge.true) in
    absurd (omega (arith, leaves, past, less))

pub returns-then-ge-clause-err : goal.returns-then-ge-clause-err
returns-then-ge-clause-err g c = λ _.
    let leaves : c.leaves-leaves.result ≡ c.args.self.now.leaves = c.leaves-leaves.ensures.count in
    let past : c.leaves-leaves.result ≤ c.args.location = ge_yes c.args.location c.leaves-leaves.result (sym c.ge.ensures ∙ c.if-ge.true) in
    inr (inl (c.if-not-is_valid_index.ensures.0 refl, omega (arith, leaves, past), refl))

pub add-requires : goal.add-requires
add-requires g c =
    let below : c.args.location < c.leaves-leaves.result = ge_no c.args.location c.leaves-leaves.result (sym c.ge.ensures ∙ c.if-ge.false) in
    omega (arith, below, c.leaves-leaves.ensures.bounded, lawful_leaves g.F.Family.rule g.F.Family.MAX_LEAVES g.F.Family.MAX_NODES g.met.F.Family.lawful)

pub returns-in-Ok-clause-built : goal.returns-in-Ok-clause-built
returns-in-Ok-clause-built g c =
    let s = g.H.Hasher.scheme c.args.hasher.now in
    let below : c.args.location < c.leaves-leaves.result = ge_no c.args.location c.leaves-leaves.result (sym c.ge.ensures ∙ c.if-ge.false) in
    let leaves : c.leaves-leaves.result ≡ c.args.self.now.leaves = c.leaves-leaves.ensures.count in
    let plan : c.in-Ok.plan ≡ record { leaves = c.args.self.now.leaves; start = c.args.location; end = c.args.location + 1 } =
    c.in-Ok.ensures.ok ∙ ap (λ e. record { leaves = c.leaves-leaves.result; start = c.args.location; end = e }) c.add.ensures
    ∙ ap (λ m. record { leaves = m; start = c.args.location; end = c.args.location + 1 }) leaves in
    IfOk-weaker c.build_proof.result _ _
    (λ p built. (
      omega (arith, below, leaves),
      subst (λ (r : LeafRange). IsBuiltProof s (get c.args.self.now.stored) c.args.inactive r p) plan built,
    )) c.build_proof.ensures.built

pub returns-in-Ok-clause-honest : goal.returns-in-Ok-clause-honest
returns-in-Ok-clause-honest g c = λ X agrees.
    let h = g.H.Hasher.hashing c.args.hasher.now in
    let s = g.H.Hasher.scheme c.args.hasher.now in
    let below : c.args.location < c.leaves-leaves.result = ge_no c.args.location c.leaves-leaves.result (sym c.ge.ensures ∙ c.if-ge.false) in
    let leaves : c.leaves-leaves.result ≡ length X = size_inj g.F.Family.rule c.leaves-leaves.result (length X) (c.leaves-leaves.ensures.sized ∙ agrees.sized) in
    let plan : c.in-Ok.plan ≡ record { leaves = c.leaves-leaves.result; start = c.args.location; end = c.args.location + 1 } = c.in-Ok.ensures.ok
    ∙ ap (λ e. record { leaves = c.leaves-leaves.result; start = c.args.location; end = e }) c.add.ensures in
    IfOk-weaker c.build_proof.result _ _ (λ p honest. (omega (arith, below, leaves), subst (λ (r : LeafRange). IsHonestRange s X c.args.inactive (list_input p X r.start r.end)) plan honest))
    (c.build_proof.ensures.honest X (sym leaves ∙ sym (ap (λ (r : LeafRange). r.leaves) plan)) agrees)

pub returns-in-Ok-clause-granted : goal.returns-in-Ok-clause-granted
returns-in-Ok-clause-granted g c = λ h X agrees low less few.
    let leaves : c.leaves-leaves.result ≡ length X = size_inj g.F.Family.rule c.leaves-leaves.result (length X) (c.leaves-leaves.ensures.sized ∙ agrees.sized) in
    let plan : c.in-Ok.plan ≡ record { leaves = length X; start = c.args.location; end = c.args.location + 1 } =
    c.in-Ok.ensures.ok ∙ ap (λ e. record { leaves = c.leaves-leaves.result; start = c.args.location; end = e }) c.add.ensures
    ∙ ap (λ m. record { leaves = m; start = c.args.location; end = c.args.location + 1 }) leaves in
    IfErr-weaker c.build_proof.result _ _
    (λ e refused. only_memory h g.F.Family.rule c.args.self.now.boundary (length X) agrees.bounded (get c.args.self.now.stored)
    (answered_kept h g.F.Family.rule (contents c.args.self.now) X agrees) (g.H.Hasher.bagging_of c.args.hasher.now) c.args.location
    (c.args.location + 1) c.args.inactive low few e
    (λ other. subst (λ r. IsBuildRefusal (g.H.Hasher.bagging_of c.args.hasher.now) g.F.Family.rule r c.args.inactive
    (λ p o. o ≡ get c.args.self.now.stored p) e) plan (refused other))) c.build_proof.ensures.err

pub returns-in-Ok-clause-at_most_122 : goal.returns-in-Ok-clause-at_most_122
returns-in-Ok-clause-at_most_122 g c = λ few.
    let s = g.H.Hasher.scheme c.args.hasher.now in
    let below : c.args.location < c.leaves-leaves.result = ge_no c.args.location c.leaves-leaves.result (sym c.ge.ensures ∙ c.if-ge.false) in
    let plan : c.in-Ok.plan ≡ record { leaves = c.leaves-leaves.result; start = c.args.location; end = c.args.location + 1 } = c.in-Ok.ensures.ok
    ∙ ap (λ e. record { leaves = c.leaves-leaves.result; start = c.args.location; end = e }) c.add.ensures in
    IfOk-weaker c.build_proof.result _ _
    (λ p built. built_few s g.F.Family.rule g.F.Family.MAX_LEAVES g.F.Family.MAX_NODES (ap (λ z. z.rule) (g.met.H.Hasher.scheme_is c.args.hasher.now))
    g.met.F.Family.lawful few (get c.args.self.now.stored) c.args.inactive c.leaves-leaves.result c.args.location p
    c.leaves-leaves.ensures.bounded below (subst (λ (r : LeafRange). IsBuiltProof s (get c.args.self.now.stored) c.args.inactive r p) plan built)) c.build_proof.ensures.built

pub returns-in-Ok-clause-err : goal.returns-in-Ok-clause-err
returns-in-Ok-clause-err g c =
    let below : c.args.location < c.leaves-leaves.result = ge_no c.args.location c.leaves-leaves.result (sym c.ge.ensures ∙ c.if-ge.false) in
    let leaves : c.leaves-leaves.result ≡ c.args.self.now.leaves = c.leaves-leaves.ensures.count in
    let plan : c.in-Ok.plan ≡ record { leaves = c.args.self.now.leaves; start = c.args.location; end = c.args.location + 1 } =
    c.in-Ok.ensures.ok ∙ ap (λ e. record { leaves = c.leaves-leaves.result; start = c.args.location; end = e }) c.add.ensures
    ∙ ap (λ m. record { leaves = m; start = c.args.location; end = c.args.location + 1 }) leaves in
    IfErr-weaker c.build_proof.result _ _
    (λ e refused other. inr (inr (
      omega (arith, below, leaves),
      subst (λ r. IsBuildRefusal (g.H.Hasher.bagging_of c.args.hasher.now) g.F.Family.rule r c.args.inactive
          (λ p o. o ≡ get c.args.self.now.stored p) e) plan (refused other),
    ))) c.build_proof.ensures.err

pub returns-in-Err-clause-granted : goal.returns-in-Err-clause-granted
returns-in-Err-clause-granted g c = λ h X agrees low less few.
    let below : c.args.location < c.leaves-leaves.result = ge_no c.args.location c.leaves-leaves.result (sym c.ge.ensures ∙ c.if-ge.false) in
    elim (is_memory c.in-Err.error) [
      | inr is ↦ is
      | inl other ↦ absurd (range_planned g.F.Family.MAX_LEAVES c.leaves-leaves.result c.args.location c.add.result c.in-Err.error
          (omega (arith, c.add.ensures)) (omega (arith, below, c.add.ensures)) c.leaves-leaves.ensures.bounded (c.in-Err.ensures.err other))
    ]

pub returns-in-Err-clause-err : goal.returns-in-Err-clause-err
returns-in-Err-clause-err g c = λ other.
    let below : c.args.location < c.leaves-leaves.result = ge_no c.args.location c.leaves-leaves.result (sym c.ge.ensures ∙ c.if-ge.false) in
    absurd (range_planned g.F.Family.MAX_LEAVES c.leaves-leaves.result c.args.location c.add.result c.in-Err.error (omega (arith, c.add.ensures))
    (omega (arith, below, c.add.ensures)) c.leaves-leaves.ensures.bounded (c.in-Err.ensures.err other))
