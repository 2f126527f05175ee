use Rattle.std.proofs.Common.{subst, IfOk}
use Rattle.merkle_proof.specs.Input.{digest_input_of}
use Rattle.merkle_claim_theory.specs.CheckAnswers.{DecidesPins}
use Rattle.merkle_range.proofs.RangeRoot.{same_digest_input}
use Rattle.merkle_proof.proofs.HasherLaws.{sound}
use Rattle.merkle_proof.proofs.Verdicts.{pins_exact, pins_names, pins_honest, pins_sound, pins_tell}
use Rattle.merkle_proof.proofs.proof.Proof.verify_leaf_digests_and_pinned_nodes.Goals as goal

pub returns-clause-exact : goal.returns-clause-exact
returns-clause-exact g c =
    let s = g.H.Hasher.scheme c.args.hasher.now in
    let r = digest_input_of c.args.self.now c.args.start c.args.digests.now in
    let cases = subst (λ r. IfOk c.verify_pinned_leaf_digests.result (DecidesPins s c.args.root.now r c.args.pinned_nodes.now))
    (same_digest_input c.args.start c.args.digests.now _ _ _ _ _ _ c.parts.ensures.leaves c.parts.ensures.inactive c.parts.ensures.digests)
    c.verify_pinned_leaf_digests.ensures in
    pins_exact s c.args.root.now c.verify_pinned_leaf_digests.result r c.args.pinned_nodes.now cases

pub returns-clause-names : goal.returns-clause-names
returns-clause-names g c =
    let s = g.H.Hasher.scheme c.args.hasher.now in
    let r = digest_input_of c.args.self.now c.args.start c.args.digests.now in
    let cases = subst (λ r. IfOk c.verify_pinned_leaf_digests.result (DecidesPins s c.args.root.now r c.args.pinned_nodes.now))
    (same_digest_input c.args.start c.args.digests.now _ _ _ _ _ _ c.parts.ensures.leaves c.parts.ensures.inactive c.parts.ensures.digests)
    c.verify_pinned_leaf_digests.ensures in
    pins_names s c.args.root.now c.verify_pinned_leaf_digests.result r c.args.pinned_nodes.now cases

pub returns-clause-honest : goal.returns-clause-honest
returns-clause-honest g c =
    let s = g.H.Hasher.scheme c.args.hasher.now in
    let r = digest_input_of c.args.self.now c.args.start c.args.digests.now in
    let cases = subst (λ r. IfOk c.verify_pinned_leaf_digests.result (DecidesPins s c.args.root.now r c.args.pinned_nodes.now))
    (same_digest_input c.args.start c.args.digests.now _ _ _ _ _ _ c.parts.ensures.leaves c.parts.ensures.inactive c.parts.ensures.digests)
    c.verify_pinned_leaf_digests.ensures in
    let d = g.met.D.Digest in
    let kept = sound _ _ _ _ (g.met.H.Hasher.over_digest c.args.hasher.now) s (g.H.Hasher.bagging_of c.args.hasher.now) g.F.Family.rule
    g.F.Family.MAX_LEAVES g.F.Family.MAX_NODES g.F.Family.DOMAIN g.D.Digest.SIZE (g.met.H.Hasher.scheme_is c.args.hasher.now) d.eq_decides
    g.D.Digest.Spells d.nonempty d.bytes_spell d.one_length d.bytes_decide g.met.F.Family.lawful in
    pins_honest s c.args.root.now c.verify_pinned_leaf_digests.result r c.args.pinned_nodes.now cases _ _ kept

pub returns-clause-sound : goal.returns-clause-sound
returns-clause-sound g c =
    let s = g.H.Hasher.scheme c.args.hasher.now in
    let r = digest_input_of c.args.self.now c.args.start c.args.digests.now in
    let cases = subst (λ r. IfOk c.verify_pinned_leaf_digests.result (DecidesPins s c.args.root.now r c.args.pinned_nodes.now))
    (same_digest_input c.args.start c.args.digests.now _ _ _ _ _ _ c.parts.ensures.leaves c.parts.ensures.inactive c.parts.ensures.digests)
    c.verify_pinned_leaf_digests.ensures in
    let d = g.met.D.Digest in
    let kept = sound _ _ _ _ (g.met.H.Hasher.over_digest c.args.hasher.now) s (g.H.Hasher.bagging_of c.args.hasher.now) g.F.Family.rule
    g.F.Family.MAX_LEAVES g.F.Family.MAX_NODES g.F.Family.DOMAIN g.D.Digest.SIZE (g.met.H.Hasher.scheme_is c.args.hasher.now) d.eq_decides
    g.D.Digest.Spells d.nonempty d.bytes_spell d.one_length d.bytes_decide g.met.F.Family.lawful in
    pins_sound s c.args.root.now c.verify_pinned_leaf_digests.result r c.args.pinned_nodes.now cases _ _ kept

pub returns-clause-old_root : goal.returns-clause-old_root
returns-clause-old_root g c =
    let s = g.H.Hasher.scheme c.args.hasher.now in
    let r = digest_input_of c.args.self.now c.args.start c.args.digests.now in
    let cases = subst (λ r. IfOk c.verify_pinned_leaf_digests.result (DecidesPins s c.args.root.now r c.args.pinned_nodes.now))
    (same_digest_input c.args.start c.args.digests.now _ _ _ _ _ _ c.parts.ensures.leaves c.parts.ensures.inactive c.parts.ensures.digests)
    c.verify_pinned_leaf_digests.ensures in
    let d = g.met.D.Digest in
    let kept = sound _ _ _ _ (g.met.H.Hasher.over_digest c.args.hasher.now) s (g.H.Hasher.bagging_of c.args.hasher.now) g.F.Family.rule
    g.F.Family.MAX_LEAVES g.F.Family.MAX_NODES g.F.Family.DOMAIN g.D.Digest.SIZE (g.met.H.Hasher.scheme_is c.args.hasher.now) d.eq_decides
    g.D.Digest.Spells d.nonempty d.bytes_spell d.one_length d.bytes_decide g.met.F.Family.lawful in
    pins_tell s c.args.root.now c.verify_pinned_leaf_digests.result r c.args.pinned_nodes.now cases _ _ kept
