use Rattle.std.proofs.Common.{◌↔◌, subst, IfOk, IsTrue}
use Rattle.merkle_proof.specs.Input.{element_leaves, multi_input_of}
use Rattle.merkle_claim_theory.specs.Multiproof.{AcceptsMultiCases}
use Rattle.merkle_proof.proofs.HasherLaws.{sound}
use Rattle.merkle_proof.proofs.ScatteredRoot.{same_located_input}
use Rattle.merkle_proof.proofs.Verdicts.{multi_exact, multi_names, multi_honest, multi_sound}
use Rattle.merkle_proof.proofs.proof.Proof.verify_multi_inclusion.Goals as goal

pub returns-clause-exact : goal.returns-clause-exact
returns-clause-exact g c =
    let s = g.H.Hasher.scheme c.args.hasher.now in
    let r = multi_input_of s c.args.self.now c.args.elements.now in
    let cases = subst (λ r. IfOk c.verify_multi.result (λ yes. IsTrue yes ↔ AcceptsMultiCases s r c.args.root.now))
    (same_located_input (element_leaves s.hashing s.rule c.args.elements.now) _ _ _ _ _ _ c.parts.ensures.leaves c.parts.ensures.inactive
    c.parts.ensures.digests) c.verify_multi.ensures in
    multi_exact s c.args.root.now c.verify_multi.result r cases

pub returns-clause-names : goal.returns-clause-names
returns-clause-names g c =
    let s = g.H.Hasher.scheme c.args.hasher.now in
    let r = multi_input_of s c.args.self.now c.args.elements.now in
    let cases = subst (λ r. IfOk c.verify_multi.result (λ yes. IsTrue yes ↔ AcceptsMultiCases s r c.args.root.now))
    (same_located_input (element_leaves s.hashing s.rule c.args.elements.now) _ _ _ _ _ _ c.parts.ensures.leaves c.parts.ensures.inactive
    c.parts.ensures.digests) c.verify_multi.ensures in
    multi_names s c.args.root.now c.verify_multi.result r cases

pub returns-clause-honest : goal.returns-clause-honest
returns-clause-honest g c =
    let s = g.H.Hasher.scheme c.args.hasher.now in
    let r = multi_input_of s c.args.self.now c.args.elements.now in
    let cases = subst (λ r. IfOk c.verify_multi.result (λ yes. IsTrue yes ↔ AcceptsMultiCases s r c.args.root.now))
    (same_located_input (element_leaves s.hashing s.rule c.args.elements.now) _ _ _ _ _ _ c.parts.ensures.leaves c.parts.ensures.inactive
    c.parts.ensures.digests) c.verify_multi.ensures in
    let d = g.met.D.Digest in
    let kept = sound _ _ _ _ (g.met.H.Hasher.over_digest c.args.hasher.now) s (g.H.Hasher.bagging_of c.args.hasher.now) g.F.Family.rule
    g.F.Family.MAX_LEAVES g.F.Family.MAX_NODES g.F.Family.DOMAIN g.D.Digest.SIZE (g.met.H.Hasher.scheme_is c.args.hasher.now) d.eq_decides
    g.D.Digest.Spells d.nonempty d.bytes_spell d.one_length d.bytes_decide g.met.F.Family.lawful in
    multi_honest s c.args.root.now c.verify_multi.result r cases _ _ kept

pub returns-clause-sound : goal.returns-clause-sound
returns-clause-sound g c =
    let s = g.H.Hasher.scheme c.args.hasher.now in
    let r = multi_input_of s c.args.self.now c.args.elements.now in
    let cases = subst (λ r. IfOk c.verify_multi.result (λ yes. IsTrue yes ↔ AcceptsMultiCases s r c.args.root.now))
    (same_located_input (element_leaves s.hashing s.rule c.args.elements.now) _ _ _ _ _ _ c.parts.ensures.leaves c.parts.ensures.inactive
    c.parts.ensures.digests) c.verify_multi.ensures in
    let d = g.met.D.Digest in
    let kept = sound _ _ _ _ (g.met.H.Hasher.over_digest c.args.hasher.now) s (g.H.Hasher.bagging_of c.args.hasher.now) g.F.Family.rule
    g.F.Family.MAX_LEAVES g.F.Family.MAX_NODES g.F.Family.DOMAIN g.D.Digest.SIZE (g.met.H.Hasher.scheme_is c.args.hasher.now) d.eq_decides
    g.D.Digest.Spells d.nonempty d.bytes_spell d.one_length d.bytes_decide g.met.F.Family.lawful in
    multi_sound s c.args.root.now c.verify_multi.result r cases _ _ kept
