use Rattle.std.proofs.Common.{subst, IfOk}
use Rattle.merkle_hasher.specs.LeafDigests.{bytes_of, leaf_digests}
use Rattle.merkle_proof.specs.Input.{input_of}
use Rattle.merkle_claim_theory.specs.CheckAnswers.{IsExactForRange}
use Rattle.merkle_range.proofs.RangeRoot.{same_digest_input}
use Rattle.merkle_proof.proofs.HasherLaws.{sound}
use Rattle.merkle_proof.proofs.Verdicts.{range_names, range_honest, range_sound}
use Rattle.merkle_proof.proofs.proof.Proof.verify_range_inclusion.Goals as goal

pub returns-clause-exact : goal.returns-clause-exact
returns-clause-exact g c =
    let s = g.H.Hasher.scheme c.args.hasher.now in
    subst (λ r. IfOk c.verify_range.result (IsExactForRange s c.args.root.now r))
    (same_digest_input c.args.start (leaf_digests s.hashing s.rule c.args.start (bytes_of c.args.elements.now)) _ _ _ _ _ _ c.parts.ensures.leaves
    c.parts.ensures.inactive c.parts.ensures.digests) c.verify_range.ensures

pub returns-clause-names : goal.returns-clause-names
returns-clause-names g c =
    let s = g.H.Hasher.scheme c.args.hasher.now in
    let r = input_of s c.args.self.now c.args.start (bytes_of c.args.elements.now) in
    range_names s c.args.root.now c.verify_range.result r (returns-clause-exact g c)

pub returns-clause-honest : goal.returns-clause-honest
returns-clause-honest g c =
    let s = g.H.Hasher.scheme c.args.hasher.now in
    let r = input_of s c.args.self.now c.args.start (bytes_of c.args.elements.now) in
    let d = g.met.D.Digest in
    let kept = sound _ _ _ _ (g.met.H.Hasher.over_digest c.args.hasher.now) s (g.H.Hasher.bagging_of c.args.hasher.now) g.F.Family.rule
    g.F.Family.MAX_LEAVES g.F.Family.MAX_NODES g.F.Family.DOMAIN g.D.Digest.SIZE (g.met.H.Hasher.scheme_is c.args.hasher.now) d.eq_decides
    g.D.Digest.Spells d.nonempty d.bytes_spell d.one_length d.bytes_decide g.met.F.Family.lawful in
    range_honest s c.args.root.now c.verify_range.result r (returns-clause-exact g c) _ _ kept

pub returns-clause-sound : goal.returns-clause-sound
returns-clause-sound g c =
    let s = g.H.Hasher.scheme c.args.hasher.now in
    let r = input_of s c.args.self.now c.args.start (bytes_of c.args.elements.now) in
    let d = g.met.D.Digest in
    let kept = sound _ _ _ _ (g.met.H.Hasher.over_digest c.args.hasher.now) s (g.H.Hasher.bagging_of c.args.hasher.now) g.F.Family.rule
    g.F.Family.MAX_LEAVES g.F.Family.MAX_NODES g.F.Family.DOMAIN g.D.Digest.SIZE (g.met.H.Hasher.scheme_is c.args.hasher.now) d.eq_decides
    g.D.Digest.Spells d.nonempty d.bytes_spell d.one_length d.bytes_decide g.met.F.Family.lawful in
    range_sound s c.args.root.now c.verify_range.result r (returns-clause-exact g c) _ _ kept
