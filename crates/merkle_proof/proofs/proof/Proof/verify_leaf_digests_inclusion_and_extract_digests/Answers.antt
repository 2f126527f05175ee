use Rattle.std.proofs.Common.{subst, IfOk, IfErr}
use Rattle.merkle_claim_theory.specs.CheckAnswers.{IsExtraction}
use Rattle.merkle_range.specs.Extracting.{RefusesExtraction}
use Rattle.merkle_range.proofs.RangeRoot.{same_digest_input}
use Rattle.merkle_proof.specs.Input.{digest_input_of}
use Rattle.merkle_proof.proofs.HasherLaws.{sound}
use Rattle.merkle_proof.proofs.Verdicts.{extraction_nodes}
use Rattle.merkle_proof.proofs.proof.Proof.verify_leaf_digests_inclusion_and_extract_digests.Goals as goal

pub returns-clause-ok : goal.returns-clause-ok
returns-clause-ok g c =
    let s = g.H.Hasher.scheme c.args.hasher.now in
    subst (λ r. IfOk c.verify_leaf_digests_and_extract.result (λ v. IsExtraction s c.args.root.now r v.items))
    (same_digest_input c.args.start c.args.digests.now _ _ _ _ _ _ c.parts.ensures.leaves c.parts.ensures.inactive c.parts.ensures.digests)
    c.verify_leaf_digests_and_extract.ensures.ok

pub returns-clause-err : goal.returns-clause-err
returns-clause-err g c =
    let s = g.H.Hasher.scheme c.args.hasher.now in
    subst (λ r. IfErr c.verify_leaf_digests_and_extract.result (RefusesExtraction s r c.args.root.now))
    (same_digest_input c.args.start c.args.digests.now _ _ _ _ _ _ c.parts.ensures.leaves c.parts.ensures.inactive c.parts.ensures.digests)
    c.verify_leaf_digests_and_extract.ensures.err

pub returns-clause-nodes : goal.returns-clause-nodes
returns-clause-nodes g c =
    let s = g.H.Hasher.scheme c.args.hasher.now in
    let d = g.met.D.Digest in
    let kept = sound _ _ _ _ (g.met.H.Hasher.over_digest c.args.hasher.now) s (g.H.Hasher.bagging_of c.args.hasher.now) g.F.Family.rule
    g.F.Family.MAX_LEAVES g.F.Family.MAX_NODES g.F.Family.DOMAIN g.D.Digest.SIZE (g.met.H.Hasher.scheme_is c.args.hasher.now) d.eq_decides
    g.D.Digest.Spells d.nonempty d.bytes_spell d.one_length d.bytes_decide g.met.F.Family.lawful in
    extraction_nodes s _ _ kept c.args.root.now (digest_input_of c.args.self.now c.args.start c.args.digests.now) (λ v. v.items) c.verify_leaf_digests_and_extract.result (returns-clause-ok g c)
