use Rattle.std.proofs.Common.{◌≤◌, arith, length, refl, ap, sym, subst}
use Rattle.merkle_base.specs.Places.{peaks_of}
use Rattle.merkle_base.specs.Root.{list_root}
use Rattle.merkle_base.specs.Scheme.{Scheme}
use Rattle.merkle_root_theory.specs.Range.{list_inputs}
use Rattle.merkle_claim_theory.specs.Multiproof.{AcceptsMulti, IsHonestMulti}
use Rattle.merkle_claim_theory.specs.Verdict.{multi_inputs}
use Rattle.merkle_proof.specs.Input.{multi_digest_input_of}
use Rattle.merkle_proof.proofs.HasherLaws.{sound}
use Rattle.merkle_audit_parts.proofs.Verdicts.{no_verdict, multi_no}
use Rattle.merkle_audit.proofs.multi.audit_multi_leaf_digests.Goals as goal

pub returns-then-branch-clause-judged : goal.returns-then-branch-clause-judged
returns-then-branch-clause-judged g c =
    let s = g.H.Hasher.scheme c.args.hasher.now in
    let is = g.met.H.Hasher.scheme_is c.args.hasher.now in
    let d = g.met.H.Digest.Digest in
    let kept = sound _ _ _ _ (g.met.H.Hasher.over_digest c.args.hasher.now) s (g.H.Hasher.bagging_of c.args.hasher.now) g.F.Family.rule
    g.F.Family.MAX_LEAVES g.F.Family.MAX_NODES g.F.Family.DOMAIN g.H.Digest.Digest.SIZE is d.eq_decides g.H.Digest.Digest.Spells d.nonempty
    d.bytes_spell d.one_length d.bytes_decide g.met.F.Family.lawful in
    let X = c.args.list.now in
    let k = c.args.inactive in
    let ok = c.in-Ok.ensures.ok in
    let few : length X ≤ s.max_leaves = omega (arith, ok.0, ok.1, ap (λ (z : Scheme g.row.H-Digest.Denot). z.max_leaves) is) in
    let low : k ≤ length (peaks_of s.rule (length X)) =
    subst (λ rule. k ≤ length (peaks_of rule (length X))) (sym (ap (λ (z : Scheme g.row.H-Digest.Denot). z.rule) is)) (subst (λ n. k ≤ length (peaks_of g.F.Family.rule n)) ok.0 ok.2) in
    let r = multi_digest_input_of c.args.proof.now c.args.digests.now in
    let no = λ (a : AcceptsMulti s r (list_root s X k)).
    c.in_ok-is_shape_refused.ensures c.if-branch.true s c.args.digests.now (list_root s X k)
    (ap (λ (z : Scheme g.row.H-Digest.Denot). z.rule) is) (ap (λ (z : Scheme g.row.H-Digest.Denot). z.max_leaves) is) refl a in
    no_verdict (AcceptsMulti s r (list_root s X k)) (IsHonestMulti s X k r) s.hashing (multi_inputs s r) (list_inputs s X k) _ refl (multi_no s _ _ kept X k few low r no)
