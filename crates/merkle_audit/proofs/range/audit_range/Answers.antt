use Rattle.std.proofs.Common.{IfOk, ap₂, ◌≢◌, ◌≡◌, ◌≤◌, arith, length, refl, ap, sym, subst, ◌∙◌, Ok}
use Rattle.merkle_base.specs.Places.{peaks_of}
use Rattle.merkle_base.specs.Root.{list_root}
use Rattle.merkle_base.specs.Scheme.{Scheme}
use Rattle.merkle_root_theory.specs.Check.{range_inputs}
use Rattle.merkle_root_theory.specs.Range.{IsHonestRange, list_inputs}
use Rattle.merkle_root_theory.specs.Reconstruction.{reconstructed}
use Rattle.merkle_hasher.specs.LeafDigests.{bytes_of, leaf_digests}
use Rattle.merkle_proof.specs.Input.{digest_input_of, input_of}
use Rattle.merkle_proof.proofs.HasherLaws.{sound}
use Rattle.merkle_audit_parts.specs.Found.{IsRangeVerdict}
use Rattle.merkle_audit_parts.proofs.Verdicts.{at_none, at_some, no_verdict, range_no}
use Rattle.merkle_audit.proofs.range.audit_range.Goals as goal

pub returns-in_default-clause-judged : goal.returns-in_default-clause-judged
returns-in_default-clause-judged g c =
    let s = g.H.Hasher.scheme c.args.hasher.now in
    let is = g.met.H.Hasher.scheme_is c.args.hasher.now in
    let d = g.met.H.Digest.Digest in
    let kept = sound _ _ _ _ (g.met.H.Hasher.over_digest c.args.hasher.now) s (g.H.Hasher.bagging_of c.args.hasher.now) g.F.Family.rule
    g.F.Family.MAX_LEAVES g.F.Family.MAX_NODES g.F.Family.DOMAIN g.H.Digest.Digest.SIZE is d.eq_decides g.H.Digest.Digest.Spells d.nonempty
    d.bytes_spell d.one_length d.bytes_decide g.met.F.Family.lawful in
    let X = c.args.list.now in
    let k = c.args.inactive in
    let ok = c.in-Ok.ensures.ok in
    let few : length X ≤ s.max_leaves = omega (arith, ok.0, ok.1, ap (λ (z : Scheme g.row.H-Digest.Denot). z.max_leaves) is) in
    let low : k ≤ length (peaks_of s.rule (length X)) =
    subst (λ rule. k ≤ length (peaks_of rule (length X))) (sym (ap (λ (z : Scheme g.row.H-Digest.Denot). z.rule) is)) (subst (λ n. k ≤ length (peaks_of g.F.Family.rule n)) ok.0 ok.2) in
    let r = input_of s c.args.proof.now c.args.start (bytes_of c.args.elements.now) in
    let no = at_none c.in_ok-digests.field-0 ((e : g.row.H-Digest.Denot) → reconstructed s r ≢ Ok e) c.in_default.is c.in_ok-digests.ensures.none (list_root s X k) in
    no_verdict (reconstructed s r ≡ Ok (list_root s X k)) (IsHonestRange s X k r) s.hashing (range_inputs s r) (list_inputs s X k) _ refl (range_no s _ _ kept X k few low r no)

pub returns-clause-judged : goal.returns-clause-judged
returns-clause-judged g c =
    let s = g.H.Hasher.scheme c.args.hasher.now in
    let is = g.met.H.Hasher.scheme_is c.args.hasher.now in
    let es = c.args.elements.now in
    let leaves_are : c.deref.result.now ≡ leaf_digests s.hashing s.rule c.args.start (bytes_of es) =
    c.deref.ensures.value ∙ at_some c.in_ok-digests.field-0 (λ v. v.items ≡ leaf_digests (g.H.Hasher.hashing c.args.hasher.now) g.F.Family.rule c.args.start (bytes_of es))
    c.in-Some.digests c.in-Some.is c.in_ok-digests.ensures.some ∙ ap₂ (λ h rule. leaf_digests h rule c.args.start (bytes_of es))
    (sym (ap (λ (z : Scheme g.row.H-Digest.Denot). z.hashing) is)) (sym (ap (λ (z : Scheme g.row.H-Digest.Denot). z.rule) is)) in
    subst (λ ls. IfOk c.judge.result (IsRangeVerdict s c.args.list.now c.args.inactive (digest_input_of c.args.proof.now c.args.start ls)))
    leaves_are c.judge.ensures.judged
