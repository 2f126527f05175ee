use Rattle.std.proofs.Common.{IfOk, ap₂, ◌≡◌, ◌≤◌, arith, length, refl, ap, sym, subst, ◌∙◌}
use Rattle.std.specs.List.{AllByRecursion}
use Rattle.merkle_base.specs.Places.{peaks_of}
use Rattle.merkle_base.specs.Root.{list_root}
use Rattle.merkle_base.specs.Scheme.{Scheme}
use Rattle.merkle_root_theory.specs.Range.{list_inputs}
use Rattle.merkle_claim_theory.specs.Multiproof.{AcceptsMulti, IsHonestMulti}
use Rattle.merkle_claim_theory.specs.Verdict.{multi_inputs}
use Rattle.merkle_proof.specs.Input.{digested, multi_digest_input_of, multi_input_of}
use Rattle.merkle_proof.proofs.HasherLaws.{sound}
use Rattle.merkle_audit_parts.specs.Found.{IsMultiVerdict}
use Rattle.merkle_audit_parts.proofs.GivenElements.{digested_locations, within_leaves}
use Rattle.merkle_audit_parts.proofs.Verdicts.{at_none, at_some, no_verdict, multi_no}
use Rattle.merkle_audit.proofs.multi.audit_multi.Goals as goal

pub returns-then-branch-clause-judged : goal.returns-then-branch-clause-judged
returns-then-branch-clause-judged g c =
    let s = g.H.Hasher.scheme c.args.hasher.now in
    let is = g.met.H.Hasher.scheme_is c.args.hasher.now in
    let d = g.met.H.Digest.Digest in
    let kept = sound _ _ _ _ (g.met.H.Hasher.over_digest c.args.hasher.now) s (g.H.Hasher.bagging_of c.args.hasher.now) g.F.Family.rule
    g.F.Family.MAX_LEAVES g.F.Family.MAX_NODES g.F.Family.DOMAIN g.H.Digest.Digest.SIZE is d.eq_decides g.H.Digest.Digest.Spells d.nonempty
    d.bytes_spell d.one_length d.bytes_decide g.met.F.Family.lawful in
    let X = c.args.list.now in
    let k = c.args.inactive in
    let ok = c.in-Ok.ensures.ok in
    let few : length X ≤ s.max_leaves = omega (arith, ok.0, ok.1, ap (λ (z : Scheme g.row.H-Digest.Denot). z.max_leaves) is) in
    let low : k ≤ length (peaks_of s.rule (length X)) =
    subst (λ rule. k ≤ length (peaks_of rule (length X))) (sym (ap (λ (z : Scheme g.row.H-Digest.Denot). z.rule) is)) (subst (λ n. k ≤ length (peaks_of g.F.Family.rule n)) ok.0 ok.2) in
    let r = multi_input_of s c.args.proof.now c.args.elements.now in
    let no = λ (a : AcceptsMulti s r (list_root s X k)).
    c.in_ok-is_shape_refused.ensures c.if-branch.true s (digested s.hashing s.rule c.args.elements.now) (list_root s X k)
    (ap (λ (z : Scheme g.row.H-Digest.Denot). z.rule) is) (ap (λ (z : Scheme g.row.H-Digest.Denot). z.max_leaves) is)
    (digested_locations s.hashing s.rule c.args.elements.now) a in
    no_verdict (AcceptsMulti s r (list_root s X k)) (IsHonestMulti s X k r) s.hashing (multi_inputs s r) (list_inputs s X k) _ refl (multi_no s _ _ kept X k few low r no)

pub returns-in_default-clause-judged : goal.returns-in_default-clause-judged
returns-in_default-clause-judged g c =
    let s = g.H.Hasher.scheme c.args.hasher.now in
    let is = g.met.H.Hasher.scheme_is c.args.hasher.now in
    let d = g.met.H.Digest.Digest in
    let kept = sound _ _ _ _ (g.met.H.Hasher.over_digest c.args.hasher.now) s (g.H.Hasher.bagging_of c.args.hasher.now) g.F.Family.rule
    g.F.Family.MAX_LEAVES g.F.Family.MAX_NODES g.F.Family.DOMAIN g.H.Digest.Digest.SIZE is d.eq_decides g.H.Digest.Digest.Spells d.nonempty
    d.bytes_spell d.one_length d.bytes_decide g.met.F.Family.lawful in
    let X = c.args.list.now in
    let k = c.args.inactive in
    let ok = c.in-Ok.ensures.ok in
    let few : length X ≤ s.max_leaves = omega (arith, ok.0, ok.1, ap (λ (z : Scheme g.row.H-Digest.Denot). z.max_leaves) is) in
    let low : k ≤ length (peaks_of s.rule (length X)) =
    subst (λ rule. k ≤ length (peaks_of rule (length X))) (sym (ap (λ (z : Scheme g.row.H-Digest.Denot). z.rule) is)) (subst (λ n. k ≤ length (peaks_of g.F.Family.rule n)) ok.0 ok.2) in
    let r = multi_input_of s c.args.proof.now c.args.elements.now in
    let no = λ (a : AcceptsMulti s r (list_root s X k)).
    at_none c.in_ok-leaves.field-0 (¬ (AllByRecursion (λ e. e.1 ≤ g.F.Family.MAX_LEAVES) c.args.elements.now)) c.in_default.is c.in_ok-leaves.ensures.none
    (within_leaves s.hashing s.rule r.leaves g.F.Family.MAX_LEAVES (omega (arith, a.leaves, ap (λ (z : Scheme g.row.H-Digest.Denot). z.max_leaves) is)) c.args.elements.now a.below) in
    no_verdict (AcceptsMulti s r (list_root s X k)) (IsHonestMulti s X k r) s.hashing (multi_inputs s r) (list_inputs s X k) _ refl (multi_no s _ _ kept X k few low r no)

pub returns-clause-judged : goal.returns-clause-judged
returns-clause-judged g c =
    let s = g.H.Hasher.scheme c.args.hasher.now in
    let is = g.met.H.Hasher.scheme_is c.args.hasher.now in
    let es = c.args.elements.now in
    let leaves_are : c.deref.result.now ≡ digested s.hashing s.rule es =
    c.deref.ensures.value ∙ at_some c.in_ok-leaves.field-0 (λ v. v.items ≡ digested (g.H.Hasher.hashing c.args.hasher.now) g.F.Family.rule es)
    c.in-Some.leaves c.in-Some.is c.in_ok-leaves.ensures.some ∙ ap₂ (λ h rule. digested h rule es)
    (sym (ap (λ (z : Scheme g.row.H-Digest.Denot). z.hashing) is)) (sym (ap (λ (z : Scheme g.row.H-Digest.Denot). z.rule) is)) in
    subst (λ ls. IfOk c.judge.result (IsMultiVerdict s c.args.list.now c.args.inactive (multi_digest_input_of c.args.proof.now ls)))
    leaves_are c.judge.ensures.judged
