use Rattle.std.proofs.Common.{IfOk, ap₂, ◌≡◌, ◌<◌, ◌+◌, ◌≤◌, arith, length, refl, ap, sym, subst, ◌∙◌}
use Rattle.merkle_base.specs.Places.{peaks_of}
use Rattle.merkle_base.specs.Root.{list_root}
use Rattle.merkle_base.specs.Scheme.{Scheme}
use Rattle.merkle_root_theory.specs.Range.{list_inputs}
use Rattle.std.proofs.lemmas.List.{length-map}
use Rattle.merkle_hasher.specs.LeafDigests.{bytes_of, leaf_digests}
use Rattle.merkle_hasher.proofs.LeafDigests.{length-leaf_digests}
use Rattle.merkle_claim_theory.specs.Pinned.{AcceptsPinned, IsHonestPinned}
use Rattle.merkle_claim_theory.specs.Verdict.{pinned_inputs}
use Rattle.merkle_proof.specs.Input.{digest_input_of, input_of}
use Rattle.merkle_proof.proofs.HasherLaws.{sound}
use Rattle.merkle_audit.proofs.PinnedSearched.{pinned_no}
use Rattle.merkle_audit_parts.specs.Found.{IsPinnedVerdict}
use Rattle.merkle_audit_parts.proofs.Claims.{led_within}
use Rattle.merkle_audit_parts.proofs.Verdicts.{at_none, at_some, no_verdict}
use Rattle.merkle_audit.proofs.pins.audit_pins.Goals as goal

pub returns-then-branch-clause-judged : goal.returns-then-branch-clause-judged
returns-then-branch-clause-judged g c =
    let s = g.H.Hasher.scheme c.args.hasher.now in
    let is = g.met.H.Hasher.scheme_is c.args.hasher.now in
    let d = g.met.H.Digest.Digest in
    let kept = sound _ _ _ _ (g.met.H.Hasher.over_digest c.args.hasher.now) s (g.H.Hasher.bagging_of c.args.hasher.now) g.F.Family.rule
    g.F.Family.MAX_LEAVES g.F.Family.MAX_NODES g.F.Family.DOMAIN g.H.Digest.Digest.SIZE is d.eq_decides g.H.Digest.Digest.Spells d.nonempty
    d.bytes_spell d.one_length d.bytes_decide g.met.F.Family.lawful in
    let X = c.args.list.now in
    let k = c.args.inactive in
    let ok = c.in-Ok.ensures.ok in
    let few : length X ≤ s.max_leaves = omega (arith, ok.0, ok.1, ap (λ (z : Scheme g.row.H-Digest.Denot). z.max_leaves) is) in
    let low : k ≤ length (peaks_of s.rule (length X)) =
    subst (λ rule. k ≤ length (peaks_of rule (length X))) (sym (ap (λ (z : Scheme g.row.H-Digest.Denot). z.rule) is)) (subst (λ n. k ≤ length (peaks_of g.F.Family.rule n)) ok.0 ok.2) in
    let r = input_of s c.args.proof.now c.args.start (bytes_of c.args.elements.now) in
    let pins = c.args.pinned_nodes.now in
    let no = λ (a : AcceptsPinned s r pins (list_root s X k)). c.in_ok-is_pinned_shape_refused.ensures c.if-branch.true
    (leaf_digests s.hashing s.rule c.args.start (bytes_of c.args.elements.now))
    (length-leaf_digests s.hashing s.rule c.args.start (bytes_of c.args.elements.now) ∙ length-map c.args.elements.now (λ e. e.now)) (list_root s X k) a in
    no_verdict (AcceptsPinned s r pins (list_root s X k)) (IsHonestPinned s X k r pins) s.hashing (pinned_inputs s r pins) (list_inputs s X k) _ refl (pinned_no s _ _ kept X k few low r pins no)

pub returns-in_default-clause-judged : goal.returns-in_default-clause-judged
returns-in_default-clause-judged g c =
    let s = g.H.Hasher.scheme c.args.hasher.now in
    let is = g.met.H.Hasher.scheme_is c.args.hasher.now in
    let d = g.met.H.Digest.Digest in
    let kept = sound _ _ _ _ (g.met.H.Hasher.over_digest c.args.hasher.now) s (g.H.Hasher.bagging_of c.args.hasher.now) g.F.Family.rule
    g.F.Family.MAX_LEAVES g.F.Family.MAX_NODES g.F.Family.DOMAIN g.H.Digest.Digest.SIZE is d.eq_decides g.H.Digest.Digest.Spells d.nonempty
    d.bytes_spell d.one_length d.bytes_decide g.met.F.Family.lawful in
    let X = c.args.list.now in
    let k = c.args.inactive in
    let ok = c.in-Ok.ensures.ok in
    let few : length X ≤ s.max_leaves = omega (arith, ok.0, ok.1, ap (λ (z : Scheme g.row.H-Digest.Denot). z.max_leaves) is) in
    let low : k ≤ length (peaks_of s.rule (length X)) =
    subst (λ rule. k ≤ length (peaks_of rule (length X))) (sym (ap (λ (z : Scheme g.row.H-Digest.Denot). z.rule) is)) (subst (λ n. k ≤ length (peaks_of g.F.Family.rule n)) ok.0 ok.2) in
    let r = input_of s c.args.proof.now c.args.start (bytes_of c.args.elements.now) in
    let pins = c.args.pinned_nodes.now in
    let many = length-leaf_digests s.hashing s.rule c.args.start (bytes_of c.args.elements.now) ∙ length-map c.args.elements.now (λ e. e.now) in
    let most = ap (λ (z : Scheme g.row.H-Digest.Denot). z.max_leaves) is in
    let no = λ (a : AcceptsPinned s r pins (list_root s X k)).
    absurd (omega (
      arith,
      led_within s r (list_root s X k) a.0,
      many,
      most,
      at_none c.in_ok-digests.field-0 (g.F.Family.MAX_LEAVES < c.args.start + length c.args.elements.now) c.in_default.is c.in_ok-digests.ensures.none,
    )) in
    no_verdict (AcceptsPinned s r pins (list_root s X k)) (IsHonestPinned s X k r pins) s.hashing (pinned_inputs s r pins) (list_inputs s X k) _ refl (pinned_no s _ _ kept X k few low r pins no)

pub returns-clause-judged : goal.returns-clause-judged
returns-clause-judged g c =
    let s = g.H.Hasher.scheme c.args.hasher.now in
    let is = g.met.H.Hasher.scheme_is c.args.hasher.now in
    let es = c.args.elements.now in
    let leaves_are : c.deref.result.now ≡ leaf_digests s.hashing s.rule c.args.start (bytes_of es) =
    c.deref.ensures.value ∙ at_some c.in_ok-digests.field-0 (λ v. v.items ≡ leaf_digests (g.H.Hasher.hashing c.args.hasher.now) g.F.Family.rule c.args.start (bytes_of es))
    c.in-Some.digests c.in-Some.is c.in_ok-digests.ensures.some ∙ ap₂ (λ h rule. leaf_digests h rule c.args.start (bytes_of es))
    (sym (ap (λ (z : Scheme g.row.H-Digest.Denot). z.hashing) is)) (sym (ap (λ (z : Scheme g.row.H-Digest.Denot). z.rule) is)) in
    subst (λ ls. IfOk c.judge.result
    (IsPinnedVerdict s c.args.list.now c.args.inactive (digest_input_of c.args.proof.now c.args.start ls) c.args.pinned_nodes.now))
    leaves_are c.judge.ensures.judged
