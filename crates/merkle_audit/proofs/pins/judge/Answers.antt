use Rattle.std.proofs.Common.{length, refl, ap, sym, subst, ◌∙◌, option_map}
use Rattle.std.specs.List.{AllByRecursion}
use Rattle.merkle_base.specs.Hashing.{IsOver}
use Rattle.merkle_base.specs.Places.{peaks_of}
use Rattle.merkle_base.specs.Root.{list_root}
use Rattle.merkle_base.specs.Scheme.{Scheme}
use Rattle.merkle_hasher.specs.Subtrees.{AreNodes}
use Rattle.merkle_hasher.proofs.PeakNodes.{peaks_at}
use Rattle.merkle_root_theory.specs.Range.{list_inputs}
use Rattle.merkle_claim_theory.specs.FirstCollision.{or_else}
use Rattle.merkle_claim_theory.specs.Pinned.{AcceptsPinned, IsHonestPinned}
use Rattle.merkle_claim_theory.specs.Verdict.{pinned_inputs}
use Rattle.merkle_proof.specs.Input.{digest_input_of}
use Rattle.merkle_proof.proofs.HasherLaws.{sound}
use Rattle.merkle_pins_theory.specs.PinnedNodes.{SeesDown}
use Rattle.merkle_walks.specs.Hashed.{located}
use Rattle.merkle_audit_parts.specs.PinnedClaimed.{pinned_pair, IsPinnedClaim}
use Rattle.merkle_audit.proofs.PinnedSearched.{pinned_found, pinned_no, pinned_yes}
use Rattle.merkle_audit_parts.proofs.Verdicts.{at_none, at_some, found_verdict, no_verdict}
use Rattle.merkle_audit.proofs.pins.judge.Goals as goal

pub returns-in-Ok-None-clause-within : goal.returns-in-Ok-None-clause-within
returns-in-Ok-None-clause-within g c = c.in-Ok.ensures.within

pub returns-in-Ok-None-clause-judged : goal.returns-in-Ok-None-clause-judged
returns-in-Ok-None-clause-judged g c =
    let s = g.H.Hasher.scheme c.args.hasher.now in
    let is = g.met.H.Hasher.scheme_is c.args.hasher.now in
    let d = g.met.H.Digest.Digest in
    let kept = sound _ _ _ _ (g.met.H.Hasher.over_digest c.args.hasher.now) s (g.H.Hasher.bagging_of c.args.hasher.now) g.F.Family.rule
    g.F.Family.MAX_LEAVES g.F.Family.MAX_NODES g.F.Family.DOMAIN g.H.Digest.Digest.SIZE is d.eq_decides g.H.Digest.Digest.Spells d.nonempty
    d.bytes_spell d.one_length d.bytes_decide g.met.F.Family.lawful in
    let X = c.args.list.now in
    let k = c.args.inactive in
    let r = digest_input_of c.args.proof.now c.args.start c.args.digests.now in
    let pins = c.args.pinned_nodes.now in
    let list = c.in-Ok.ensures.hashed in
    let no = λ (a : AcceptsPinned s r pins (list_root s X k)).
    at_none c.in-Ok-None.field-0 (¬ (AcceptsPinned s r pins c.in-Ok.listed.root)) c.in-Ok-None.field-0-is c.in-Ok-None.ensures.none (subst (AcceptsPinned s r pins) (sym list.root) a) in
    no_verdict (AcceptsPinned s r pins (list_root s X k)) (IsHonestPinned s X k r pins) s.hashing (pinned_inputs s r pins) (list_inputs s X k) _ refl
    (pinned_no s _ _ kept X k list.few list.low r pins no)

pub first_pinned_below-below-requires : goal.first_pinned_below-below-requires
first_pinned_below-below-requires g c =
    let s = g.H.Hasher.scheme c.args.hasher.now in
    let is = g.met.H.Hasher.scheme_is c.args.hasher.now in
    let X = c.args.list.now in
    let nodes = subst (λ rule. AreNodes g.F.Family.rule g.F.Family.MAX_LEAVES (peaks_of rule (length X)))
    (sym (ap (λ (z : Scheme g.row.H-Digest.Denot). z.rule) is)) (peaks_at g.F.Family.rule g.F.Family.MAX_LEAVES (length X) c.in-Ok.ensures.within.0) in
    record { nodes = (peaks_of s.rule (length X), c.deref.ensures.value ∙ c.in-Ok.ensures.hashed.peaks, nodes) }

pub returns-clause-within : goal.returns-clause-within
returns-clause-within g c = c.in-Ok.ensures.within

pub returns-clause-judged : goal.returns-clause-judged
returns-clause-judged g c =
    let s = g.H.Hasher.scheme c.args.hasher.now in
    let is = g.met.H.Hasher.scheme_is c.args.hasher.now in
    let d = g.met.H.Digest.Digest in
    let kept = sound _ _ _ _ (g.met.H.Hasher.over_digest c.args.hasher.now) s (g.H.Hasher.bagging_of c.args.hasher.now) g.F.Family.rule
    g.F.Family.MAX_LEAVES g.F.Family.MAX_NODES g.F.Family.DOMAIN g.H.Digest.Digest.SIZE is d.eq_decides g.H.Digest.Digest.Spells d.nonempty
    d.bytes_spell d.one_length d.bytes_decide g.met.F.Family.lawful in
    let X = c.args.list.now in
    let k = c.args.inactive in
    let r = digest_input_of c.args.proof.now c.args.start c.args.digests.now in
    let pins = c.args.pinned_nodes.now in
    let list = c.in-Ok.ensures.hashed in
    let nodes = subst (λ rule. AreNodes g.F.Family.rule g.F.Family.MAX_LEAVES (peaks_of rule (length X)))
    (sym (ap (λ (z : Scheme g.row.H-Digest.Denot). z.rule) is)) (peaks_at g.F.Family.rule g.F.Family.MAX_LEAVES (length X) c.in-Ok.ensures.within.0) in
    let over = subst (λ h. IsOver h g.H.Digest.Digest.bytes g.H.Digest.PartialEq.eq g.H.Digest.Digest.EMPTY)
    (sym (ap (λ (z : Scheme g.row.H-Digest.Denot). z.hashing) is)) (g.met.H.Hasher.over_digest c.args.hasher.now) in
    let claim = at_some c.in-Ok-Some.field-0
    (λ k. AcceptsPinned s r pins c.in-Ok.listed.root × IsPinnedClaim g.H.Digest.Digest.EMPTY s r pins k.top k.nodes) c.in-Ok-Some.claim
    c.in-Ok-Some.field-0-is c.in-Ok-Some.ensures.some in
    let ok = subst (AcceptsPinned s r pins) list.root claim.0 in
    let o = option_map located c.first_of-found.result in
    let under = option_map located c.first_pinned_below-below.result in
    let found = pinned_found s _ _ kept g.H.Digest.Digest.EMPTY X k list.few list.low r pins ok c.in-Ok-Some.claim.top c.in-Ok-Some.claim.nodes
    claim.1 _ list.nodes c.in-Ok.listed.top list.top o under
    (λ q. c.first_of-found.ensures ∙ ap (λ z. or_else z under) (c.first_above.ensures.apart q))
    (λ q. c.first_of-found.ensures ∙ ap (λ z. or_else z under) (c.first_above.ensures.same s.hashing over q))
    (λ f u x y. c.first_pinned_below-below.ensures s.hashing (peaks_of s.rule (length X)) f u over (c.deref.ensures.value ∙ list.peaks) nodes
    (subst (λ h. AllByRecursion (λ t. SeesDown (pinned_pair h g.H.Digest.Digest.EMPTY c.in-Ok-Some.claim.nodes) f t) (peaks_of s.rule (length X)))
    (ap (λ (z : Scheme g.row.H-Digest.Denot). z.hashing) is) x) y) in
    found_verdict (AcceptsPinned s r pins (list_root s X k)) (IsHonestPinned s X k r pins) s.hashing (pinned_inputs s r pins) (list_inputs s X k) c.verdict.result
    o (pinned_yes s _ _ kept X k list.few list.low r pins ok o found) c.verdict.ensures.accepted c.verdict.ensures.honest c.verdict.ensures.collision
