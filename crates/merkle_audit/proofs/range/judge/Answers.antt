use Rattle.std.proofs.Common.{◌≡◌, ◌≢◌, length, refl, ap, sym, subst, ◌∙◌, option_map, Ok}
use Rattle.merkle_base.specs.Hashing.{IsOver}
use Rattle.merkle_base.specs.Places.{peaks_of}
use Rattle.merkle_base.specs.Root.{list_root}
use Rattle.merkle_base.specs.Scheme.{Scheme}
use Rattle.merkle_hasher.specs.Subtrees.{AreNodes}
use Rattle.merkle_hasher.proofs.PeakNodes.{peaks_at}
use Rattle.merkle_root_theory.specs.Check.{range_inputs}
use Rattle.merkle_root_theory.specs.Range.{IsHonestRange, list_inputs}
use Rattle.merkle_root_theory.specs.Reconstruction.{reconstructed}
use Rattle.merkle_proof.specs.Input.{digest_input_of}
use Rattle.merkle_proof.proofs.HasherLaws.{sound}
use Rattle.merkle_audit_parts.specs.Claimed.{IsClaim}
use Rattle.merkle_walks.specs.Hashed.{located}
use Rattle.merkle_audit_parts.proofs.Searched.{range_found}
use Rattle.merkle_audit_parts.proofs.Verdicts.{at_none, at_some, found_verdict, no_verdict, range_no, range_yes}
use Rattle.merkle_audit.proofs.range.judge.Goals as goal

pub returns-in-Ok-None-clause-within : goal.returns-in-Ok-None-clause-within
returns-in-Ok-None-clause-within g c = c.in-Ok.ensures.within

pub returns-in-Ok-None-clause-judged : goal.returns-in-Ok-None-clause-judged
returns-in-Ok-None-clause-judged g c =
    let s = g.H.Hasher.scheme c.args.hasher.now in
    let is = g.met.H.Hasher.scheme_is c.args.hasher.now in
    let d = g.met.H.Digest.Digest in
    let kept = sound _ _ _ _ (g.met.H.Hasher.over_digest c.args.hasher.now) s (g.H.Hasher.bagging_of c.args.hasher.now) g.F.Family.rule
    g.F.Family.MAX_LEAVES g.F.Family.MAX_NODES g.F.Family.DOMAIN g.H.Digest.Digest.SIZE is d.eq_decides g.H.Digest.Digest.Spells d.nonempty
    d.bytes_spell d.one_length d.bytes_decide g.met.F.Family.lawful in
    let X = c.args.list.now in
    let k = c.args.inactive in
    let r = digest_input_of c.args.proof.now c.args.start c.args.digests.now in
    let list = c.in-Ok.ensures.hashed in
    let no = λ (e : reconstructed s r ≡ Ok (list_root s X k)). at_none c.in-Ok-None.field-0 (reconstructed s r ≢ Ok c.in-Ok.listed.root)
    c.in-Ok-None.field-0-is c.in-Ok-None.ensures.none (e ∙ ap Ok (sym list.root)) in
    no_verdict (reconstructed s r ≡ Ok (list_root s X k)) (IsHonestRange s X k r) s.hashing (range_inputs s r) (list_inputs s X k) _ refl (range_no s _ _ kept X k list.few list.low r no)

pub first_difference-found-requires : goal.first_difference-found-requires
first_difference-found-requires g c =
    let s = g.H.Hasher.scheme c.args.hasher.now in
    let is = g.met.H.Hasher.scheme_is c.args.hasher.now in
    let X = c.args.list.now in
    let nodes = subst (λ rule. AreNodes g.F.Family.rule g.F.Family.MAX_LEAVES (peaks_of rule (length X)))
    (sym (ap (λ (z : Scheme g.row.H-Digest.Denot). z.rule) is)) (peaks_at g.F.Family.rule g.F.Family.MAX_LEAVES (length X) c.in-Ok.ensures.within.0) in
    record { nodes = (peaks_of s.rule (length X), c.deref.ensures.value ∙ c.in-Ok.ensures.hashed.peaks, nodes) }

pub returns-clause-within : goal.returns-clause-within
returns-clause-within g c = c.in-Ok.ensures.within

pub returns-clause-judged : goal.returns-clause-judged
returns-clause-judged g c =
    let s = g.H.Hasher.scheme c.args.hasher.now in
    let is = g.met.H.Hasher.scheme_is c.args.hasher.now in
    let d = g.met.H.Digest.Digest in
    let kept = sound _ _ _ _ (g.met.H.Hasher.over_digest c.args.hasher.now) s (g.H.Hasher.bagging_of c.args.hasher.now) g.F.Family.rule
    g.F.Family.MAX_LEAVES g.F.Family.MAX_NODES g.F.Family.DOMAIN g.H.Digest.Digest.SIZE is d.eq_decides g.H.Digest.Digest.Spells d.nonempty
    d.bytes_spell d.one_length d.bytes_decide g.met.F.Family.lawful in
    let X = c.args.list.now in
    let k = c.args.inactive in
    let r = digest_input_of c.args.proof.now c.args.start c.args.digests.now in
    let list = c.in-Ok.ensures.hashed in
    let nodes = subst (λ rule. AreNodes g.F.Family.rule g.F.Family.MAX_LEAVES (peaks_of rule (length X)))
    (sym (ap (λ (z : Scheme g.row.H-Digest.Denot). z.rule) is)) (peaks_at g.F.Family.rule g.F.Family.MAX_LEAVES (length X) c.in-Ok.ensures.within.0) in
    let over = subst (λ h. IsOver h g.H.Digest.Digest.bytes g.H.Digest.PartialEq.eq g.H.Digest.Digest.EMPTY)
    (sym (ap (λ (z : Scheme g.row.H-Digest.Denot). z.hashing) is)) (g.met.H.Hasher.over_digest c.args.hasher.now) in
    let claim = at_some c.in-Ok-Some.field-0 (λ k. (reconstructed s r ≡ Ok c.in-Ok.listed.root) × IsClaim g.H.Digest.Digest.EMPTY s r k)
    c.in-Ok-Some.claim c.in-Ok-Some.field-0-is c.in-Ok-Some.ensures.some in
    let ok = claim.0 ∙ ap Ok list.root in
    let o = option_map located c.first_difference-found.result in
    let found = range_found s _ _ kept g.H.Digest.Digest.EMPTY X k list.few list.low r ok c.in-Ok-Some.claim claim.1 _ list.nodes
    c.in-Ok.listed.top list.top o c.first_difference-found.ensures.apart (λ q f u x y.
    c.first_difference-found.ensures.same s.hashing (peaks_of s.rule (length X)) f u over q (c.deref.ensures.value ∙ list.peaks) nodes x y) in
    found_verdict (reconstructed s r ≡ Ok (list_root s X k)) (IsHonestRange s X k r) s.hashing (range_inputs s r) (list_inputs s X k) c.verdict.result
    o (range_yes s _ _ kept X k list.few list.low r ok o found) c.verdict.ensures.accepted c.verdict.ensures.honest c.verdict.ensures.collision
