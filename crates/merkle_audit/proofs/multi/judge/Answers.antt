use Rattle.std.proofs.Common.{refl, ap, sym, subst, ◌∙◌, option_map}
use Rattle.std.proofs.lemmas.Bool.{false≢true}
use Rattle.merkle_base.specs.Hashing.{IsOver}
use Rattle.merkle_base.specs.Root.{list_root}
use Rattle.merkle_base.specs.Scheme.{Scheme}
use Rattle.merkle_root_theory.specs.Range.{list_inputs}
use Rattle.merkle_claim_theory.specs.FirstCollision.{or_else}
use Rattle.merkle_claim_theory.specs.Multiproof.{AcceptsMulti, IsHonestMulti}
use Rattle.merkle_claim_theory.specs.Verdict.{multi_inputs}
use Rattle.merkle_proof.specs.Input.{multi_digest_input_of}
use Rattle.merkle_proof.proofs.HasherLaws.{sound}
use Rattle.merkle_walks.specs.Hashed.{located}
use Rattle.merkle_audit_parts.proofs.MultiFound.{multi_found}
use Rattle.merkle_audit_parts.proofs.Verdicts.{found_verdict, no_verdict, multi_no, multi_yes}
use Rattle.merkle_audit.proofs.multi.judge.Goals as goal

pub returns-then-not-is_accepted-clause-within : goal.returns-then-not-is_accepted-clause-within
returns-then-not-is_accepted-clause-within g c = c.in-Ok.ensures.within

pub returns-then-not-is_accepted-clause-judged : goal.returns-then-not-is_accepted-clause-judged
returns-then-not-is_accepted-clause-judged g c =
    let s = g.H.Hasher.scheme c.args.hasher.now in
    let is = g.met.H.Hasher.scheme_is c.args.hasher.now in
    let d = g.met.H.Digest.Digest in
    let kept = sound _ _ _ _ (g.met.H.Hasher.over_digest c.args.hasher.now) s (g.H.Hasher.bagging_of c.args.hasher.now) g.F.Family.rule
    g.F.Family.MAX_LEAVES g.F.Family.MAX_NODES g.F.Family.DOMAIN g.H.Digest.Digest.SIZE is d.eq_decides g.H.Digest.Digest.Spells d.nonempty
    d.bytes_spell d.one_length d.bytes_decide g.met.F.Family.lawful in
    let X = c.args.list.now in
    let k = c.args.inactive in
    let r = multi_digest_input_of c.args.proof.now c.args.leaves.now in
    let list = c.in-Ok.ensures.hashed in
    let exact = c.in-Ok-verify_multi_leaf_digests_inclusion.ensures.exact in
    let no = λ (a : AcceptsMulti s r (list_root s X k)). false≢true (sym c.if-not-is_accepted.true ∙ exact.1 (subst (AcceptsMulti s r) (sym list.root) a)) in
    no_verdict (AcceptsMulti s r (list_root s X k)) (IsHonestMulti s X k r) s.hashing (multi_inputs s r) (list_inputs s X k) _ refl (multi_no s _ _ kept X k list.few list.low r no)

pub accepted-requires : goal.accepted-requires
accepted-requires g c =
    (c.in-Ok.listed.root, c.in-Ok-verify_multi_leaf_digests_inclusion.ensures.exact.0 c.if-not-is_accepted.false)

pub returns-clause-within : goal.returns-clause-within
returns-clause-within g c = c.in-Ok.ensures.within

pub returns-clause-judged : goal.returns-clause-judged
returns-clause-judged g c =
    let s = g.H.Hasher.scheme c.args.hasher.now in
    let is = g.met.H.Hasher.scheme_is c.args.hasher.now in
    let d = g.met.H.Digest.Digest in
    let kept = sound _ _ _ _ (g.met.H.Hasher.over_digest c.args.hasher.now) s (g.H.Hasher.bagging_of c.args.hasher.now) g.F.Family.rule
    g.F.Family.MAX_LEAVES g.F.Family.MAX_NODES g.F.Family.DOMAIN g.H.Digest.Digest.SIZE is d.eq_decides g.H.Digest.Digest.Spells d.nonempty
    d.bytes_spell d.one_length d.bytes_decide g.met.F.Family.lawful in
    let X = c.args.list.now in
    let k = c.args.inactive in
    let r = multi_digest_input_of c.args.proof.now c.args.leaves.now in
    let list = c.in-Ok.ensures.hashed in
    let exact = c.in-Ok-verify_multi_leaf_digests_inclusion.ensures.exact in
    let over = subst (λ h. IsOver h g.H.Digest.Digest.bytes g.H.Digest.PartialEq.eq g.H.Digest.Digest.EMPTY)
    (sym (ap (λ (z : Scheme g.row.H-Digest.Denot). z.hashing) is)) (g.met.H.Hasher.over_digest c.args.hasher.now) in
    let ok = subst (AcceptsMulti s r) list.root (exact.0 c.if-not-is_accepted.false) in
    let claim = c.in-Ok-accepted.claim in
    let o = option_map located c.first_of-found.result in
    let under = option_map located claim.1 in
    let found = multi_found s _ _ kept g.H.Digest.Digest.EMPTY X k list.few list.low r ok claim.0 c.in-Ok-accepted.ensures.top _ list.nodes c.in-Ok.listed.top list.top o under
    (λ q. c.first_of-found.ensures ∙ ap (λ z. or_else z under) (c.first_above.ensures.apart q))
    (λ q. c.first_of-found.ensures ∙ ap (λ z. or_else z under) (c.first_above.ensures.same s.hashing over q)) c.in-Ok-accepted.ensures.below in
    found_verdict (AcceptsMulti s r (list_root s X k)) (IsHonestMulti s X k r) s.hashing (multi_inputs s r) (list_inputs s X k) c.verdict.result
    o (multi_yes s _ _ kept X k list.few list.low r ok o found) c.verdict.ensures.accepted c.verdict.ensures.honest c.verdict.ensures.collision
