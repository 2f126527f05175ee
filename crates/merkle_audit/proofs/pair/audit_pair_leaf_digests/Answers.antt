use Rattle.std.proofs.Common.{◌≡◌, ◌≢◌, ◌≤◌, refl, ap, sym, subst, arith, ◌∙◌, option_map, Ok}
use Rattle.merkle_base.specs.Hashing.{IsOver}
use Rattle.merkle_base.specs.Places.{peaks_of}
use Rattle.merkle_base.specs.Scheme.{Scheme}
use Rattle.merkle_hasher.specs.Subtrees.{AreNodes}
use Rattle.merkle_hasher.proofs.PeakNodes.{peaks_at}
use Rattle.merkle_root_theory.specs.Reconstruction.{reconstructed}
use Rattle.merkle_proof.specs.Input.{digest_input_of}
use Rattle.merkle_proof.proofs.HasherLaws.{sound}
use Rattle.merkle_audit_parts.specs.Claimed.{IsClaim}
use Rattle.merkle_walks.specs.Hashed.{located}
use Rattle.merkle_audit_parts.proofs.Searched.{pair_found}
use Rattle.merkle_audit_parts.proofs.Verdicts.{at_none, at_some, found_pair, no_pair}
use Rattle.merkle_audit.proofs.pair.audit_pair_leaf_digests.Goals as goal

pub first_difference-found-requires : goal.first_difference-found-requires
first_difference-found-requires g c =
    let s = g.H.Hasher.scheme c.args.hasher.now in
    let is = g.met.H.Hasher.scheme_is c.args.hasher.now in
    let q = digest_input_of c.args.second.0.now c.args.second.2 c.args.second.1.now in
    let other = at_some c.in-Ok-Some-accepted.field-0 (λ k. (reconstructed s q ≡ Ok c.args.root.now) × IsClaim g.H.Digest.Digest.EMPTY s q k)
    c.in-Ok-Some-accepted.claim c.in-Ok-Some-accepted.field-0-is c.in-Ok-Some-accepted.ensures.some in
    let rule_is = sym (ap (λ (z : Scheme g.row.H-Digest.Denot). z.rule) is) in
    let few : q.leaves ≤ g.F.Family.MAX_LEAVES = omega (arith, other.1.bounded, ap (λ (z : Scheme g.row.H-Digest.Denot). z.max_leaves) is) in
    let peaks = c.deref.ensures.value ∙ other.1.peaks in
    let nodes = subst (λ rule. AreNodes g.F.Family.rule g.F.Family.MAX_LEAVES (peaks_of rule q.leaves)) rule_is (peaks_at g.F.Family.rule g.F.Family.MAX_LEAVES q.leaves few) in
    record { nodes = (peaks_of s.rule q.leaves, peaks, nodes) }

pub returns-in-Ok-None-clause-judged : goal.returns-in-Ok-None-clause-judged
returns-in-Ok-None-clause-judged g c =
    let s = g.H.Hasher.scheme c.args.hasher.now in
    let r = digest_input_of c.args.first.0.now c.args.first.2 c.args.first.1.now in
    let q = digest_input_of c.args.second.0.now c.args.second.2 c.args.second.1.now in
    no_pair s c.args.root.now r q _ refl (λ w. at_none c.in-Ok-None.field-0 (reconstructed s r ≢ Ok c.args.root.now) c.in-Ok-None.field-0-is c.in-Ok-None.ensures.none w.0)

pub returns-in-Ok-None-accepted-clause-judged : goal.returns-in-Ok-None-accepted-clause-judged
returns-in-Ok-None-accepted-clause-judged g c =
    let s = g.H.Hasher.scheme c.args.hasher.now in
    let r = digest_input_of c.args.first.0.now c.args.first.2 c.args.first.1.now in
    let q = digest_input_of c.args.second.0.now c.args.second.2 c.args.second.1.now in
    no_pair s c.args.root.now r q _ refl (λ w. at_none c.in-Ok-None-accepted.field-0 (reconstructed s q ≢ Ok c.args.root.now) c.in-Ok-None-accepted.field-0-is c.in-Ok-None-accepted.ensures.none w.1)

pub returns-clause-judged : goal.returns-clause-judged
returns-clause-judged g c =
    let s = g.H.Hasher.scheme c.args.hasher.now in
    let is = g.met.H.Hasher.scheme_is c.args.hasher.now in
    let d = g.met.H.Digest.Digest in
    let kept = sound _ _ _ _ (g.met.H.Hasher.over_digest c.args.hasher.now) s (g.H.Hasher.bagging_of c.args.hasher.now) g.F.Family.rule
    g.F.Family.MAX_LEAVES g.F.Family.MAX_NODES g.F.Family.DOMAIN g.H.Digest.Digest.SIZE is d.eq_decides g.H.Digest.Digest.Spells d.nonempty
    d.bytes_spell d.one_length d.bytes_decide g.met.F.Family.lawful in
    let r = digest_input_of c.args.first.0.now c.args.first.2 c.args.first.1.now in
    let q = digest_input_of c.args.second.0.now c.args.second.2 c.args.second.1.now in
    let one = at_some c.in-Ok-Some.field-0 (λ k. (reconstructed s r ≡ Ok c.args.root.now) × IsClaim g.H.Digest.Digest.EMPTY s r k) c.in-Ok-Some.claim
    c.in-Ok-Some.field-0-is c.in-Ok-Some.ensures.some in
    let other = at_some c.in-Ok-Some-accepted.field-0 (λ k. (reconstructed s q ≡ Ok c.args.root.now) × IsClaim g.H.Digest.Digest.EMPTY s q k)
    c.in-Ok-Some-accepted.claim c.in-Ok-Some-accepted.field-0-is c.in-Ok-Some-accepted.ensures.some in
    let rule_is = sym (ap (λ (z : Scheme g.row.H-Digest.Denot). z.rule) is) in
    let few : q.leaves ≤ g.F.Family.MAX_LEAVES = omega (arith, other.1.bounded, ap (λ (z : Scheme g.row.H-Digest.Denot). z.max_leaves) is) in
    let peaks = c.deref.ensures.value ∙ other.1.peaks in
    let nodes = subst (λ rule. AreNodes g.F.Family.rule g.F.Family.MAX_LEAVES (peaks_of rule q.leaves)) rule_is (peaks_at g.F.Family.rule g.F.Family.MAX_LEAVES q.leaves few) in
    let over = subst (λ h. IsOver h g.H.Digest.Digest.bytes g.H.Digest.PartialEq.eq g.H.Digest.Digest.EMPTY)
    (sym (ap (λ (z : Scheme g.row.H-Digest.Denot). z.hashing) is)) (g.met.H.Hasher.over_digest c.args.hasher.now) in
    let o = option_map located c.first_difference-found.result in
    let found = pair_found s _ _ kept g.H.Digest.Digest.EMPTY c.args.root.now r q one.0 other.0 c.in-Ok-Some.claim c.in-Ok-Some-accepted.claim one.1
    other.1 o c.first_difference-found.ensures.apart (λ e f k x y.
    c.first_difference-found.ensures.same s.hashing (peaks_of s.rule q.leaves) f k over e peaks nodes x y) in
    found_pair s c.args.root.now r q c.verdict.result _ _ kept (one.0, other.0) o found c.verdict.ensures.accepted c.verdict.ensures.consistent c.verdict.ensures.collision
