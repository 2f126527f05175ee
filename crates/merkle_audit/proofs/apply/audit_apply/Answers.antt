use Rattle.std.proofs.Common.{map, length, refl, ap, ap₂, sym, subst, ◌∙◌, option_map}
use Rattle.std.proofs.lemmas.Bool.{false≢true}
use Rattle.merkle_base.specs.Hashing.{IsOver}
use Rattle.merkle_base.specs.Places.{peaks_of}
use Rattle.merkle_base.specs.Scheme.{Scheme}
use Rattle.merkle_hasher.specs.Subtrees.{AreNodes, subtree_of}
use Rattle.merkle_hasher.proofs.PeakNodes.{peaks_at}
use Rattle.merkle_proof.proofs.HasherLaws.{sound}
use Rattle.merkle_audit_parts.specs.Found.{HaveSamePeaks}
use Rattle.merkle_walks.specs.Hashed.{located}
use Rattle.merkle_audit_parts.proofs.Lists.{peaks_are}
use Rattle.merkle_audit.proofs.ListsFound.{lists_found}
use Rattle.merkle_audit_parts.proofs.Verdicts.{alike, found_lists, no_lists}
use Rattle.merkle_audit.proofs.apply.audit_apply.Goals as goal

pub returns-then-listed-claimed-clause-judged : goal.returns-then-listed-claimed-clause-judged
returns-then-listed-claimed-clause-judged g c =
    let s = g.H.Hasher.scheme c.args.hasher.now in
    let is = g.met.H.Hasher.scheme_is c.args.hasher.now in
    let d = g.met.H.Digest.Digest in
    let kept = sound _ _ _ _ (g.met.H.Hasher.over_digest c.args.hasher.now) s (g.H.Hasher.bagging_of c.args.hasher.now) g.F.Family.rule
    g.F.Family.MAX_LEAVES g.F.Family.MAX_NODES g.F.Family.DOMAIN g.H.Digest.Digest.SIZE is d.eq_decides g.H.Digest.Digest.Spells d.nonempty
    d.bytes_spell d.one_length d.bytes_decide g.met.F.Family.lawful in
    no_lists s.hashing kept.laws s.rule c.args.claimed.now c.args.listed.now _ refl (λ w. c.if-listed-claimed.true (sym w.0))

pub returns-then-not-are_equal-clause-judged : goal.returns-then-not-are_equal-clause-judged
returns-then-not-are_equal-clause-judged g c =
    let s = g.H.Hasher.scheme c.args.hasher.now in
    let is = g.met.H.Hasher.scheme_is c.args.hasher.now in
    let d = g.met.H.Digest.Digest in
    let kept = sound _ _ _ _ (g.met.H.Hasher.over_digest c.args.hasher.now) s (g.H.Hasher.bagging_of c.args.hasher.now) g.F.Family.rule
    g.F.Family.MAX_LEAVES g.F.Family.MAX_NODES g.F.Family.DOMAIN g.H.Digest.Digest.SIZE is d.eq_decides g.H.Digest.Digest.Spells d.nonempty
    d.bytes_spell d.one_length d.bytes_decide g.met.F.Family.lawful in
    let X = c.args.claimed.now in
    let Z = c.args.listed.now in
    let rule_is = sym (ap (λ (z : Scheme g.row.H-Digest.Denot). z.rule) is) in
    let own = c.in_ok-own_peaks.ensures ∙ peaks_are s.hashing s.rule Z g.H.Digest.Digest.EMPTY _ c.in-Ok-new.ensures.of_list c.deref.result.now
    (c.deref.ensures.value ∙ c.in_ok-peaks.ensures ∙ ap₂ (λ rule n. map subtree_of (peaks_of rule n)) rule_is c.in-Ok.ensures.ok.0) in
    let other = c.in_ok-other_peaks.ensures ∙ peaks_are s.hashing s.rule X g.H.Digest.Digest.EMPTY _ c.in-Ok-new-2.ensures.of_list c.deref-2.result.now
    (c.deref-2.ensures.value ∙ c.in_ok-peaks.ensures ∙ ap₂ (λ rule n. map subtree_of (peaks_of rule n)) rule_is (c.in-Ok.ensures.ok.0 ∙ c.if-listed-claimed.false)) in
    let test = alike g.H.Digest.PartialEq.eq d.eq_decides c.are_equal.result c.deref-3.result.now c.deref-4.result.now _ _ c.are_equal.ensures
    (c.deref-3.ensures.value ∙ own) (c.deref-4.ensures.value ∙ other) in
    let differ : HaveSamePeaks s.hashing s.rule X Z → ⊥ = λ w. false≢true (sym c.if-not-are_equal.true ∙ test.1 w.1) in
    no_lists s.hashing kept.laws s.rule X Z _ refl differ

pub first_below-found-requires : goal.first_below-found-requires
first_below-found-requires g c = record {
  nodes = (peaks_of g.F.Family.rule c.in-Ok.leaves, c.deref-5.ensures.value ∙ c.in_ok-peaks.ensures, peaks_at g.F.Family.rule g.F.Family.MAX_LEAVES c.in-Ok.leaves c.in-Ok.ensures.ok.1);
}

pub returns-clause-judged : goal.returns-clause-judged
returns-clause-judged g c =
    let s = g.H.Hasher.scheme c.args.hasher.now in
    let is = g.met.H.Hasher.scheme_is c.args.hasher.now in
    let d = g.met.H.Digest.Digest in
    let kept = sound _ _ _ _ (g.met.H.Hasher.over_digest c.args.hasher.now) s (g.H.Hasher.bagging_of c.args.hasher.now) g.F.Family.rule
    g.F.Family.MAX_LEAVES g.F.Family.MAX_NODES g.F.Family.DOMAIN g.H.Digest.Digest.SIZE is d.eq_decides g.H.Digest.Digest.Spells d.nonempty
    d.bytes_spell d.one_length d.bytes_decide g.met.F.Family.lawful in
    let X = c.args.claimed.now in
    let Z = c.args.listed.now in
    let rule_is = sym (ap (λ (z : Scheme g.row.H-Digest.Denot). z.rule) is) in
    let own = c.in_ok-own_peaks.ensures ∙ peaks_are s.hashing s.rule Z g.H.Digest.Digest.EMPTY _ c.in-Ok-new.ensures.of_list c.deref.result.now
    (c.deref.ensures.value ∙ c.in_ok-peaks.ensures ∙ ap₂ (λ rule n. map subtree_of (peaks_of rule n)) rule_is c.in-Ok.ensures.ok.0) in
    let other = c.in_ok-other_peaks.ensures ∙ peaks_are s.hashing s.rule X g.H.Digest.Digest.EMPTY _ c.in-Ok-new-2.ensures.of_list c.deref-2.result.now
    (c.deref-2.ensures.value ∙ c.in_ok-peaks.ensures ∙ ap₂ (λ rule n. map subtree_of (peaks_of rule n)) rule_is (c.in-Ok.ensures.ok.0 ∙ c.if-listed-claimed.false)) in
    let test = alike g.H.Digest.PartialEq.eq d.eq_decides c.are_equal.result c.deref-3.result.now c.deref-4.result.now _ _ c.are_equal.ensures
    (c.deref-3.ensures.value ∙ own) (c.deref-4.ensures.value ∙ other) in
    let same : HaveSamePeaks s.hashing s.rule X Z = (sym c.if-listed-claimed.false, test.0 c.if-not-are_equal.false) in
    let e = ap₂ (λ rule n. peaks_of rule n) rule_is c.in-Ok.ensures.ok.0 in
    let over = subst (λ h. IsOver h g.H.Digest.Digest.bytes g.H.Digest.PartialEq.eq g.H.Digest.Digest.EMPTY)
    (sym (ap (λ (z : Scheme g.row.H-Digest.Denot). z.hashing) is)) (g.met.H.Hasher.over_digest c.args.hasher.now) in
    let found = lists_found s kept.laws g.H.Digest.Digest.EMPTY X Z _ _ c.in-Ok-new-2.ensures.of_list c.in-Ok-new.ensures.of_list same (option_map located c.first_below-found.result) (λ f k x y.
    c.first_below-found.ensures s.hashing (peaks_of s.rule (length Z)) f k over (c.deref-5.ensures.value ∙ c.in_ok-peaks.ensures ∙ ap (map subtree_of) e)
    (subst (AreNodes g.F.Family.rule g.F.Family.MAX_LEAVES) e (peaks_at g.F.Family.rule g.F.Family.MAX_LEAVES c.in-Ok.leaves c.in-Ok.ensures.ok.1)) x y) in
    found_lists s.hashing kept.laws s.rule X Z c.verdict.result same (option_map located c.first_below-found.result) found c.verdict.ensures.accepted c.verdict.ensures.same c.verdict.ensures.collision
