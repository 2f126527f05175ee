use Rattle.std.proofs.Common.{◌<◌, length, false, IsTrue, IsNone, rules, ap, sym, subst, ◌∙◌}
use Rattle.merkle_base.specs.Places.{peaks_of}
use Rattle.merkle_base.specs.Root.{peaks_root}
use Rattle.merkle_base.specs.Scheme.{scheme_of}
use Rattle.merkle_claim_theory.specs.Multiproof.{multi_positions, locations_in}
use Rattle.merkle_base.specs.Table.{digest_for}
use Rattle.merkle_scattered.specs.Confirmed.{EachHolds}
use Rattle.merkle_proof.specs.Input.{located_input}
use Rattle.merkle_proof.proofs.ScatteredRoot.{PeaksAre, some_located_given, accepted_each, accepted_root, accepts}
use Rattle.merkle_proof.proofs.multi_checks.verify_located.Goals as goal

never : IsTrue false → ⊥
never e = cc

pub confirm_peaks-requires-clause-ascend : goal.confirm_peaks-requires-clause-ascend
confirm_peaks-requires-clause-ascend g c = c.requires.within.ascend

pub returns-in_default-confirmed : goal.returns-in_default-confirmed
returns-in_default-confirmed g c =
    let h = g.H.Hasher.hashing c.args.hasher.now in
    let rule = g.F.Family.rule in
    let n = c.args.parts.now.leaves in
    let digests = c.args.parts.now.digests.now in
    let s = scheme_of h (g.H.Hasher.bagging_of c.args.hasher.now) rule g.F.Family.MAX_LEAVES g.F.Family.DOMAIN in
    let r = located_input n c.args.parts.now.inactive digests c.args.located.now in
    let some : 0 < length r.elements = some_located_given s r c.requires.within.nonempty in
    let root = c.args.root.now in
    let none : IsNone c.in-Ok.confirmed = search rules in
    rw (g.met.H.Hasher.scheme_is c.args.hasher.now) (
      λ e. absurd (never e),
      λ ok. absurd (c.in-Ok.ensures.none none (subst (λ ps. EachHolds h (digest_for ps digests) r.elements (peaks_of rule n)) (sym c.requires.positions) (accepted_each s r some root ok))),
    )

pub returns-in-Some-root_with_folded_peaks : goal.returns-in-Some-root_with_folded_peaks
returns-in-Some-root_with_folded_peaks g c =
    let h = g.H.Hasher.hashing c.args.hasher.now in
    let rule = g.F.Family.rule in
    let n = c.args.parts.now.leaves in
    let digests = c.args.parts.now.digests.now in
    let s = scheme_of h (g.H.Hasher.bagging_of c.args.hasher.now) rule g.F.Family.MAX_LEAVES g.F.Family.DOMAIN in
    let r = located_input n c.args.parts.now.inactive digests c.args.located.now in
    let some : 0 < length r.elements = some_located_given s r c.requires.within.nonempty in
    let root = c.args.root.now in
    let k = c.args.parts.now.inactive in
    let each : PeaksAre h c.args.positions.now digests c.args.located.now (peaks_of rule n) c.in-Some.peaks.items = search rules in
    let given : PeaksAre h (multi_positions rule n (locations_in r)) digests r.elements (peaks_of rule n) c.in-Some.peaks.items =
    subst (λ ps. PeaksAre h ps digests r.elements (peaks_of rule n) c.in-Some.peaks.items) c.requires.positions each in
    let all = c.deref.result.now in
    let are = c.deref.ensures.value ∙ given.1 in
    let computed = c.in-Some-root_with_folded_peaks.computed in
    let is = c.in-Some-root_with_folded_peaks.ensures.1 ∙ ap (λ z. peaks_root z n k k all) (g.met.H.Hasher.scheme_is c.args.hasher.now) in
    let equal = g.met.H.Digest.Digest.eq_decides computed root in
    rw (g.met.H.Hasher.scheme_is c.args.hasher.now) (
      λ t. accepts s r some root all computed are is c.requires.within (sym (ap length c.requires.positions) ∙ c.requires.count) given.0
          c.in-Some-root_with_folded_peaks.ensures.0.0 (equal.0 (sym c.eq.ensures ∙ t)),
      λ ok. c.eq.ensures ∙ equal.1 (accepted_root s r some root all computed are is ok),
    )
