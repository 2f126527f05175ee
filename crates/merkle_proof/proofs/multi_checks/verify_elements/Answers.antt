use Rattle.std.proofs.Common.{◌≡◌, ◌↔◌, false, IsTrue, IsNone, IfOk, rules, ap, ap₂, sym, subst, ◌∙◌}
use Rattle.std.specs.List.Sorted.{IsStrictlyIncreasing}
use Rattle.merkle_base.specs.Scheme.{Scheme, scheme_of}
use Rattle.merkle_claim_theory.specs.Multiproof.{AcceptsMultiCases, multi_positions}
use Rattle.merkle_scattered.specs.Confirmed.{locations_of}
use Rattle.merkle_scattered.specs.MultiPositions.{AreLocations}
use Rattle.merkle_proof.specs.Input.{element_leaves, located_input, multi_input}
use Rattle.merkle_proof.proofs.ScatteredRoot.{within_limit, locations_given, some_given, never_read}
use Rattle.merkle_proof.proofs.multi_checks.verify_elements.Goals as goal

never : IsTrue false → ⊥
never e = cc

pub returns-in_default-2 : goal.returns-in_default-2
returns-in_default-2 g c =
    let h = g.H.Hasher.hashing c.args.hasher.now in
    let rule = g.F.Family.rule in
    let n = c.args.parts.now.leaves in
    let ls = c.args.elements.now in
    let read = c.deref.ensures.value ∙ c.in-Ok.ensures in
    let s = scheme_of h (g.H.Hasher.bagging_of c.args.hasher.now) rule g.F.Family.MAX_LEAVES g.F.Family.DOMAIN in
    let r = multi_input s n c.args.parts.now.inactive c.args.parts.now.digests.now ls in
    let none : IsNone c.in_ok-positions.field-0 = search rules in
    rw (g.met.H.Hasher.scheme_is c.args.hasher.now) (
      λ e. absurd (never e),
      λ ok. absurd
          (never_read s r (some_given h rule ls c.requires.nonempty) c.args.root.now c.deref.result.now (locations_given h rule ls ∙ sym read)
          (c.in_ok-positions.ensures.none none) ok),
    )

pub located_digests-requires : goal.located_digests-requires
located_digests-requires g c =
    let h = g.H.Hasher.hashing c.args.hasher.now in
    let rule = g.F.Family.rule in
    let n = c.args.parts.now.leaves in
    let ls = c.args.elements.now in
    let read = c.deref.ensures.value ∙ c.in-Ok.ensures in
    let at : AreLocations g.F.Family.MAX_LEAVES n c.deref.result.now = search rules in
    within_limit ls (subst (AreLocations g.F.Family.MAX_LEAVES n) read at)

pub verify_located-requires-clause-within : goal.verify_located-requires-clause-within
verify_located-requires-clause-within g c =
    let h = g.H.Hasher.hashing c.args.hasher.now in
    let rule = g.F.Family.rule in
    let n = c.args.parts.now.leaves in
    let ls = c.args.elements.now in
    let read = c.deref.ensures.value ∙ c.in-Ok.ensures in
    let located = c.deref-3.ensures.value ∙ c.in-Ok-located_digests.ensures in
    let same : locations_of c.deref-3.result.now ≡ c.deref.result.now = ap locations_of located ∙ locations_given h rule ls ∙ sym read in
    let at : AreLocations g.F.Family.MAX_LEAVES n c.deref.result.now = search rules in
    subst (AreLocations g.F.Family.MAX_LEAVES n) (sym same) at

pub verify_located-requires-clause-positions : goal.verify_located-requires-clause-positions
verify_located-requires-clause-positions g c =
    let h = g.H.Hasher.hashing c.args.hasher.now in
    let rule = g.F.Family.rule in
    let n = c.args.parts.now.leaves in
    let ls = c.args.elements.now in
    let read = c.deref.ensures.value ∙ c.in-Ok.ensures in
    let located = c.deref-3.ensures.value ∙ c.in-Ok-located_digests.ensures in
    let same : locations_of c.deref-3.result.now ≡ c.deref.result.now = ap locations_of located ∙ locations_given h rule ls ∙ sym read in
    let positions : c.in-Some.positions.items ≡ multi_positions rule n c.deref.result.now = search rules in
    c.deref-2.ensures.value ∙ positions ∙ ap (multi_positions rule n) (sym same)

pub verify_located-requires-clause-rises : goal.verify_located-requires-clause-rises
verify_located-requires-clause-rises g c =
    let rises : IsStrictlyIncreasing c.in-Some.positions.items = search rules in
    subst IsStrictlyIncreasing (sym c.deref-2.ensures.value) rises

pub returns : goal.returns
returns g c =
    let s = g.H.Hasher.scheme c.args.hasher.now in
    let is = g.met.H.Hasher.scheme_is c.args.hasher.now in
    let ls = c.args.elements.now in
    let p = c.args.parts.now in
    subst (λ located. IfOk c.verify_located.result (λ yes. IsTrue yes ↔ AcceptsMultiCases s (located_input p.leaves p.inactive p.digests.now located) c.args.root.now))
    (c.deref-3.ensures.value ∙ c.in-Ok-located_digests.ensures
    ∙ ap₂ (λ h rule. element_leaves h rule ls) (sym (ap (λ (z : Scheme g.row.H-Digest.Denot). z.hashing) is))
    (sym (ap (λ (z : Scheme g.row.H-Digest.Denot). z.rule) is))) c.verify_located.ensures
