use Rattle.std.proofs.Common.{◌<◌, true, length, refl, sym, ap, arith, subst, ◌∙◌}
use Rattle.std.proofs.lemmas.Bool.{not-true, not-false, false≢true}
use Rattle.std.proofs.lemmas.List.{length-map, length-drop}
use Rattle.merkle_claim_theory.specs.Rebuilt.{AllRebuilt, rebuilt_node}
use Rattle.merkle_base.specs.Table.{digest_for}
use Rattle.merkle_hasher.specs.Subtrees.{Denotes, subtree_of}
use Rattle.merkle_range.proofs.IndividualPeaks.{drop_next, all_taken}
use Rattle.merkle_reconstruction.proofs.NodeElements.{element_means}
use Rattle.merkle_range.proofs.PinWalks.{each_more, each_other}
use Rattle.merkle_range.proofs.pins.are_rebuilt.Goals as goal

pub returns-in_default : goal.returns-in_default
returns-in_default g c = λ ts e h long.
    let i = c.loop-peak.peak-index in
    absurd (omega (
      arith,
      long,
      c.in_default.ensures.cases,
      ap length c.loop-peak.invariant.0,
      length-drop i c.args.digests.now,
      c.loop-peak-test.true,
      ap length e,
      length-map ts (subtree_of {F = g.row.F.Denot}),
    ))

pub rebuilt_digest-requires : goal.rebuilt_digest-requires
rebuilt_digest-requires g c =
    let n = c.requires.nodes in
    let w = element_means g.F.Family.rule g.F.Family.MAX_LEAVES c.args.peaks.now n.0 n.1 n.2 c.loop-peak.peak-index c.loop-peak-test.true c.peak-item.result in
    record { node = (w.0, subst (λ s. Denotes g.F.Family.rule g.F.Family.MAX_LEAVES s w.0) (sym c.peak-item.is) w.1) }

pub returns-then-ne : goal.returns-then-ne
returns-then-ne g c = λ ts e h long.
    let i = c.loop-peak.peak-index in
    let f = rebuilt_node (g.H.Hasher.hashing c.args.hasher.now) (digest_for c.args.pins.now.positions.items c.args.pins.now.digests.now) in
    let w = element_means g.F.Family.rule g.F.Family.MAX_LEAVES c.args.peaks.now ts e h i c.loop-peak-test.true c.peak-item.result in
    let l : i < length ts = omega (arith, c.loop-peak-test.true, ap length e, length-map ts (subtree_of {F = g.row.F.Denot})) in
    let is = c.rebuilt_digest.ensures w.0 (subst (λ s. Denotes g.F.Family.rule g.F.Family.MAX_LEAVES s w.0) (sym c.peak-item.is) w.1) in
    let equal = g.met.H.Digest.Digest.eq_decides c.rebuilt_digest.result c.in-Some.digest.now in
    let differs = not-true _ (sym c.ne.ensures ∙ c.if-ne.true) in (
      (λ x. absurd (false≢true x)),
      (λ v. sym differs ∙ equal.1 (each_other (g.H.Hasher.hashing c.args.hasher.now) f i ts w.0 c.args.digests.now c.loop-peak.rest.now _ _ _ w.2 l
          c.loop-peak.invariant.0 c.in-Some.ensures.cases.0 is v)),
    )

pub loop-peak-preserved : goal.loop-peak-preserved
loop-peak-preserved g c =
    let i = c.loop-peak.peak-index in
    let first = c.in-Some.ensures.cases.0 in (
      drop_next i c.args.digests.now c.loop-peak.rest.now _ _ c.loop-peak.invariant.0 first,
      λ ts e h.
          let f = rebuilt_node (g.H.Hasher.hashing c.args.hasher.now) (digest_for c.args.pins.now.positions.items c.args.pins.now.digests.now) in
          let w = element_means g.F.Family.rule g.F.Family.MAX_LEAVES c.args.peaks.now ts e h i c.loop-peak-test.true c.peak-item.result in
          let l : i < length ts = omega (arith, c.loop-peak-test.true, ap length e, length-map ts (subtree_of {F = g.row.F.Denot})) in
          let is = c.rebuilt_digest.ensures w.0 (subst (λ s. Denotes g.F.Family.rule g.F.Family.MAX_LEAVES s w.0) (sym c.peak-item.is) w.1) in
          let equal = g.met.H.Digest.Digest.eq_decides c.rebuilt_digest.result c.in-Some.digest.now in
          let same = equal.0 (not-false _ (sym c.ne.ensures ∙ c.if-ne.false)) in
          each_more (g.H.Hasher.hashing c.args.hasher.now) f i ts w.0 c.args.digests.now c.loop-peak.rest.now _ _ _ w.2 l c.loop-peak.invariant.0 first is same (c.loop-peak.invariant.1 ts e h),
    )

pub returns : goal.returns
returns g c = λ ts e h long.
    let i = c.loop-peak.peak-index in
    let f = rebuilt_node (g.H.Hasher.hashing c.args.hasher.now) (digest_for c.args.pins.now.positions.items c.args.pins.now.digests.now) in
    let all = all_taken i ts (omega (arith, c.loop-peak-test.false, ap length e, length-map ts (subtree_of {F = g.row.F.Denot}))) in
    ((λ _. subst (λ us. AllRebuilt (g.H.Hasher.hashing c.args.hasher.now) (λ _. true) f us c.args.digests.now) all (c.loop-peak.invariant.1 ts e h)), (λ _. refl))
