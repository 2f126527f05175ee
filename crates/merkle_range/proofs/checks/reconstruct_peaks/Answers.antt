use Rattle.std.proofs.Common.{◌≡◌, ◌++◌, ◌∷◌, [], sym, subst, take, rules, refl}
use Rattle.std.proofs.lemmas.Result.{err_from_is_err_and}
use Rattle.merkle_hasher.specs.Subtrees.{Denotes}
use Rattle.merkle_reconstruction.proofs.NodeElements.{element_means}
use Rattle.merkle_root_theory.proofs.PeakValues.{walk_more, short_peaks}
use Rattle.merkle_range.proofs.ExtractionWalks.{stands_at, put_more}
use Rattle.merkle_range.proofs.checks.reconstruct_peaks.Goals as goal

pub reconstruct_digest-requires-clause-node : goal.reconstruct_digest-requires-clause-node
reconstruct_digest-requires-clause-node g c =
    let n = c.requires.nodes in
    let w = element_means g.F.Family.rule g.F.Family.MAX_LEAVES c.args.peaks.now n.0 n.1 n.2 c.loop-peak.peak-index c.loop-peak-test.true c.peak-item.result in
    (w.0, subst (λ s. Denotes g.F.Family.rule g.F.Family.MAX_LEAVES s w.0) (sym c.peak-item.is) w.1)

pub loop-peak-preserved : goal.loop-peak-preserved
loop-peak-preserved g c = λ ts e h.
    let w = element_means g.F.Family.rule g.F.Family.MAX_LEAVES c.args.peaks.now ts e h c.loop-peak.peak-index c.loop-peak-test.true c.peak-item.result in
    let pushed : c.push.new.self.items ≡ c.loop-peak.out.items ++ c.in_ok-digest.digest ∷ [] = search rules in
    let m = subst (λ s. Denotes g.F.Family.rule g.F.Family.MAX_LEAVES s w.0) (sym c.peak-item.is) w.1 in (
      walk_more (g.H.Hasher.hashing c.args.hasher.now) _ _ (take c.loop-peak.peak-index ts) _ w.0 _ _ _ _ _ _ _ w.2 (c.loop-peak.invariant ts e h).0
          (c.in_ok-digest.ensures.ok w.0 m) pushed,
      put_more (g.H.Hasher.hashing c.args.hasher.now) _ _ g.C.Collector.Took g.met.C.Collector.took_both (take c.loop-peak.peak-index ts) _ w.0 _ _ _
          _ _ _ _ _ _ _ _ w.2 (stands_at _ _ _ _ _ w.0 m) (c.loop-peak.invariant ts e h).0
          (c.in_ok-digest.ensures.ok w.0 m) (c.loop-peak.invariant ts e h).1 (c.in_ok-digest.ensures.taken w.0 m) (search rules),
    )

pub returns-in_err-digest-clause-err : goal.returns-in_err-digest-clause-err
returns-in_err-digest-clause-err g c =
    let p = err_from_is_err_and c.from_residual.result c.from_residual.ensures.1 in
    rw (p.1, p.2) (λ n. (
      (c.in_err-digest.ensures.err n).0,
      λ ts e h.
          let w = element_means g.F.Family.rule g.F.Family.MAX_LEAVES c.args.peaks.now ts e h c.loop-peak.peak-index c.loop-peak-test.true c.peak-item.result in
          short_peaks (g.H.Hasher.hashing c.args.hasher.now) _ _ ts _ c.loop-peak.peak-index w.0 _ _ _ _ w.2 refl (c.loop-peak.invariant ts e h).0
          ((c.in_err-digest.ensures.err n).1 w.0 (subst (λ s. Denotes g.F.Family.rule g.F.Family.MAX_LEAVES s w.0) (sym c.peak-item.is) w.1)),
    ))
