use Rattle.std.proofs.Common.{◌≡◌, ◌≤◌, ◌<◌, ◌+◌, arith, sym, ap, ◌∙◌, subst, length, min, take, drop, inl, inr, Some}
use Rattle.std.proofs.lemmas.Result.{err_from_is_err_and}
use Rattle.merkle_base.specs.Places.{peaks_of, wholly_before}
use Rattle.merkle_base.specs.Root.{peaks_root}
use Rattle.merkle_base.specs.Scheme.{scheme_of}
use Rattle.merkle_root_theory.specs.Outside.{fold_all, folded_prefix, single_before, single_after}
use Rattle.merkle_root_theory.specs.Extract.{single_pairs}
use Rattle.merkle_root_theory.proofs.LayoutCounts.{length-fold_all}
use Rattle.merkle_range.proofs.IndividualPeaks.{before_dropped, after_taken, single_within}
use Rattle.merkle_root_theory.specs.Layouts.{count_before, count_after, count_inactive}
use Rattle.merkle_root_theory.specs.Range.{overlapping, wholly_after, end_of}
use Rattle.merkle_root_theory.proofs.Reconstruction.{refusal-missing, refusal-extra}
use Rattle.merkle_range.specs.Input.{digest_input}
use Rattle.merkle_hasher.proofs.PeakNodes.{peaks_at}
use Rattle.merkle_range.proofs.RangeRoot.{outside_count, few_peaks, computed, digests_asked, never_empty, folds_given, all_put}
use Rattle.merkle_range.proofs.checks.root_over_range.Goals as goal
use Rattle.merkle_root_theory.proofs.Extraction.{all_filter}

pub layout-layout-requires-clause-groups : goal.layout-layout-requires-clause-groups
layout-layout-requires-clause-groups g c = (
  c.args.range.now.start,
  c.args.range.now.end,
  c.args.parts.now.leaves,
  omega (arith, c.requires.nonempty, c.requires.end),
  c.requires.within_max_leaves,
  c.requires.groups,
)

pub layout-layout-requires-clause-inactive : goal.layout-layout-requires-clause-inactive
layout-layout-requires-clause-inactive g c =
    omega (arith, c.requires.inactive, few_peaks g.F.Family.rule g.F.Family.MAX_LEAVES g.F.Family.MAX_NODES c.args.parts.now.leaves g.met.F.Family.lawful c.requires.within_max_leaves)

pub peak_digests-requires-clause-nodes : goal.peak_digests-requires-clause-nodes
peak_digests-requires-clause-nodes g c = (
  overlapping c.args.range.now.start c.args.range.now.end (peaks_of g.F.Family.rule c.args.parts.now.leaves),
  c.deref.ensures.value ∙ c.requires.groups.over,
  all_filter _ _ _ (peaks_at g.F.Family.rule g.F.Family.MAX_LEAVES c.args.parts.now.leaves c.requires.within_max_leaves),
)

pub put_after-requires : goal.put_after-requires
put_after-requires g c =
    let k = c.args.parts.now.inactive in
    let a = c.args.range.now.start in let b = c.args.range.now.end in
    let ts = peaks_of g.F.Family.rule c.args.parts.now.leaves in
    let held = c.requires.groups in
    let bagging = c.root_bagging.result in
    let single = single_after bagging k (length (wholly_before a ts) + length (overlapping a b ts)) (wholly_after b ts) in
    let is : c.layout-layout.result.single ≡ length single = c.layout-layout.ensures.single a b ts held in
    let few : length single ≤ length (wholly_after b ts) = single_within bagging k (length (wholly_before a ts) + length (overlapping a b ts)) (wholly_after b ts) in
    record { single = omega (arith, is, few, held.before, outside_count a b c.args.groups.now ts held) }

pub returns-in_err-peaks-clause-err : goal.returns-in_err-peaks-clause-err
returns-in_err-peaks-clause-err g c =
    let p = err_from_is_err_and c.from_residual.result c.from_residual.ensures.1 in
    let h = g.H.Hasher.hashing c.args.hasher.now in
    let bagging = g.H.Hasher.bagging_of c.args.hasher.now in let k = c.args.parts.now.inactive in
    let a = c.args.range.now.start in let b = c.args.range.now.end in
    let ts = peaks_of g.F.Family.rule c.args.parts.now.leaves in
    let held = c.requires.groups in
    let laid = c.layout-layout.result in
    let m_is = subst (λ z. laid.before ≡ count_before z k (wholly_before a ts)) c.root_bagging.ensures (c.layout-layout.ensures.before a b ts held) in
    let n_is = subst (λ z. laid.after ≡ count_after z k (length (wholly_before a ts) + length (overlapping a b ts)) (wholly_after b ts))
    c.root_bagging.ensures (c.layout-layout.ensures.after a b ts held) in
    let s = scheme_of h bagging g.F.Family.rule g.F.Family.MAX_LEAVES g.F.Family.DOMAIN in
    let r = digest_input c.args.parts.now.leaves k c.args.parts.now.digests.now a c.args.leaves.now in
    let asked = digests_asked h bagging g.F.Family.rule g.F.Family.MAX_LEAVES g.F.Family.DOMAIN c.args.parts.now.leaves k c.args.parts.now.digests.now
    a b c.args.leaves.now c.requires.nonempty c.requires.end c.requires.within laid.before laid.after m_is n_is in
    let some : 0 < length r.elements = c.requires.nonempty in
    let within : end_of r ≤ r.leaves = omega (arith, c.requires.end, c.requires.within) in
    let low : k ≤ length ts = c.requires.inactive in
    rw (p.1, p.2, g.met.H.Hasher.scheme_is c.args.hasher.now) (λ n.
    elim (c.in_err-peaks.ensures.err n (overlapping a b ts) (c.deref.ensures.value ∙ held.over)
    (all_filter _ _ _ (peaks_at g.F.Family.rule g.F.Family.MAX_LEAVES c.args.parts.now.leaves c.requires.within_max_leaves))) [
      | inl x ↦ refusal-missing s r some within c.requires.within_max_leaves low (omega (arith, x.0, asked)) ∙ ap Some (sym x.1)
      | inr x ↦ refusal-extra s r some within c.requires.within_max_leaves low (omega (arith, x.0, asked)) ∙ ap Some (sym x.1)
    ])

pub unreachable-requires : goal.unreachable-requires
unreachable-requires g c =
    let h = g.H.Hasher.hashing c.args.hasher.now in
    let bagging = g.H.Hasher.bagging_of c.args.hasher.now in let k = c.args.parts.now.inactive in
    let a = c.args.range.now.start in let b = c.args.range.now.end in
    let ts = peaks_of g.F.Family.rule c.args.parts.now.leaves in
    let held = c.requires.groups in
    let laid = c.layout-layout.result in
    let m_is = subst (λ z. laid.before ≡ count_before z k (wholly_before a ts)) c.root_bagging.ensures (c.layout-layout.ensures.before a b ts held) in
    let n_is = subst (λ z. laid.after ≡ count_after z k (length (wholly_before a ts) + length (overlapping a b ts)) (wholly_after b ts))
    c.root_bagging.ensures (c.layout-layout.ensures.after a b ts held) in
    let j_is = subst (λ z. laid.inactive ≡ count_inactive z k (wholly_before a ts)) c.root_bagging.ensures (c.layout-layout.ensures.inactive a b ts held) in
    let all = c.in_ok-peaks.peaks.items in
    let low : k ≤ length ts = c.requires.inactive in
    let w = c.in_ok-peaks.ensures.ok (overlapping a b ts) (c.deref.ensures.value ∙ held.over)
    (all_filter _ _ _ (peaks_at g.F.Family.rule g.F.Family.MAX_LEAVES c.args.parts.now.leaves c.requires.within_max_leaves)) in
    let same = ap length c.deref-2.ensures.value in
    c.in-None.ensures (
      omega (
        arith,
        same,
        folds_given h bagging g.F.Family.rule g.F.Family.MAX_LEAVES g.F.Family.DOMAIN c.args.parts.now.leaves k c.args.parts.now.digests.now a b
            c.args.leaves.now c.requires.nonempty c.requires.end c.requires.within laid.before laid.after m_is n_is low all w laid.inactive j_is,
      ),
      λ e. absurd (
          never_empty h bagging g.F.Family.rule g.F.Family.MAX_LEAVES g.F.Family.DOMAIN c.args.parts.now.leaves k c.args.parts.now.digests.now a b
          c.args.leaves.now c.requires.nonempty c.requires.end c.requires.within laid.before laid.after m_is n_is all w (sym same ∙ e)),
    )

pub returns-clause-ok : goal.returns-clause-ok
returns-clause-ok g c =
    let h = g.H.Hasher.hashing c.args.hasher.now in
    let bagging = g.H.Hasher.bagging_of c.args.hasher.now in let k = c.args.parts.now.inactive in
    let a = c.args.range.now.start in let b = c.args.range.now.end in
    let ts = peaks_of g.F.Family.rule c.args.parts.now.leaves in
    let held = c.requires.groups in
    let laid = c.layout-layout.result in
    let m_is = subst (λ z. laid.before ≡ count_before z k (wholly_before a ts)) c.root_bagging.ensures (c.layout-layout.ensures.before a b ts held) in
    let n_is = subst (λ z. laid.after ≡ count_after z k (length (wholly_before a ts) + length (overlapping a b ts)) (wholly_after b ts))
    c.root_bagging.ensures (c.layout-layout.ensures.after a b ts held) in
    let j_is = subst (λ z. laid.inactive ≡ count_inactive z k (wholly_before a ts)) c.root_bagging.ensures (c.layout-layout.ensures.inactive a b ts held) in
    let all = c.in_ok-peaks.peaks.items in
    let low : k ≤ length ts = c.requires.inactive in
    let w = c.in_ok-peaks.ensures.ok (overlapping a b ts) (c.deref.ensures.value ∙ held.over)
    (all_filter _ _ _ (peaks_at g.F.Family.rule g.F.Family.MAX_LEAVES c.args.parts.now.leaves c.requires.within_max_leaves)) in
    rw (g.met.H.Hasher.scheme_is c.args.hasher.now)
    (computed h bagging g.F.Family.rule g.F.Family.MAX_LEAVES g.F.Family.DOMAIN c.args.parts.now.leaves k c.args.parts.now.digests.now a b
    c.args.leaves.now c.requires.nonempty c.requires.end c.requires.within laid.before laid.after m_is n_is
    c.requires.within_max_leaves low all w laid.inactive j_is c.in-Some.root
    (c.in-Some.ensures.1 ∙ ap (λ s. peaks_root s c.args.parts.now.leaves laid.inactive k c.deref-2.result.now)
    (g.met.H.Hasher.scheme_is c.args.hasher.now)
    ∙ ap (peaks_root (scheme_of h bagging g.F.Family.rule g.F.Family.MAX_LEAVES g.F.Family.DOMAIN) c.args.parts.now.leaves laid.inactive k) c.deref-2.ensures.value))

pub returns-clause-taken : goal.returns-clause-taken
returns-clause-taken g c =
    let h = g.H.Hasher.hashing c.args.hasher.now in
    let bagging = g.H.Hasher.bagging_of c.args.hasher.now in let k = c.args.parts.now.inactive in
    let a = c.args.range.now.start in let b = c.args.range.now.end in
    let ts = peaks_of g.F.Family.rule c.args.parts.now.leaves in
    let held = c.requires.groups in
    let laid = c.layout-layout.result in
    let m_is = subst (λ z. laid.before ≡ count_before z k (wholly_before a ts)) c.root_bagging.ensures (c.layout-layout.ensures.before a b ts held) in
    let n_is = subst (λ z. laid.after ≡ count_after z k (length (wholly_before a ts) + length (overlapping a b ts)) (wholly_after b ts))
    c.root_bagging.ensures (c.layout-layout.ensures.after a b ts held) in
    let w = c.in_ok-peaks.ensures.ok (overlapping a b ts) (c.deref.ensures.value ∙ held.over)
    (all_filter _ _ _ (peaks_at g.F.Family.rule g.F.Family.MAX_LEAVES c.args.parts.now.leaves c.requires.within_max_leaves)) in
    let before = wholly_before a ts in
    let after = wholly_after b ts in
    let met = length before + length (overlapping a b ts) in
    let given = c.args.parts.now.digests.now in
    let p_is = subst (λ z. laid.prefix ≡ length (folded_prefix z k before)) c.root_bagging.ensures (c.layout-layout.ensures.prefix a b ts held) in
    let q_is = subst (λ z. laid.single ≡ length (single_after z k met after)) c.root_bagging.ensures (c.layout-layout.ensures.single a b ts held) in
    let front : min laid.prefix 1 ≡ length (fold_all (folded_prefix bagging k before)) = ap (λ n. min n 1) p_is ∙ sym (length-fold_all (folded_prefix bagging k before)) in
    let x = subst (λ z. g.C.Collector.Took c.args.collector.now (single_pairs h (single_before bagging k before) (drop z given)) c.put_before.new.collector) front
    (c.in-Ok.ensures h a b ts (single_before bagging k before) held (before_dropped bagging k before ∙ ap (λ n. drop n before) (sym p_is)) (omega (arith, front, w.count, m_is))) in
    let y = c.in_ok-peaks.ensures.taken (overlapping a b ts) (c.deref.ensures.value ∙ held.over)
    (all_filter _ _ _ (peaks_at g.F.Family.rule g.F.Family.MAX_LEAVES c.args.parts.now.leaves c.requires.within_max_leaves)) in
    let z = c.in-Ok-put_after.ensures h a b ts (single_after bagging k met after) held (after_taken bagging k met after ∙ ap (λ n. take n after) (sym q_is)) (omega (arith, w.count, n_is)) in
    rw (g.met.H.Hasher.scheme_is c.args.hasher.now)
    (all_put h bagging g.F.Family.rule g.F.Family.MAX_LEAVES g.F.Family.DOMAIN c.args.parts.now.leaves k given a b c.args.leaves.now
    c.requires.nonempty c.requires.end c.requires.within laid.before laid.after m_is n_is
    g.C.Collector.Took g.met.C.Collector.took_both _ _ _ _ x y z)
