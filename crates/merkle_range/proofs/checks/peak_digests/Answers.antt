use Rattle.std.proofs.Common.{◌≡◌, ◌+◌, length, drop, drop-drop, arith, rules, ap, ◌∙◌, subst, inl}
use Rattle.std.specs.List.{IsSplitAt}
use Rattle.std.proofs.lemmas.Result.{err_from_is_err_and}
use Rattle.merkle_root_theory.proofs.PeakValues.{all_digests}
use Rattle.merkle_root_theory.specs.Extract.{over_pairs}
use Rattle.merkle_root_theory.specs.Check.{in_range}
use Rattle.merkle_root_theory.specs.Walk.{leaf_from}
use Rattle.merkle_range.proofs.checks.peak_digests.Goals as goal

pub returns-in_err-reconstruct_peaks-clause-err : goal.returns-in_err-reconstruct_peaks-clause-err
returns-in_err-reconstruct_peaks-clause-err g c =
    let p = err_from_is_err_and c.from_residual.result c.from_residual.ensures.1 in
    rw (p.1, p.2) (λ n ts e h. let w = c.in_err-reconstruct_peaks.ensures.err n in inl (omega (arith, w.1 ts e h, c.in-Some.ensures.cases.4, c.in-Some-split_at_checked.ensures.cases.4), w.0))

pub returns-clause-ok : goal.returns-clause-ok
returns-clause-ok g c = λ ts e h.
    let same = g.met.H.Digest.Digest.clone_is_same in
    let front : c.in-Ok.all.items ≡ c.in-Some.before.now = c.in-Ok.ensures.items_if_clones_equal same in
    let empty : length c.reconstruct_peaks.new.digests.now ≡ 0 = search rules in
    let s = c.in-Some.ensures.cases in
    let split : IsSplitAt c.args.parts.now.digests.now c.args.before c.in-Ok.all.items c.in-Some.others.now = (s.0, front ∙ s.1, s.2, ap length front ∙ s.3, s.4) in
    let pushed = c.in-Ok-extend_from_slice.ensures.items in
    all_digests (g.H.Hasher.hashing c.args.hasher.now) _ _ ts c.args.before c.args.after c.args.parts.now.digests.now c.in-Ok.all.items
    c.in-Some.others.now c.in-Some-split_at_checked.after.now c.in-Some-split_at_checked.siblings.now _ _ _
    split c.in-Some-split_at_checked.ensures.cases (c.in_ok-reconstruct_peaks.ensures.ok ts e h) empty pushed

pub returns-clause-taken : goal.returns-clause-taken
returns-clause-taken g c = λ ts e h.
    let h0 = g.H.Hasher.hashing c.args.hasher.now in
    let s = c.in-Some.ensures.cases in
    let r = c.in-Some-split_at_checked.ensures.cases in
    let back : c.in-Some-split_at_checked.siblings.now ≡ drop (c.args.before + c.args.after) c.args.parts.now.digests.now = r.2
    ∙ ap (drop c.args.after) s.2 ∙ drop-drop c.args.after c.args.before c.args.parts.now.digests.now in
    subst (λ z. g.C.Collector.Took c.args.collector.now
    (over_pairs h0 (in_range c.args.range.now.start c.args.range.now.end) (leaf_from h0 c.args.range.now.start c.args.leaves.now) ts z)
    c.reconstruct_peaks.new.collector) back
    (c.in_ok-reconstruct_peaks.ensures.taken ts e h)
