use Rattle.std.proofs.Common.{◌≡◌, ◌+◌, ◌-◌, take, drop, map, arith, sym, ap, ap₂, ◌∙◌, subst, length}
use Rattle.std.proofs.lemmas.List.{length-drop}
use Rattle.merkle_base.specs.Tree.{position}
use Rattle.merkle_base.specs.Places.{wholly_before}
use Rattle.merkle_root_theory.specs.Range.{wholly_after}
use Rattle.merkle_root_theory.specs.Extract.{single_pairs}
use Rattle.merkle_range.proofs.IndividualPeaks.{after_positions}
use Rattle.merkle_range.proofs.extraction.put_after.Goals as goal

pub returns : goal.returns
returns g c = λ h a b ts us held e l.
    let n = c.args.layout.single in
    let first = c.args.groups.now.before in
    let digests = c.args.digests.now in
    let long : first + n - first ≡ n = omega arith in
    let at : take (first + n - first) (drop first c.deref.result.now) ≡ map position us =
    ap (λ k. take k (drop first c.deref.result.now)) long ∙ ap₂ (λ k xs. take n (drop k xs)) held.before (c.deref.ensures.value ∙ held.outside)
    ∙ after_positions (wholly_before a ts) (wholly_after b ts) n ∙ ap (map position) (sym e) in
    let back : c.in-Some.individual.now ≡ drop c.args.layout.before digests = c.in-Some.ensures.cases.2 in
    subst (λ z. g.C.Collector.Took c.args.collector.now (single_pairs h us z) c.put_each.new.collector) back
    (c.in_ok-put_each.ensures h us at (omega (arith, l, ap length back, length-drop c.args.layout.before digests)))
