use Rattle.std.proofs.Common.{◌≡◌, ◌-◌, take, drop, map, min, arith, sym, ap, ap₂, ◌∙◌, subst, length}
use Rattle.std.proofs.lemmas.List.{length-drop}
use Rattle.merkle_base.specs.Tree.{position}
use Rattle.merkle_base.specs.Places.{wholly_before}
use Rattle.merkle_root_theory.specs.Range.{wholly_after}
use Rattle.merkle_root_theory.specs.Extract.{single_pairs}
use Rattle.merkle_range.proofs.IndividualPeaks.{before_positions}
use Rattle.merkle_range.proofs.extraction.put_before.Goals as goal

pub returns : goal.returns
returns g c = λ h a b ts us held e l.
    let p = c.args.layout.prefix in
    let digests = c.args.digests.now in
    let at : take (c.args.groups.now.before - p) (drop p c.deref.result.now) ≡ map position us =
    ap₂ (λ n xs. take (n - p) (drop p xs)) held.before (c.deref.ensures.value ∙ held.outside) ∙ before_positions (wholly_before a ts) (wholly_after b ts) p ∙ ap (map position) (sym e) in
    let back : c.in-Some.individual.now ≡ drop (min p 1) digests = c.in-Some.ensures.cases.2 ∙ ap (λ n. drop n digests) c.min.ensures in
    subst (λ z. g.C.Collector.Took c.args.collector.now (single_pairs h us z) c.put_each.new.collector) back
    (c.in_ok-put_each.ensures h us at (omega (arith, l, ap length back, length-drop (min p 1) digests)))
