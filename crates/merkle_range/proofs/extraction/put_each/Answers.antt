use Rattle.std.proofs.Common.{length, arith, sym, ap, ◌∙◌, subst}
use Rattle.std.proofs.lemmas.List.{length-map}
use Rattle.merkle_base.specs.Tree.{position}
use Rattle.merkle_root_theory.specs.Extract.{single_pairs}
use Rattle.merkle_range.proofs.IndividualPeaks.{position_at, put_single, drop_next, all_taken}
use Rattle.merkle_range.proofs.extraction.put_each.Goals as goal

pub loop-position-preserved : goal.loop-position-preserved
loop-position-preserved g c =
    let first = c.in-Some.ensures.cases.0 in (
      drop_next c.loop-position.position-index c.args.digests.now c.loop-position.rest.now _ _ c.loop-position.invariant.0 first,
      λ h ts e l.
          let w = position_at c.args.positions.now ts e c.loop-position.position-index c.loop-position-test.true c.position-item.result in
          put_single h g.C.Collector.Took g.met.C.Collector.took_both c.loop-position.position-index ts w.0 _ c.args.digests.now
          c.loop-position.rest.now _ _ _ _ _ w.2 w.3 (w.1 ∙ sym c.position-item.is) c.loop-position.invariant.0 first
          (c.loop-position.invariant.1 h ts e l) c.in_ok-put.ensures,
    )

pub returns : goal.returns
returns g c = λ h ts e l.
    subst (λ z. g.C.Collector.Took c.args.collector.now (single_pairs h z c.args.digests.now) c.loop-position.collector)
    (all_taken c.loop-position.position-index ts (omega (arith, c.loop-position-test.false, ap length e, length-map ts position)))
    (c.loop-position.invariant.1 h ts e l)
