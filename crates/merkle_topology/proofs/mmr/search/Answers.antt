use Rattle.std.proofs.Common.{◌≡◌, ◌+◌, ◌-◌, ◌/◌, ◌<◌, ◌≤◌, min, inl, inr, arith, rules}
use Rattle.merkle_forest_theory.specs.Mmr.{mmr_merges}
use Rattle.merkle_forest_theory.proofs.RangeLawful.{mmr_lawful}
use Rattle.merkle_topology.proofs.LeafCounts.{size_of_half, size_past_half}
use Rattle.merkle_topology.proofs.Searches.{narrowed_halved, narrowed_kept, probes_left}
use Rattle.merkle_topology.proofs.mmr.search.Goals as goal
use Rattle.merkle_topology.proofs.mmr.search.Goals.{then-probes-lt2, else-probes-lt2}

pub loop-low-init : goal.loop-low-init
loop-low-init c =
    let high : c.min-high.result ≡ min (c.args.nodes / 2 + 32) 4611686018427387904 = search rules in
    record {
      ordered = omega arith;
      limit = omega arith;
      within = size_of_half mmr_merges c.args.nodes;
      greatest = rw high (size_past_half mmr_merges _ _ mmr_lawful c.args.nodes (omega arith));
      halved = omega arith;
      begun = inl (omega arith);
      counted = omega arith;
    }

pub loop-low-preserved : goal.loop-low-preserved
loop-low-preserved c =
    let i = c.loop-low.invariant in
    let kept = c.narrow.ensures.kept in
    let left : c.loop-low.probes ≤ 7 = probes_left c.loop-low.low c.loop-low.high c.loop-low.probes c.loop-low-test.true i.halved in
    record {
      ordered = kept.1;
      limit = omega (arith, kept.2, i.limit);
      within = c.narrow.ensures.within;
      greatest = c.narrow.ensures.greatest;
      halved = elim c.if-probes-lt2.branch [
        | then-probes-lt2 w ↦ narrowed_kept c.loop-low.low c.loop-low.high c.narrow.result.0 c.narrow.result.1 c.loop-low.probes w.if-probes-lt2.true kept i.halved
        | else-probes-lt2 w ↦ narrowed_halved c.loop-low.low c.loop-low.high c.if-probes-lt2.leaves c.narrow.result.0 c.narrow.result.1
            c.loop-low.probes w.if-probes-lt2.false w.leaves-is c.loop-low-test.true kept c.narrow.ensures.narrowed i.halved
      ];
      begun = inr (omega arith);
      counted = omega (arith, left);
    }
