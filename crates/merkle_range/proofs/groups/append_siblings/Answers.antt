use Rattle.std.proofs.Common.{sym, subst, take}
use Rattle.merkle_hasher.specs.Subtrees.{Denotes}
use Rattle.merkle_root_theory.proofs.Walks.{more_siblings}
use Rattle.merkle_reconstruction.proofs.NodeElements.{element_means}
use Rattle.merkle_range.proofs.groups.append_siblings.Goals as goal

pub collect_siblings-requires-clause-node : goal.collect_siblings-requires-clause-node
collect_siblings-requires-clause-node g c =
    let n = c.requires.nodes in
    let w = element_means g.F.Family.rule g.F.Family.MAX_LEAVES c.args.peaks.now n.0 n.1 n.2 c.loop-peak.peak-index c.loop-peak-test.true c.peak-item.result in
    (w.0, subst (λ s. Denotes g.F.Family.rule g.F.Family.MAX_LEAVES s w.0) (sym c.peak-item.is) w.1)

pub loop-peak-preserved : goal.loop-peak-preserved
loop-peak-preserved g c = λ ts e h.
    let w = element_means g.F.Family.rule g.F.Family.MAX_LEAVES c.args.peaks.now ts e h c.loop-peak.peak-index c.loop-peak-test.true c.peak-item.result in
    more_siblings _ (take c.loop-peak.peak-index ts) _ w.0 _ _ _ w.2 (c.loop-peak.invariant ts e h)
    (c.in_ok-collect_siblings.ensures w.0 (subst (λ s. Denotes g.F.Family.rule g.F.Family.MAX_LEAVES s w.0) (sym c.peak-item.is) w.1))
