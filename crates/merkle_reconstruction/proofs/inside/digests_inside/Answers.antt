use Rattle.std.proofs.Common.{sym, subst, ap, ◌∙◌, map}
use Rattle.merkle_hasher.specs.Subtrees.{Denotes}
use Rattle.merkle_root_theory.specs.Walk.{leaf_from}
use Rattle.merkle_reconstruction.specs.Inside.{AreChildDigests}
use Rattle.merkle_reconstruction.proofs.NodeElements.{element_means}
use Rattle.merkle_root_theory.proofs.Grouping.{if_ok_both}
use Rattle.merkle_reconstruction.proofs.InsideLists.{are_known}
use Rattle.merkle_reconstruction.proofs.inside.digests_inside.Goals as goal

pub collect_inside-requires-clause-node : goal.collect_inside-requires-clause-node
collect_inside-requires-clause-node g c =
    let n = c.requires.nodes in
    let w = element_means g.F.Family.rule g.F.Family.MAX_LEAVES c.args.peaks.now n.0 n.1 n.2 c.loop-peak.peak-index c.loop-peak-test.true c.peak-item.result in
    (w.0, subst (λ s. Denotes g.F.Family.rule g.F.Family.MAX_LEAVES s w.0) (sym c.peak-item.is) w.1)

pub loop-peak-preserved : goal.loop-peak-preserved
loop-peak-preserved g c = (c.in_ok-collect_inside.ensures.tall c.loop-peak.invariant.0, c.in_ok-collect_inside.ensures.parents (g.H.Hasher.hashing c.args.hasher.now) c.loop-peak.invariant.1)

pub returns : goal.returns
returns g c =
    let h = g.H.Hasher.hashing c.args.hasher.now in
    let leaf = leaf_from h c.args.range.now.start c.args.leaves.now in
    let below = subst (λ z. AreChildDigests h g.F.Family.rule g.F.Family.MAX_LEAVES leaf c.deref-2.result.now z) (sym c.deref-3.ensures.value)
    (subst (λ z. AreChildDigests h g.F.Family.rule g.F.Family.MAX_LEAVES leaf z c.in_ok-below.below.items) (c.deref.ensures.value ∙ sym c.deref-2.ensures.value) c.in_ok-below.ensures) in
    let all = c.in_ok-push_parents.ensures h leaf below c.loop-peak.invariant.1 in
    if_ok_both c.of_parents.result (λ k x y. are_known h g.F.Family.rule g.F.Family.MAX_LEAVES leaf c.push_parents.new.parents.items k.positions.items k.digests.items all
    (x ∙ ap (map (λ e. e.0)) c.deref-4.ensures.value) (y ∙ ap (map (λ e. h.node e.0 e.1 e.2)) c.deref-4.ensures.value)) c.of_parents.ensures.positions c.of_parents.ensures.digests
