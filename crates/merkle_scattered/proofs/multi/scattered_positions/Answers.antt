use Rattle.std.proofs.Common.{refl, sym, subst, nat_le, ◌∙◌}
use Rattle.std.specs.List.Sorted.{IsNonDecreasing}
use Rattle.std.proofs.lemmas.List.Kept.{IsNonDecreasingBy-filter}
use Rattle.std.proofs.lemmas.List.Sorted.{IsNonDecreasingBy-take}
use Rattle.merkle_hasher.proofs.PeakWalk.{walk_begins, next_peak, walk_on, walk_ends}
use Rattle.merkle_scattered.proofs.ScatteredPositions.{collected_none, collected_more}
use Rattle.merkle_scattered.proofs.multi.scattered_positions.Goals as goal

pub loop-peak-init : goal.loop-peak-init
loop-peak-init g c = (
  tt,
  tt,
  walk_begins _ _ _ _ (c.into_iter-peak-iterator.ensures.into_iter_gives ∙ c.peak_subtrees-peak-items.ensures) (collected_none c.args.locations.now _ c.new-positions.ensures.items),
)

pub leaf_end-requires : goal.leaf_end-requires
leaf_end-requires g c =
    let n = next_peak _ _ _ c.requires.within_max_leaves _ _ c.loop-peak.invariant.2 _ _ c.in-Some.ensures.steps in (n.tree, n.denotes)

pub count_before-requires : goal.count_before-requires
count_before-requires g c =
    let w = c.loop-peak.invariant.2 in
    record { ascend = subst IsNonDecreasing (sym w.holds.1) (IsNonDecreasingBy-filter (λ x. x) (λ i. nat_le w.begin i) c.args.locations.now c.requires.ascend) }

pub collect_scattered-requires-clause-node : goal.collect_scattered-requires-clause-node
collect_scattered-requires-clause-node g c =
    let n = next_peak _ _ _ c.requires.within_max_leaves _ _ c.loop-peak.invariant.2 _ _ c.in-Some.ensures.steps in (n.tree, n.denotes)

pub collect_scattered-requires-clause-ascend : goal.collect_scattered-requires-clause-ascend
collect_scattered-requires-clause-ascend g c =
    let w = c.loop-peak.invariant.2 in
    let ascend = subst IsNonDecreasing (sym w.holds.1) (IsNonDecreasingBy-filter (λ x. x) (λ i. nat_le w.begin i) c.args.locations.now c.requires.ascend) in
    subst IsNonDecreasing (sym c.split_at.ensures.front) (IsNonDecreasingBy-take (λ x. x) c.count_before.result c.loop-peak.rest.now ascend)

pub loop-peak-preserved : goal.loop-peak-preserved
loop-peak-preserved g c =
    let n = next_peak _ _ _ c.requires.within_max_leaves _ _ c.loop-peak.invariant.2 _ _ c.in-Some.ensures.steps in (
      tt,
      tt,
      walk_on _ _ _ _ _ _ _ n
          (collected_more _ n.tree n.is c.args.locations.now c.loop-peak.rest.now c.leaf_end.result (c.leaf_end.ensures n.tree n.denotes) c.split_at.result.0.now c.split_at.result.1.now
          (c.split_at.ensures.front ∙ c.count_before.ensures.parts.0, c.split_at.ensures.back ∙ c.count_before.ensures.parts.1)
          _ refl _ _ _ (c.in_ok-collect_scattered.ensures n.tree n.denotes) c.in_ok-append_if.ensures n.done n.holds),
    )

pub returns : goal.returns
returns g c = (walk_ends _ _ _ _ c.loop-peak.invariant.2 c.in-None.ensures.steps.0).0
