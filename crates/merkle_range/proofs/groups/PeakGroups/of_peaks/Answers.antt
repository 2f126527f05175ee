use Rattle.std.proofs.Common.{arith, refl, ◌∙◌}
use Rattle.merkle_base.specs.Tree.{first_leaf}
use Rattle.merkle_hasher.proofs.PeakWalk.{walk_begins, next_peak, walk_on, walk_ends}
use Rattle.merkle_root_theory.proofs.PeakGroups.{none_after}
use Rattle.merkle_range.proofs.groups.PeakGroups.of_peaks.Goals as goal

pub loop-peak-init : goal.loop-peak-init
loop-peak-init g c = (
  tt,
  tt,
  walk_begins _ _ _ _ (c.into_iter-peak-iterator.ensures.into_iter_gives ∙ c.peak_subtrees-peak-items.ensures)
      (record { before = refl; over = c.new.ensures.items; outside = c.in_ok-with_capacity.ensures.items }),
)

pub put-requires-clause-node : goal.put-requires-clause-node
put-requires-clause-node g c =
    let n = next_peak _ _ _ c.requires.within_max_leaves _ _ c.loop-peak.invariant.2 _ _ c.in-Some.ensures.steps in (n.tree, n.denotes)

pub loop-peak-preserved : goal.loop-peak-preserved
loop-peak-preserved g c =
    let range = c.args.range.now in
    let n = next_peak _ _ _ c.requires.within_max_leaves _ _ c.loop-peak.invariant.2 _ _ c.in-Some.ensures.steps in (
      tt,
      tt,
      walk_on _ _ _ _ _ _ _ n
          (c.in_ok-put.ensures n.done n.tree n.denotes (λ u. none_after range.start range.end 0 (first_leaf n.tree) n.done n.before (omega (arith, u, c.requires.nonempty))) n.holds),
    )

pub returns : goal.returns
returns g c = walk_ends _ _ _ _ c.loop-peak.invariant.2 c.in-None.ensures.steps.0
