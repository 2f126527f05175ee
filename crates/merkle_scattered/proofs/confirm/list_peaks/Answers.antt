use Rattle.std.proofs.Common.{arith, refl, ◌∙◌}
use Rattle.merkle_base.specs.Tree.{first_leaf}
use Rattle.merkle_hasher.proofs.PeakWalk.{walk_begins, next_peak, walk_on, walk_ends}
use Rattle.merkle_scattered.proofs.LocatedIndices.{located_before-within}
use Rattle.merkle_scattered.proofs.CheckedPeaks.{list_begins, list_more}
use Rattle.merkle_scattered.proofs.confirm.list_peaks.Goals as goal

pub loop-subtree-init : goal.loop-subtree-init
loop-subtree-init g c = (
  tt,
  tt,
  walk_begins _ _ _ _ (c.into_iter-subtree-iterator.ensures.into_iter_gives ∙ c.peak_subtrees-subtree-items.ensures) (list_begins c.args.located.now _ _ c.new-peaks.ensures.items refl),
)

pub leaf_end-requires : goal.leaf_end-requires
leaf_end-requires g c =
    let n = next_peak _ _ _ c.requires.within_max_leaves _ _ c.loop-subtree.invariant.2 _ _ c.in-Some.ensures.steps in (n.tree, n.denotes)

pub count_before-to-requires : goal.count_before-to-requires
count_before-to-requires g c =
    omega (arith, c.loop-subtree.invariant.2.holds.1, located_before-within c.loop-subtree.invariant.2.begin c.args.located.now)

pub loop-subtree-preserved : goal.loop-subtree-preserved
loop-subtree-preserved g c =
    let n = next_peak _ _ _ c.requires.within_max_leaves _ _ c.loop-subtree.invariant.2 _ _ c.in-Some.ensures.steps in (
      tt,
      tt,
      walk_on _ _ _ _ _ _ _ n
          (list_more c.args.located.now _ n.tree n.is c.loop-subtree.from c.count_before-to.result c.leaf_end.result _ refl (c.leaf_end.ensures n.tree n.denotes) c.count_before-to.ensures
          _ _ c.in_ok-push.ensures.items n.done n.holds),
    )

pub returns : goal.returns
returns g c = (walk_ends _ _ _ _ c.loop-subtree.invariant.2 c.in-None.ensures.steps.0).0
