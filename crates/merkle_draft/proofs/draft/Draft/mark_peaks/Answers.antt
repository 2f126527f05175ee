use Rattle.std.proofs.Common.{arith, sym, ◌∙◌}
use Rattle.merkle_base.specs.Places.{peaks_of}
use Rattle.merkle_base.proofs.PeakLists.{spans_end}
use Rattle.merkle_hasher.proofs.PeakWalk.{walk_begins, next_peak, walk_on, walk_ends}
use Rattle.merkle_draft.proofs.CountBefore.{before_within}
use Rattle.merkle_draft.proofs.Marking.{empty_yes, marked_none, marked_nothing}
use Rattle.merkle_draft.proofs.MarkedPeaks.{peak_marked}
use Rattle.merkle_draft.proofs.draft.Draft.mark_peaks.Goals as goal

pub returns-then-is_empty : goal.returns-then-is_empty
returns-then-is_empty g c = λ m u.
    marked_none m (peaks_of g.F.Family.rule c.args.leaves) c.args.levels.now (sym u ∙ empty_yes c.args.updated.now c.is_empty.result c.is_empty.ensures c.if-is_empty.true)

pub loop-peak-init : goal.loop-peak-init
loop-peak-init g c = (
  tt,
  tt,
  walk_begins _ _ _ _ (c.into_iter-peak-iterator.ensures.into_iter_gives ∙ c.peak_subtrees-peak-items.ensures)
      (record { parted = λ m u. u; marked = λ m u. marked_nothing m c.args.levels.now }),
)

pub leaf_end-requires : goal.leaf_end-requires
leaf_end-requires g c =
    let n = next_peak _ _ _ c.requires.within _ _ c.loop-peak.invariant.2 _ _ c.in-Some.ensures.steps in (n.tree, n.denotes)

pub location_to_position-end-requires : goal.location_to_position-end-requires
location_to_position-end-requires g c =
    let n = next_peak _ _ _ c.requires.within _ _ c.loop-peak.invariant.2 _ _ c.in-Some.ensures.steps in
    omega (arith, c.leaf_end.ensures n.tree n.denotes, spans_end _ _ n.rest n.after, c.requires.within)

pub split_at-requires : goal.split_at-requires
split_at-requires g c = omega (arith, c.count_before.ensures, before_within c.loop-peak.rest.now c.location_to_position-end.result)

pub mark-requires : goal.mark-requires
mark-requires g c =
    let n = next_peak _ _ _ c.requires.within _ _ c.loop-peak.invariant.2 _ _ c.in-Some.ensures.steps in record { node = (n.tree, n.denotes) }

pub loop-peak-preserved : goal.loop-peak-preserved
loop-peak-preserved g c =
    let n = next_peak _ _ _ c.requires.within _ _ c.loop-peak.invariant.2 _ _ c.in-Some.ensures.steps in (
      tt,
      tt,
      walk_on _ _ _ _ _ _ _ n
          (peak_marked g.F.Family.rule c.args.leaves c.args.updated.now c.args.levels.now n.done n.tree n.rest n.after n.here n.built
          c.loop-peak.rest.now c.loop-peak.levels n.holds c.leaf_end.result (c.leaf_end.ensures n.tree n.denotes)
          c.location_to_position-end.result c.count_before.result c.split_at.result.0.now c.split_at.result.1.now
          c.location_to_position-end.ensures c.count_before.ensures c.split_at.ensures.front c.split_at.ensures.back
          c.mark.new.levels (λ m u. c.in_ok-mark.ensures n.tree m n.denotes u)),
    )

pub returns : goal.returns
returns g c = (walk_ends _ _ _ _ c.loop-peak.invariant.2 c.in-None.ensures.steps.0).marked
