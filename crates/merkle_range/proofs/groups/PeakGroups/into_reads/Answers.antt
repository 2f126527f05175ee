use Rattle.std.proofs.Common.{◌∙◌, ◌++◌, ap, sym, append_assoc, map}
use Rattle.std.proofs.lemmas.List.{map-append}
use Rattle.merkle_base.specs.Places.{peaks_of, wholly_before}
use Rattle.merkle_base.specs.Tree.{position}
use Rattle.merkle_root_theory.specs.Range.{overlapping, wholly_after, range_siblings}
use Rattle.merkle_hasher.proofs.PeakNodes.{peaks_at}
use Rattle.merkle_range.proofs.groups.PeakGroups.into_reads.Goals as goal
use Rattle.merkle_root_theory.proofs.Extraction.{all_filter}

pub append_siblings-requires-clause-nodes : goal.append_siblings-requires-clause-nodes
append_siblings-requires-clause-nodes g c =
    let w = c.requires.groups in (
      overlapping c.args.range.now.start c.args.range.now.end (peaks_of g.F.Family.rule w.0),
      c.deref.ensures.value ∙ w.2.over,
      all_filter _ _ _ (peaks_at g.F.Family.rule g.F.Family.MAX_LEAVES w.0 w.1),
    )

pub returns : goal.returns
returns g c = λ n l held.
    let a = c.args.range.now.start in let b = c.args.range.now.end in
    let ts = peaks_of g.F.Family.rule n in
    let before = wholly_before a ts in let after = wholly_after b ts in let inside = range_siblings a b ts in
    c.in_ok-append_siblings.ensures (overlapping a b ts) (c.deref.ensures.value ∙ held.over) (all_filter _ _ _ (peaks_at g.F.Family.rule g.F.Family.MAX_LEAVES n l))
    ∙ ap (λ z. z ++ map position inside) held.outside ∙ sym (map-append position (before ++ after) inside) ∙ ap (map position) (append_assoc before after inside)
