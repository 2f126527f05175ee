use Rattle.std.proofs.Common.{◌≡◌, ◌+◌, length, arith, ap, ap₂, sym, subst}
use Rattle.std.proofs.lemmas.List.{length-map}
use Rattle.merkle_base.specs.Places.{peaks_of, wholly_before}
use Rattle.merkle_root_theory.specs.Layouts.{count_after}
use Rattle.merkle_root_theory.specs.Outside.{single_after}
use Rattle.merkle_root_theory.specs.Range.{overlapping, wholly_after}
use Rattle.merkle_hasher.specs.Subtrees.{subtree_of}
use Rattle.merkle_range.proofs.RangeRoot.{group_count, outside_count, few_peaks}
use Rattle.merkle_range.proofs.groups.PeakGroups.layout.Goals as goal

pub after-requires : goal.after-requires
after-requires g c = let w = c.requires.groups in (w.0, w.1, peaks_of g.F.Family.rule w.2, w.5)

pub new-requires-clause-at_most_64_peaks : goal.new-requires-clause-at_most_64_peaks
new-requires-clause-at_most_64_peaks g c =
    let w = c.requires.groups in let ts = peaks_of g.F.Family.rule w.2 in
    omega (
      arith,
      group_count g.F.Family.rule w.0 w.1 w.2 c.args.self.now w.3 w.5,
      few_peaks g.F.Family.rule g.F.Family.MAX_LEAVES g.F.Family.MAX_NODES w.2 g.met.F.Family.lawful w.4,
      outside_count w.0 w.1 c.args.self.now ts w.5,
      w.5.before,
      c.len.ensures,
      c.after.ensures w.0 w.1 ts w.5,
    )

pub returns-clause-before : goal.returns-clause-before
returns-clause-before g c = λ a b ts held. c.new.ensures.before (wholly_before a ts) (sym held.before)

pub returns-clause-after : goal.returns-clause-after
returns-clause-after g c = λ a b ts held.
    let over : c.len.result ≡ length (overlapping a b ts) = omega (arith, c.len.ensures, ap length held.over, length-map (overlapping a b ts) (subtree_of {F = g.row.F.Denot})) in
    subst (λ m. c.new.result.after ≡ count_after c.args.bagging c.args.inactive m (wholly_after b ts)) (ap₂ (λ x y. x + y) held.before over)
    (c.new.ensures.after (wholly_after b ts) (sym (c.after.ensures a b ts held)))

pub returns-clause-inactive : goal.returns-clause-inactive
returns-clause-inactive g c = λ a b ts held. c.new.ensures.inactive (wholly_before a ts) (sym held.before)

pub returns-clause-prefix : goal.returns-clause-prefix
returns-clause-prefix g c = λ a b ts held. c.new.ensures.prefix (wholly_before a ts) (sym held.before)

pub returns-clause-single : goal.returns-clause-single
returns-clause-single g c = λ a b ts held.
    let over : c.len.result ≡ length (overlapping a b ts) = omega (arith, c.len.ensures, ap length held.over, length-map (overlapping a b ts) (subtree_of {F = g.row.F.Denot})) in
    subst (λ m. c.new.result.single ≡ length (single_after c.args.bagging c.args.inactive m (wholly_after b ts))) (ap₂ (λ x y. x + y) held.before over)
    (c.new.ensures.single (wholly_after b ts) (sym (c.after.ensures a b ts held)))
