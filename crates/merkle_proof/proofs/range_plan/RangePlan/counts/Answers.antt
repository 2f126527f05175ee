use Rattle.std.proofs.Common.{◌≡◌, ◌+◌, ◌-◌, ◌++◌, ◌≤◌, length, arith, length-append, sym, subst, ap, ◌∙◌}
use Rattle.merkle_base.specs.Places.{peaks_of, wholly_before}
use Rattle.merkle_root_theory.specs.Outside.{folded_prefix, single_after}
use Rattle.merkle_root_theory.specs.Range.{overlapping, wholly_after, range_siblings}
use Rattle.merkle_root_theory.specs.Reads.{nodes_read}
use Rattle.merkle_root_theory.proofs.PeakGroups.{length-peaks_of}
use Rattle.merkle_proof.specs.RangePlans.{LeafRange}
use Rattle.merkle_proof.proofs.range_plan.RangePlan.counts.Goals as goal

pub overflow_sub-self-inside : goal.overflow_sub-self-inside
overflow_sub-self-inside g c =
    let i = c.self.invariant in
    omega (arith, i.peaks_are, i.after_are, length-peaks_of g.F.Family.rule c.self.inside.leaves c.self.inside.range.start c.self.inside.range.end i.nonempty)

pub returns : goal.returns
returns g c =
    let i = c.self.invariant in let rule = g.F.Family.rule in
    let n = c.self.inside.leaves in let a = c.self.inside.range.start in let b = c.self.inside.range.end in
    let ts = peaks_of rule n in let olds = wholly_before a ts in let news = wholly_after b ts in
    let met_is : c.self.inside.peaks - c.self.inside.after ≡ length olds + length (overlapping a b ts) = omega (arith, i.peaks_are, i.after_are, length-peaks_of rule n a b i.nonempty) in
    record {
      before = subst (λ (r : LeafRange). c.self.inside.before ≡ length (wholly_before r.start (peaks_of rule r.leaves))) c.self.view_is i.before_are;
      after = subst (λ (r : LeafRange). c.self.inside.after ≡ length (wholly_after r.end (peaks_of rule r.leaves))) c.self.view_is i.after_are;
      folded = subst (λ (r : LeafRange). c.prefix_count.result ≡ length (folded_prefix c.args.bagging c.args.inactive (wholly_before r.start (peaks_of rule r.leaves)))) c.self.view_is
          (c.prefix_count.ensures.exact olds (sym i.before_are));
      single = subst (λ (r : LeafRange). c.single_count.result
          ≡ length (single_after c.args.bagging c.args.inactive
          (length (wholly_before r.start (peaks_of rule r.leaves)) + length (overlapping r.start r.end (peaks_of rule r.leaves)))
          (wholly_after r.end (peaks_of rule r.leaves)))) c.self.view_is
          (c.single_count.ensures.exact news (sym i.after_are) ∙ ap (λ m. length (single_after c.args.bagging c.args.inactive m news)) met_is);
      within = (c.prefix_count.ensures.within, c.single_count.ensures.within);
      read = subst (λ (r : LeafRange). c.self.inside.before + c.self.inside.after ≤ length (nodes_read rule r.leaves r.start r.end)) c.self.view_is
          (omega (arith, i.before_are, i.after_are, length-append olds (news ++ range_siblings a b ts), length-append news (range_siblings a b ts)));
    }
