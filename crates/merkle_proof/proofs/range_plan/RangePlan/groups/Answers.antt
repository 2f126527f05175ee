use Rattle.std.proofs.Common.{◌≡◌, ℕ, zero, suc, ◌+◌, ◌-◌, List, [], ◌∷◌, length, take, drop, arith, refl, sym, subst, ap, ◌∙◌}
use Rattle.merkle_base.specs.Places.{peaks_of, wholly_before}
use Rattle.merkle_base.specs.Tree.{Tree}
use Rattle.merkle_base.specs.declared.family.Bagging.{Bagging}
use Rattle.merkle_base.specs.declared.family.Bagging.TheVariants.{ForwardFold, BackwardFold}
use Rattle.merkle_root_theory.specs.Outside.{single_after, folded_suffix}
use Rattle.merkle_root_theory.specs.Range.{overlapping, wholly_after}
use Rattle.merkle_root_theory.proofs.PeakGroups.{length-peaks_of}
use Rattle.merkle_proof.specs.RangePlans.{LeafRange}
use Rattle.merkle_proof.proofs.range_plan.RangePlan.groups.Goals as goal

parted : (m : ℕ) (ts : List Tree) → length (take m ts) + length (drop m ts) ≡ length ts
parted zero [] = refl
parted zero (t ∷ ts) = omega (arith)
parted (suc m) [] = refl
parted (suc m) (t ∷ ts) = omega (arith, parted m ts)

-- those after the range stand alone or are folded
apart : (bagging : Bagging) (k met : ℕ) (ts : List Tree) → length (single_after bagging k met ts) + length (folded_suffix bagging k met ts) ≡ length ts
apart ForwardFold k met ts = omega (arith)
apart BackwardFold k met ts = parted (k - met) ts

pub overflow_sub-met : goal.overflow_sub-met
overflow_sub-met g c =
    let i = c.self.invariant in
    omega (arith, i.peaks_are, i.after_are, length-peaks_of g.F.Family.rule c.self.inside.leaves c.self.inside.range.start c.self.inside.range.end i.nonempty)

pub overflow_sub-result-2 : goal.overflow_sub-result-2
overflow_sub-result-2 g c =
    let i = c.self.invariant in
    omega (arith, i.peaks_are, i.after_are, i.before_are, length-peaks_of g.F.Family.rule c.self.inside.leaves c.self.inside.range.start c.self.inside.range.end i.nonempty)

pub returns-clause-overlapping : goal.returns-clause-overlapping
returns-clause-overlapping g c =
    let i = c.self.invariant in let rule = g.F.Family.rule in
    let n = c.self.inside.leaves in let a = c.self.inside.range.start in let b = c.self.inside.range.end in
    subst (λ (r : LeafRange). c.self.inside.peaks - c.self.inside.after - c.self.inside.before ≡ length (overlapping r.start r.end (peaks_of rule r.leaves))) c.self.view_is
    (omega (arith, i.peaks_are, i.after_are, i.before_are, length-peaks_of rule n a b i.nonempty))

pub returns-clause-after : goal.returns-clause-after
returns-clause-after g c =
    let i = c.self.invariant in let rule = g.F.Family.rule in
    let n = c.self.inside.leaves in let a = c.self.inside.range.start in let b = c.self.inside.range.end in
    let ts = peaks_of rule n in let olds = wholly_before a ts in let news = wholly_after b ts in
    let met_is : c.self.inside.peaks - c.self.inside.after ≡ length olds + length (overlapping a b ts) = omega (arith, i.peaks_are, i.after_are, length-peaks_of rule n a b i.nonempty) in
    subst (λ (r : LeafRange). c.single_count-single.result
    ≡ length (single_after c.args.bagging c.args.inactive
    (length (wholly_before r.start (peaks_of rule r.leaves)) + length (overlapping r.start r.end (peaks_of rule r.leaves)))
    (wholly_after r.end (peaks_of rule r.leaves)))) c.self.view_is
    (c.single_count-single.ensures.exact news (sym i.after_are) ∙ ap (λ m. length (single_after c.args.bagging c.args.inactive m news)) met_is)

pub returns-clause-suffix : goal.returns-clause-suffix
returns-clause-suffix g c =
    let i = c.self.invariant in let rule = g.F.Family.rule in
    let n = c.self.inside.leaves in let a = c.self.inside.range.start in let b = c.self.inside.range.end in
    let ts = peaks_of rule n in let olds = wholly_before a ts in let news = wholly_after b ts in
    let met = length olds + length (overlapping a b ts) in
    let met_is : c.self.inside.peaks - c.self.inside.after ≡ met = omega (arith, i.peaks_are, i.after_are, length-peaks_of rule n a b i.nonempty) in
    let single_is : c.single_count-single.result ≡ length (single_after c.args.bagging c.args.inactive met news) =
    c.single_count-single.ensures.exact news (sym i.after_are) ∙ ap (λ m. length (single_after c.args.bagging c.args.inactive m news)) met_is in
    subst (λ (r : LeafRange). c.self.inside.after - c.single_count-single.result
    ≡ length (folded_suffix c.args.bagging c.args.inactive
    (length (wholly_before r.start (peaks_of rule r.leaves)) + length (overlapping r.start r.end (peaks_of rule r.leaves)))
    (wholly_after r.end (peaks_of rule r.leaves)))) c.self.view_is
    (omega (arith, i.after_are, single_is, apart c.args.bagging c.args.inactive met news))
