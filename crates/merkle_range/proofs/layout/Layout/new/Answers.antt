use Rattle.std.proofs.Common.{◌+◌, ◌-◌, arith}
use Rattle.merkle_root_theory.specs.Outside.{folded_prefix, folded_suffix}
use Rattle.merkle_root_theory.proofs.LayoutCounts.{length-fold_all, length-bag_all, length-single_before, length-folded_suffix}
use Rattle.merkle_range.proofs.layout.Layout.new.Goals as goal

pub returns-clause-before : goal.returns-clause-before
returns-clause-before c = λ ts e.
    let k = c.args.inactive in
    omega (arith, e, c.prefix_count-prefix.ensures.exact ts e, c.min-front.ensures, length-fold_all (folded_prefix c.args.bagging k ts), length-single_before c.args.bagging k ts)

pub returns-clause-after : goal.returns-clause-after
returns-clause-after c = λ ts e.
    let k = c.args.inactive in let met = c.args.before + c.args.over in
    omega (arith, e, c.single_count-single.ensures.exact ts e, c.min.ensures, length-bag_all (met + (k - met)) (folded_suffix c.args.bagging k met ts), length-folded_suffix c.args.bagging k met ts)
