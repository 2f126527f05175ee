-- The counts of a layout, from those of peaks.
use Rattle.std.proofs.Common.{◌≡◌, ℕ, ◌+◌, ◌-◌, ◌≤◌, List, [], ◌∷◌, ◌++◌, length, length-append, map, min, arith, refl}
use Rattle.std.proofs.lemmas.List.{length-drop, length-map, length-take}
use Rattle.merkle_base.specs.Tree.{Tree}
use Rattle.merkle_base.specs.declared.family.Bagging.{Bagging}
use Rattle.merkle_base.specs.declared.family.Bagging.TheVariants.{ForwardFold, BackwardFold}
use Rattle.merkle_root_theory.specs.Plan.{peak}
use Rattle.merkle_root_theory.specs.Outside.{fold_all, bag_all, folded_prefix, single_before, single_after, folded_suffix, layout}
use Rattle.merkle_root_theory.specs.Layouts.{count_before, count_after, count_inactive}

-- a fold is one digest, if there are any
pub length-fold_all : (ts : List Tree) → length (fold_all ts) ≡ min (length ts) 1
length-fold_all [] = refl
length-fold_all (t ∷ ts) = omega arith

pub length-bag_all : (i : ℕ) (ts : List Tree) → length (bag_all i ts) ≡ min (length ts) 1
length-bag_all i [] = refl
length-bag_all i (t ∷ ts) = omega arith

-- the peaks that don't stand in the fold stand alone
pub length-single_before : (bagging : Bagging) (k : ℕ) (ts : List Tree) → length (single_before bagging k ts) ≡ length ts - length (folded_prefix bagging k ts)
length-single_before ForwardFold k ts = omega arith
length-single_before BackwardFold k ts = omega (arith, length-drop k ts, length-take k ts)

pub length-folded_suffix : (bagging : Bagging) (k met : ℕ) (ts : List Tree) → length (folded_suffix bagging k met ts) ≡ length ts - length (single_after bagging k met ts)
length-folded_suffix ForwardFold k met ts = omega arith
length-folded_suffix BackwardFold k met ts = omega (arith, length-drop (k - met) ts, length-take (k - met) ts)

pub length-layout : (bagging : Bagging) (k : ℕ) (before over after : List Tree)
    → length (layout bagging k before over after) ≡ count_before bagging k before + count_after bagging k (length before + length over) after
length-layout bagging k before over after =
    let met = length before + length over in
    let first = fold_all (folded_prefix bagging k before) in
    let second = map peak (single_before bagging k before) in
    let third = map peak (single_after bagging k met after) in
    let last = bag_all (met + (k - met)) (folded_suffix bagging k met after) in
    omega (
      arith,
      length-append first (second ++ (third ++ last)),
      length-append second (third ++ last),
      length-append third last,
      length-map (single_before bagging k before) peak,
      length-map (single_after bagging k met after) peak,
    )

-- as many digests of inactive peaks there are as are folded apart
pub inactive_within : (bagging : Bagging) (k : ℕ) (before over after : List Tree) → k ≤ length before + (length over + length after)
    → count_inactive bagging k before ≤ count_before bagging k before + (length over + count_after bagging k (length before + length over) after)
inactive_within ForwardFold k before over after l = omega (arith, l)
inactive_within BackwardFold k before over after l =
    let met = length before + length over in
    omega (arith, l, length-take k before, length-drop k before, length-take (k - met) after)
