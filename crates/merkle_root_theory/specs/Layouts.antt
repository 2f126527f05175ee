-- How many digests stand for the peaks outside a range, and how a root folds them.
use Rattle.std.specs.Prelude.{ℕ, ◌+◌, ◌-◌, List, ◌++◌, length}
use Rattle.std.specs.Option.{option_to_list}
use Rattle.merkle_base.specs.Tree.{Tree}
use Rattle.merkle_base.specs.Root.{right_fold, folded}
use Rattle.merkle_base.specs.declared.family.Bagging.{Bagging}
use Rattle.merkle_base.specs.declared.family.Bagging.TheVariants.{ForwardFold}
use Rattle.merkle_root_theory.specs.Outside.{fold_all, bag_all, folded_prefix, single_before, single_after, folded_suffix}

-- the digests for the peaks before the range: one for those that are folded, if there are any, and one for each other
abbrev pub count_before : Bagging → ℕ → List Tree → ℕ
count_before bagging k before = length (fold_all (folded_prefix bagging k before)) + length (single_before bagging k before)

-- how many digests a proof has for the peaks after the range: one for each single one, and one for the others, if there are any; met: the
-- number of peaks before the range and of those that overlap it
abbrev pub count_after : Bagging → ℕ → ℕ → List Tree → ℕ
count_after bagging k met after = length (single_after bagging k met after) + length (bag_all (met + (k - met)) (folded_suffix bagging k met after))

-- how many of the digests that the root folds are those of inactive peaks, where one may stand for several
abbrev pub count_inactive : Bagging → ℕ → List Tree → ℕ
count_inactive bagging k before = length (fold_all (folded_prefix bagging k before)) + (k - length (folded_prefix bagging k before))

-- the digests of a proof: the prefix folded left to right, the single ones, the suffix folded right to left, and those of the path siblings
abbrev pub laid_out : {D : Type 0} → (D → D → D) → (prefix single suffix siblings : List D) → List D
laid_out f prefix single suffix siblings = option_to_list (folded f ForwardFold 0 prefix) ++ (single ++ (option_to_list (right_fold f suffix) ++ siblings))
