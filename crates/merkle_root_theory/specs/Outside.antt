-- The layout of a range proof by the peaks before the range, those that overlap it and those after it.
use Rattle.std.specs.Prelude.{◌≡◌, ℕ, Bool, true, false, ◌+◌, ◌-◌, List, [], ◌∷◌, ◌++◌, take, drop, map, length, flat_map, Option, Some, None}
use Rattle.merkle_base.specs.Tree.{Tree}
use Rattle.merkle_root_theory.specs.Plan.{Plan, peak, left_fold_plan, right_fold_plan, root_plan, tree_meets, siblings, outside_parts, path_siblings}
use Rattle.merkle_base.specs.declared.family.Bagging.{Bagging}
use Rattle.merkle_base.specs.declared.family.Bagging.TheVariants.{ForwardFold, BackwardFold}

-- the fold of peaks left to right, if there are any
abbrev pub fold_all : List Tree → List Plan
fold_all [] = []
fold_all (t ∷ ts) = left_fold_plan (peak t) 1 ts ∷ []

-- the fold of peaks right to left, if there are any; i: the number of the first
abbrev pub bag_all : ℕ → List Tree → List Plan
bag_all i [] = []
bag_all i (t ∷ ts) = right_fold_plan i t ts ∷ []

-- the peaks before the range that a proof folds to one digest
abbrev pub folded_prefix : Bagging → ℕ → List Tree → List Tree
folded_prefix ForwardFold k before = before
folded_prefix BackwardFold k before = take k before

-- the peaks before the range whose digests a proof has one by one
abbrev pub single_before : Bagging → ℕ → List Tree → List Tree
single_before ForwardFold k before = []
single_before BackwardFold k before = drop k before

-- the peaks after the range whose digests a proof has one by one; met: the number of peaks before the range and of those that overlap it
abbrev pub single_after : Bagging → ℕ → ℕ → List Tree → List Tree
single_after ForwardFold k met after = after
single_after BackwardFold k met after = take (k - met) after

-- the peaks after the range that a proof folds to one digest; met: the number of peaks before the range and of those that overlap it
abbrev pub folded_suffix : Bagging → ℕ → ℕ → List Tree → List Tree
folded_suffix ForwardFold k met after = []
folded_suffix BackwardFold k met after = drop (k - met) after

-- what the digests of a proof begin with: folded prefix, individual peaks before, individual peaks after, suffix
abbrev pub layout : Bagging → ℕ → List Tree → List Tree → List Tree → List Plan
layout bagging k before over after =
    let met = length before + length over in
    fold_all (folded_prefix bagging k before)
    ++ (map peak (single_before bagging k before)
    ++ (map peak (single_after bagging k met after)
    ++ bag_all (met + (k - met)) (folded_suffix bagging k met after)))

-- no chosen location is under any of the trees
abbrev pub Unmet : (ℕ → Bool) → List Tree → Type 0
Unmet c [] = Unit {0}
Unmet c (t ∷ ts) = (tree_meets c t ≡ false) × Unmet c ts

-- a chosen location is under each of the trees
abbrev pub Met : (ℕ → Bool) → List Tree → Type 0
Met c [] = Unit {0}
Met c (t ∷ ts) = (tree_meets c t ≡ true) × Met c ts

-- the plan has these outer parts and these inner nodes
abbrev pub HasLayout : (ℕ → Bool) → List Plan → List Tree → Option Plan → Type 0
HasLayout c os is None = ⊥
HasLayout c os is (Some p) = (outside_parts c p ≡ os) × (path_siblings c p ≡ is)

-- the parts outside the range are those of the layout
abbrev pub OutsideIsLayout : Type 0
OutsideIsLayout = (c : ℕ → Bool) (bagging : Bagging) (k : ℕ) (before : List Tree) (t : Tree) (over after : List Tree)
    → Unmet c before → Met c (t ∷ over) → Unmet c after
    → HasLayout c (layout bagging k before (t ∷ over) after) (flat_map (siblings c) (t ∷ over)) (root_plan bagging k (before ++ (t ∷ over ++ after)))
