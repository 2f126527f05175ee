-- How a list's leaves are hashed to one digest: trees of positions, folded.
use Rattle.std.specs.Prelude.{ℕ, suc, pred, Bool, cond, ◌||◌, List, [], ◌∷◌, ◌++◌, take, drop, map, Option, Some, None}
use Rattle.merkle_base.specs.Tree.{Tree, leaf, join}
use Rattle.merkle_root_theory.specs.Expression.{Place, Join, PrefixFold, SuffixFold, Node, Expression, supplied, computed, value}
use Rattle.merkle_base.specs.declared.family.Bagging.{Bagging}
use Rattle.merkle_base.specs.declared.family.Bagging.TheVariants.{ForwardFold, BackwardFold}
use Rattle.merkle_base.specs.Hashing.{Hashing}

-- how peaks are folded: a peak, or two parts folded at a place
pub data Plan : Type 0 where
  peak : Tree → Plan
  folding : Place → Plan → Plan → Plan

-- the plan that folds further peaks into acc, from left to right, the first of them being peak i
abbrev pub left_fold_plan : Plan → ℕ → List Tree → Plan
left_fold_plan acc i [] = acc
left_fold_plan acc i (t ∷ ts) = left_fold_plan (folding (PrefixFold i) acc (peak t)) (suc i) ts

-- the plan that folds peak i and those after it, from the last one on
abbrev pub right_fold_plan : ℕ → Tree → List Tree → Plan
right_fold_plan i t [] = peak t
right_fold_plan i t (u ∷ us) = folding (SuffixFold i) (peak t) (right_fold_plan (suc i) u us)

-- the plan that joins acc and the fold of the peaks from i on, from the last one on, if there are any
abbrev pub with_right_fold_plan : Plan → ℕ → List Tree → Plan
with_right_fold_plan acc i [] = acc
with_right_fold_plan acc i (t ∷ ts) = folding Join acc (right_fold_plan i t ts)

-- the plan of a root: all peaks folded left to right, or the first max(k, 1) so and the others right to left
abbrev pub root_plan : Bagging → ℕ → List Tree → Option Plan
root_plan bagging k [] = None
root_plan ForwardFold k (t ∷ ts) = Some (left_fold_plan (peak t) 1 ts)
root_plan BackwardFold k (t ∷ ts) =
    let left = left_fold_plan (peak t) 1 (take (pred k) ts) in
    Some (elim (drop (pred k) ts) [ [] ↦ left | u ∷ us ↦ folding Join left (right_fold_plan (suc (pred k)) u us) ])

-- the expression of a tree, with X the leaf digest at each location
abbrev pub node_expression : {D : Type 0} → (ℕ → D) → Tree → Expression D
node_expression X (leaf p i) = supplied (X i)
node_expression X (join p l r) = computed (Node p) (node_expression X l) (node_expression X r)

-- the expression of a plan
abbrev pub plan_expression : {D : Type 0} → (ℕ → D) → Plan → Expression D
plan_expression X (peak t) = node_expression X t
plan_expression X (folding place l r) = computed place (plan_expression X l) (plan_expression X r)

-- the digest of a tree
abbrev pub tree_digest : {D : Type 0} → Hashing D → (ℕ → D) → Tree → D
tree_digest h X t = value h (node_expression X t)

-- the digest of a plan
abbrev pub plan_digest : {D : Type 0} → Hashing D → (ℕ → D) → Plan → D
plan_digest h X p = value h (plan_expression X p)

-- whether some chosen location is under a tree
abbrev pub tree_meets : (ℕ → Bool) → Tree → Bool
tree_meets c (leaf p i) = c i
tree_meets c (join p l r) = tree_meets c l || tree_meets c r

-- whether some chosen location is under a plan
abbrev pub meets : (ℕ → Bool) → Plan → Bool
meets c (peak t) = tree_meets c t
meets c (folding place l r) = meets c l || meets c r

-- the maximal nodes of a tree under which there is no chosen location, left to right
abbrev pub siblings : (ℕ → Bool) → Tree → List Tree
siblings c (leaf p i) = cond (c i) [] (leaf p i ∷ [])
siblings c (join p l r) = cond (tree_meets c l || tree_meets c r) (siblings c l ++ siblings c r) (join p l r ∷ [])

-- the maximal parts of a plan, peaks or folds of peaks, under which there is no chosen location, left to right
abbrev pub outside_parts : (ℕ → Bool) → Plan → List Plan
outside_parts c (peak t) = cond (tree_meets c t) [] (peak t ∷ [])
outside_parts c (folding place l r) = cond (meets c l || meets c r) (outside_parts c l ++ outside_parts c r) (folding place l r ∷ [])

-- the maximal nodes without a chosen location below the peaks with one, left to right
abbrev pub path_siblings : (ℕ → Bool) → Plan → List Tree
path_siblings c (peak t) = cond (tree_meets c t) (siblings c t) []
path_siblings c (folding place l r) = cond (meets c l || meets c r) (path_siblings c l ++ path_siblings c r) []

-- the honest digests of a plan: those of its outer parts, and then those of its path siblings
abbrev pub honest_digests : {D : Type 0} → Hashing D → (ℕ → D) → (ℕ → Bool) → Plan → List D
honest_digests h X c p = map (plan_digest h X) (outside_parts c p) ++ map (tree_digest h X) (path_siblings c p)
