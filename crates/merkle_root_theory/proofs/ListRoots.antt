-- The root over the plan of a list's peaks is the list's root.
use Rattle.std.proofs.Common.{◌≡◌, ℕ, suc, pred, ◌-◌, length, List, [], ◌∷◌, map, take, drop, refl, ap, ap₂, sym, ◌∙◌, arith, Some, option_map, fold, slice_get}
use Rattle.std.specs.Option.{option_map_or}
use Rattle.std.proofs.lemmas.List.{take-map, drop-map}
use Rattle.std.proofs.lemmas.Option.{slice_get-map}
use Rattle.merkle_base.specs.Tree.{Tree, leaf, join}
use Rattle.merkle_base.specs.Hashing.{Hashing}
use Rattle.merkle_base.specs.Digests.{digest_at, node_digests}
use Rattle.merkle_base.specs.Forest.{forest}
use Rattle.merkle_base.specs.Places.{peaks_of}
use Rattle.merkle_base.proofs.RightFolds.{with_right_fold}
use Rattle.merkle_base.specs.Root.{folded, root_string}
use Rattle.merkle_base.specs.declared.family.Bagging.{Bagging}
use Rattle.merkle_base.specs.declared.family.Bagging.TheVariants.{ForwardFold, BackwardFold}
use Rattle.merkle_root_theory.specs.Expression.{Place, Join, Expression, computed, value}
use Rattle.merkle_root_theory.specs.Plan.{Plan, peak, folding, left_fold_plan, right_fold_plan, with_right_fold_plan, root_plan, plan_expression, tree_digest}
use Rattle.merkle_root_theory.specs.Range.{leaf_of}
use Rattle.merkle_root_theory.specs.ListRoot.{RootsAgree}
use Rattle.merkle_root_theory.proofs.BuiltLayouts.{fold_values, right_fold_values}

-- the digest of a list at a node, by location
pub digest_at_is : {D : Type 0} (h : Hashing D) (xs : List D) (t : Tree) → digest_at h xs t ≡ tree_digest h (leaf_of h xs) t
digest_at_is h xs (leaf p i) = refl
digest_at_is h xs (join p l r) = ap₂ (h.node p) (digest_at_is h xs l) (digest_at_is h xs r)

-- and by position
pub node_digest_is : {D : Type 0} (h : Hashing D) (rule : List ℕ → List ℕ) (xs : List D) (p : ℕ) (t : Tree) → slice_get (forest rule (length xs)).nodes p ≡ Some t
    → slice_get (node_digests h rule xs) p ≡ Some (tree_digest h (leaf_of h xs) t)
node_digest_is h rule xs p t e =
    slice_get-map (digest_at h xs) (forest rule (length xs)).nodes p ∙ ap (option_map (digest_at h xs)) e ∙ ap Some (digest_at_is h xs t)

-- expressions of plans, of which a fold's is that of its two parts at its place
module _ {D : Type 0} (h : Hashing D) (E : Plan → Expression D) (folds : (place : Place) (l r : Plan) → E (folding place l r) ≡ computed place (E l) (E r)) where
  abbrev plan_value : Plan → D
  plan_value p = value h (E p)

  abbrev peak_value : Tree → D
  peak_value t = plan_value (peak t)

  join_is : (acc : Plan) (i : ℕ) (ts : List Tree) → with_right_fold h.fold (plan_value acc) (map peak_value ts) ≡ plan_value (with_right_fold_plan acc i ts)
  join_is acc i [] = refl
  join_is acc i (t ∷ ts) = ap (λ o. option_map_or (h.fold (plan_value acc)) o (plan_value acc)) (right_fold_values h E folds i t ts) ∙ sym (ap (value h) (folds Join acc (right_fold_plan i t ts)))

  -- the peaks' values are folded to the plan's
  pub folded_values : (bagging : Bagging) (k : ℕ) (ts : List Tree) → folded h.fold bagging k (map peak_value ts) ≡ option_map (value h) (option_map E (root_plan bagging k ts))
  folded_values bagging k [] = refl
  folded_values ForwardFold k (t ∷ ts) = ap Some (fold_values h E folds (peak t) 1 ts)
  folded_values BackwardFold k (t ∷ ts) =
      let less : k - 1 ≡ pred k = omega arith in
      ap Some (ap (λ n. with_right_fold h.fold (fold h.fold (peak_value t) (take n (map peak_value ts))) (drop n (map peak_value ts))) less
      ∙ ap₂ (λ us vs. with_right_fold h.fold (fold h.fold (peak_value t) us) vs) (take-map peak_value (pred k) ts) (drop-map peak_value (pred k) ts)
      ∙ ap (λ z. with_right_fold h.fold z (map peak_value (drop (pred k) ts))) (fold_values h E folds (peak t) 1 (take (pred k) ts))
      ∙ join_is (left_fold_plan (peak t) 1 (take (pred k) ts)) (suc (pred k)) (drop (pred k) ts))

folded_is : {D : Type 0} (h : Hashing D) (X : ℕ → D) (bagging : Bagging) (k : ℕ) (ts : List Tree)
    → folded h.fold bagging k (map (tree_digest h X) ts) ≡ option_map (value h) (option_map (plan_expression X) (root_plan bagging k ts))
folded_is h X bagging k ts = folded_values h (plan_expression X) (λ place l r. refl) bagging k ts

pub digests_are : {D : Type 0} (h : Hashing D) (xs : List D) (ts : List Tree) → map (digest_at h xs) ts ≡ map (tree_digest h (leaf_of h xs)) ts
digests_are h xs [] = refl
digests_are h xs (t ∷ ts) = ap₂ (λ d ds. d ∷ ds) (digest_at_is h xs t) (digests_are h xs ts)

pub roots_agree : {D : Type 0} → RootsAgree D
roots_agree s xs k =
    let ts = peaks_of s.rule (length xs) in
    ap (λ o. s.hashing.hash (root_string s.hashing s.domain s.bagging (length xs) k o))
    (sym (ap (folded s.hashing.fold s.bagging k) (digests_are s.hashing xs ts) ∙ folded_is s.hashing (leaf_of s.hashing xs) s.bagging k ts))
