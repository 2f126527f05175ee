-- A fold of a claim left to right, as a fold of digests.
use Rattle.std.proofs.Common.{◌≡◌, ℕ, suc, Bool, true, List, [], ◌∷◌, length, map, drop, refl, ap₂, ◌∙◌, fold}
use Rattle.std.proofs.lemmas.Bool.{or_left}
use Rattle.merkle_base.specs.Tree.{Tree}
use Rattle.merkle_base.specs.Hashing.{Hashing}
use Rattle.merkle_root_theory.specs.Expression.{PrefixFold, value}
use Rattle.merkle_root_theory.specs.Plan.{Plan, peak, folding, left_fold_plan, meets, tree_meets, outside_parts, path_siblings}
use Rattle.merkle_root_theory.specs.Claim.{claim}
use Rattle.merkle_root_theory.proofs.PartValues.{part_values, value_folding, values_folding}

-- the fold that goes on after a met part
pub value_left_fold : {D : Type 0} (h : Hashing D) (c : ℕ → Bool) (X : ℕ → D) (acc : Plan) (i : ℕ) (ts : List Tree) (os is : List D) → meets c acc ≡ true
    → value h (claim h c X (left_fold_plan acc i ts) os is)
    ≡ fold h.fold (value h (claim h c X acc os is))
    (part_values h c X (map peak ts) (drop (length (outside_parts c acc)) os) (drop (length (path_siblings c acc)) is))
value_left_fold h c X acc i [] os is e = refl
value_left_fold h c X acc i (t ∷ ts) os is e =
    let m = or_left (meets c acc) (tree_meets c t) e in
    value_left_fold h c X (folding (PrefixFold i) acc (peak t)) (suc i) ts os is m
    ∙ ap₂ (fold h.fold) (value_folding h c X (PrefixFold i) acc (peak t) os is m) (values_folding h c X (PrefixFold i) acc (peak t) (map peak ts) os is m)
