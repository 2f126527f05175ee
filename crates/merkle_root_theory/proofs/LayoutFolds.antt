-- The parts of a layout are folded as the plan folds its peaks.
use Rattle.std.proofs.Common.{◌≡◌, ℕ, zero, suc, pred, ◌+◌, ◌-◌, ◌<◌, ◌≤◌, Bool, true, ◌||◌, List, [], ◌∷◌, ◌++◌, ⊎_elim, length, map, take, drop, fold, refl}
use Rattle.std.proofs.Common.{ap, ap₂, sym, ◌∙◌, arith, append-nil, Some, option_map, drop_of_length-le}
use Rattle.std.proofs.lemmas.Bool.{or_right, cases_lt}
use Rattle.std.proofs.Math.Seq.{take-append-add, drop-append-add}
use Rattle.std.proofs.lemmas.List.{length-take, map-append, take_all, take-append-le, drop-append-le}
use Rattle.merkle_base.specs.Tree.{Tree}
use Rattle.merkle_base.specs.Hashing.{Hashing}
use Rattle.merkle_base.specs.Root.{folded}
use Rattle.merkle_base.specs.declared.family.Bagging.{Bagging}
use Rattle.merkle_base.specs.declared.family.Bagging.TheVariants.{ForwardFold, BackwardFold}
use Rattle.merkle_root_theory.specs.Expression.{PrefixFold, value}
use Rattle.merkle_root_theory.specs.Plan.{Plan, peak, folding, root_plan, left_fold_plan, with_right_fold_plan, meets, tree_meets, outside_parts, path_siblings}
use Rattle.merkle_root_theory.specs.Claim.{claim}
use Rattle.merkle_root_theory.specs.Outside.{fold_all, bag_all, folded_prefix, single_before, single_after, folded_suffix, Met, Unmet}
use Rattle.merkle_root_theory.specs.Layouts.{count_inactive}
use Rattle.merkle_root_theory.proofs.LayoutCounts.{length-fold_all}
use Rattle.merkle_root_theory.proofs.OutsideNodes.{left_fold_append}
use Rattle.merkle_root_theory.proofs.PartValues.{part_values, value_folding, values_folding}
use Rattle.merkle_root_theory.proofs.ForwardValues.{value_left_fold}
use Rattle.merkle_root_theory.proofs.BackwardValues.{folded_from, folded_more, join_reaches, join_left_fold}

-- what stands for the peaks before the range, and for those after it
abbrev pub parts_before : Bagging → ℕ → List Tree → List Plan
parts_before bagging k before = fold_all (folded_prefix bagging k before) ++ map peak (single_before bagging k before)

abbrev pub parts_after : Bagging → ℕ → ℕ → List Tree → List Plan
parts_after bagging k met after = map peak (single_after bagging k met after) ++ bag_all (met + (k - met)) (folded_suffix bagging k met after)

pub parts_before_cons : (k : ℕ) (b : Tree) (bs : List Tree) → parts_before BackwardFold k (b ∷ bs) ≡ left_fold_plan (peak b) 1 (take (pred k) bs) ∷ map peak (drop (pred k) bs)
parts_before_cons zero b bs = refl
parts_before_cons (suc n) b bs = refl

pub parts_before_nil : (k : ℕ) → parts_before BackwardFold k [] ≡ []
parts_before_nil zero = refl
parts_before_nil (suc n) = refl

module _ {D : Type 0} (h : Hashing D) (c : ℕ → Bool) (X : ℕ → D) (k : ℕ) (t : Tree) (over after : List Tree) (m : Met c (t ∷ over)) (v : Unmet c after) (os is : List D) where
  abbrev digest_of : Plan → D
  digest_of p = value h (claim h c X p os is)

  -- the digests of the parts are folded to the claim's
  abbrev pub IsFolded : Bagging → List Tree → Type 0
  IsFolded bagging before =
      folded h.fold bagging (count_inactive bagging k before)
      (part_values h c X (parts_before bagging k before ++ (map peak (t ∷ over) ++ parts_after bagging k (length before + suc (length over)) after)) os is)
      ≡ option_map digest_of (root_plan bagging k (before ++ (t ∷ over ++ after)))

  all_single : map peak over ++ (map peak after ++ []) ≡ map peak (over ++ after)
  all_single = ap (λ z. map peak over ++ z) (append-nil (map peak after)) ∙ sym (map-append peak over after)

  folded_left_fold : (before : List Tree) → IsFolded ForwardFold before
  folded_left_fold [] =
      ap Some (ap (λ ps. fold h.fold (digest_of (peak t))
      (part_values h c X ps (drop (length (outside_parts c (peak t))) os) (drop (length (path_siblings c (peak t))) is))) all_single
      ∙ sym (value_left_fold h c X (peak t) 1 (over ++ after) os is m.0))
  folded_left_fold (b ∷ bs) =
      let acc = left_fold_plan (peak b) 1 bs in let q = PrefixFold (1 + length bs) in
      let met : meets c acc || tree_meets c t ≡ true = or_right (meets c acc) (tree_meets c t) m.0 in
      ap Some (ap₂ (fold h.fold) (sym (value_folding h c X q acc (peak t) os is met)) (sym (values_folding h c X q acc (peak t) (map peak over ++ (map peak after ++ [])) os is met))
      ∙ ap (λ ps. fold h.fold (digest_of (folding q acc (peak t)))
      (part_values h c X ps (drop (length (outside_parts c (folding q acc (peak t)))) os) (drop (length (path_siblings c (folding q acc (peak t)))) is))) all_single
      ∙ sym (value_left_fold h c X (folding q acc (peak t)) (suc (1 + length bs)) (over ++ after) os is met)
      ∙ ap digest_of (sym (left_fold_append c (peak b) 1 bs (t ∷ (over ++ after)))))

  folded_backward : (j n : ℕ) (ps : List Plan) (p : Plan) (qs : List Plan) → j - 1 ≡ n → ps ≡ p ∷ qs → folded h.fold BackwardFold j (part_values h c X ps os is) ≡ Some (folded_from h c X n p qs os is)
  folded_backward j n ps p qs e f = ap (λ z. folded h.fold BackwardFold j (part_values h c X z os is)) f ∙ ap (λ z. Some (folded_from h c X z p qs os is)) e

  -- the folded prefix ends before the range
  folded_before : (b : Tree) (bs : List Tree) → pred k ≤ length bs → IsFolded BackwardFold (b ∷ bs)
  folded_before b bs l =
      let met = suc (length bs) + suc (length over) in
      let acc = left_fold_plan (peak b) 1 (take (pred k) bs) in
      let none : k - met ≡ 0 = omega arith in
      folded_backward (count_inactive BackwardFold k (b ∷ bs)) 0 _ acc (map peak (drop (pred k) bs) ++ (map peak (t ∷ over) ++ bag_all (met + (k - met)) after))
      (omega (arith, length-fold_all (take k (b ∷ bs)), length-take k (b ∷ bs)))
      (ap₂ (λ z n. z ++ (map peak (t ∷ over) ++ (map peak (take n after) ++ bag_all (met + (k - met)) (drop n after)))) (parts_before_cons k b bs) none)
      ∙ ap Some (join_reaches h c X acc (suc (pred k)) (met + (k - met)) (drop (pred k) bs) t over after os is m v
      ∙ ap₂ (λ x y. digest_of (with_right_fold_plan (left_fold_plan (peak b) 1 x) (suc (pred k)) y))
      (sym (take-append-le (pred k) bs (t ∷ over ++ after) l)) (sym (drop-append-le (pred k) bs (t ∷ over ++ after) l)))

  -- or reaches all peaks before it
  folded_past : (b : Tree) (bs : List Tree) → length bs < pred k → IsFolded BackwardFold (b ∷ bs)
  folded_past b bs l =
      let met = suc (length bs) + suc (length over) in
      let n = pred k - suc (length bs) in
      let acc = left_fold_plan (peak b) 1 bs in let q = PrefixFold (1 + length bs) in
      let far : pred k ≡ length bs + suc (pred k - suc (length bs)) = omega arith in
      let later = map peak over ++ parts_after BackwardFold k met after in
      let reached : meets c acc || tree_meets c t ≡ true = or_right (meets c acc) (tree_meets c t) m.0 in
      folded_backward (count_inactive BackwardFold k (b ∷ bs)) (suc n) _ acc (peak t ∷ later)
      (omega (arith, length-fold_all (take k (b ∷ bs)), length-take k (b ∷ bs)))
      (ap (λ z. z ++ peak t ∷ later) (parts_before_cons k b bs ∙ ap₂ (λ x y. left_fold_plan (peak b) 1 x ∷ map peak y) (take_all (pred k) bs (omega arith)) (drop_of_length-le bs (omega arith))))
      ∙ ap Some (folded_more h c X n (1 + length bs) acc t later os is reached
      ∙ join_left_fold h c X (folding q acc (peak t)) (suc (1 + length bs)) (suc (pred k)) (met + (k - met)) n (k - met) over after os is reached m.1 v (omega arith)
      ∙ ap (λ z. digest_of (with_right_fold_plan z (suc (pred k)) (drop n (over ++ after)))) (sym (left_fold_append c (peak b) 1 bs (t ∷ take n (over ++ after))))
      ∙ ap₂ (λ x y. digest_of (with_right_fold_plan (left_fold_plan (peak b) 1 x) (suc (pred k)) y))
      (sym (ap (λ z. take z (bs ++ (t ∷ over ++ after))) far ∙ take-append-add bs (t ∷ over ++ after) (suc n)))
      (sym (ap (λ z. drop z (bs ++ (t ∷ over ++ after))) far ∙ drop-append-add bs (t ∷ over ++ after) (suc n))))

  -- or there is none before it
  folded_none : IsFolded BackwardFold []
  folded_none =
      let met = 0 + suc (length over) in
      let later = map peak over ++ parts_after BackwardFold k met after in
      folded_backward (count_inactive BackwardFold k []) (pred k) _ (peak t) later
      (omega (arith, length-fold_all (take k []), length-take {A = Tree} k [])) (ap (λ z. z ++ peak t ∷ later) (parts_before_nil k))
      ∙ ap Some (join_left_fold h c X (peak t) 1 (suc (pred k)) (met + (k - met)) (pred k) (k - met) over after os is m.0 m.1 v (omega arith))

  pub parts_folded : (bagging : Bagging) (before : List Tree) → IsFolded bagging before
  parts_folded ForwardFold before = folded_left_fold before
  parts_folded BackwardFold [] = folded_none
  parts_folded BackwardFold (b ∷ bs) = ⊎_elim (folded_past b bs) (folded_before b bs) (cases_lt (length bs) (pred k))
