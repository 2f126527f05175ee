-- A plan as the list of its parts: those that a range doesn't meet, and the peaks that it meets.
use Rattle.std.proofs.Common.{◌≡◌, ℕ, zero, suc, pred, Bool, true, false, cond, ◌||◌, ◌+◌, ◌-◌, ◌≤◌, ◌<◌, List, [], ◌∷◌, ◌++◌, refl, ap, ap₂, sym, ◌∙◌, ⊎_elim}
use Rattle.std.proofs.Common.{arith, length, map, take, drop, Some, append_assoc, append-nil, drop_of_length-le, length-append}
use Rattle.std.proofs.Math.Seq.{take-append-add, drop-append-add}
use Rattle.std.proofs.lemmas.Bool.{or_right, or_left, cases_lt}
use Rattle.std.proofs.lemmas.List.{map-append, length-drop, take_all, take-append-le, drop-append-le}
use Rattle.merkle_base.specs.Tree.{Tree}
use Rattle.merkle_base.specs.declared.family.Bagging.{Bagging}
use Rattle.merkle_base.specs.declared.family.Bagging.TheVariants.{ForwardFold, BackwardFold}
use Rattle.merkle_root_theory.specs.Expression.{Place, Join, PrefixFold, SuffixFold}
use Rattle.merkle_root_theory.specs.Plan.{Plan, peak, folding, left_fold_plan, right_fold_plan, with_right_fold_plan, root_plan, meets, tree_meets}
use Rattle.merkle_root_theory.specs.Outside.{bag_all, Met, Unmet}
use Rattle.merkle_root_theory.proofs.OutsideNodes.{left_fold_unmet, right_fold_unmet, left_fold_append, unmet_take}
use Rattle.merkle_root_theory.proofs.BackwardValues.{LastMet, last_met, last_append, right_fold_met}
use Rattle.merkle_root_theory.proofs.LayoutFolds.{parts_before, parts_after}

-- the parts of a plan
abbrev pub flat : (ℕ → Bool) → Plan → List Plan
flat d (peak t) = peak t ∷ []
flat d (folding q l r) = cond (meets d l || meets d r) (flat d l ++ flat d r) (folding q l r ∷ [])

module _ (d : ℕ → Bool) where
  flat_unmet : (p : Plan) → meets d p ≡ false → flat d p ≡ p ∷ []
  flat_unmet (peak t) e = refl
  flat_unmet (folding q l r) e = ap (λ b. cond b (flat d l ++ flat d r) (folding q l r ∷ [])) e

  flat_met : (q : Place) (l r : Plan) → meets d l || meets d r ≡ true → flat d (folding q l r) ≡ flat d l ++ flat d r
  flat_met q l r e = ap (λ b. cond b (flat d l ++ flat d r) (folding q l r ∷ [])) e

  pub flat_left_fold : (acc : Plan) (i : ℕ) (ts : List Tree) → meets d acc ≡ true → flat d (left_fold_plan acc i ts) ≡ flat d acc ++ map peak ts
  flat_left_fold acc i [] e = sym (append-nil (flat d acc))
  flat_left_fold acc i (t ∷ ts) e =
      flat_left_fold (folding (PrefixFold i) acc (peak t)) (suc i) ts (or_left (meets d acc) (tree_meets d t) e)
      ∙ ap (λ z. z ++ map peak ts) (flat_met (PrefixFold i) acc (peak t) (or_left (meets d acc) (tree_meets d t) e))
      ∙ append_assoc (flat d acc) (peak t ∷ []) (map peak ts)

  flat_right_fold : (i j : ℕ) (t : Tree) (ts after : List Tree) → LastMet d t ts → Unmet d after → j ≡ i + suc (length ts)
      → flat d (right_fold_plan i t (ts ++ after)) ≡ map peak (t ∷ ts) ++ bag_all j after
  flat_right_fold i j t [] [] m u e = refl
  flat_right_fold i j t [] (v ∷ vs) m u e =
      flat_met (SuffixFold i) (peak t) (right_fold_plan (suc i) v vs) (or_left (tree_meets d t) (meets d (right_fold_plan (suc i) v vs)) m)
      ∙ ap (λ z. peak t ∷ z) (flat_unmet (right_fold_plan (suc i) v vs) (right_fold_unmet d (suc i) v vs u))
      ∙ ap (λ n. peak t ∷ right_fold_plan n v vs ∷ []) (omega (arith, e))
  flat_right_fold i j t (s ∷ ts) after m u e =
      flat_met (SuffixFold i) (peak t) (right_fold_plan (suc i) s (ts ++ after)) (or_right (tree_meets d t) _ (right_fold_met d (suc i) s ts after m))
      ∙ ap (λ z. peak t ∷ z) (flat_right_fold (suc i) j s ts after m u (omega (arith, e)))

  -- a bag joined to a met part
  flat_join : (acc : Plan) (i j : ℕ) (over after : List Tree) → meets d acc ≡ true → Met d over → Unmet d after → j ≡ i + length over
      → flat d (with_right_fold_plan acc i (over ++ after)) ≡ flat d acc ++ (map peak over ++ bag_all j after)
  flat_join acc i j [] [] e m u f = sym (append-nil (flat d acc))
  flat_join acc i j [] (v ∷ vs) e m u f =
      flat_met Join acc (right_fold_plan i v vs) (or_left (meets d acc) _ e)
      ∙ ap (λ z. flat d acc ++ z) (flat_unmet (right_fold_plan i v vs) (right_fold_unmet d i v vs u) ∙ ap (λ n. right_fold_plan n v vs ∷ []) (omega (arith, f)))
  flat_join acc i j (t ∷ over) after e m u f =
      flat_met Join acc (right_fold_plan i t (over ++ after)) (or_left (meets d acc) _ e) ∙ ap (λ z. flat d acc ++ z) (flat_right_fold i j t over after (last_met d t over m) u (omega (arith, f)))

  -- joined where n peaks are folded onto a met part first; m: how many of those after the range stand alone
  flat_on : (acc : Plan) (g i j n m : ℕ) (over after : List Tree) → meets d acc ≡ true → Met d over → Unmet d after → m ≡ n - length over → j ≡ i + (length over - n)
      → flat d (with_right_fold_plan (left_fold_plan acc g (take n (over ++ after))) i (drop n (over ++ after))) ≡ flat d acc
      ++ (map peak over ++ (map peak (take m after) ++ bag_all j (drop m after)))
  flat_on acc g i j zero zero over after e w u l f = flat_join acc i j over after e w u (omega (arith, f))
  flat_on acc g i j zero (suc m) over after e w u l f = absurd (omega (arith, l))
  flat_on acc g i j (suc n) zero [] after e w u l f = absurd (omega (arith, l))
  flat_on acc g i j (suc n) (suc m) [] [] e w u l f = sym (append-nil (flat d acc))
  flat_on acc g i j (suc n) (suc m) [] (v ∷ vs) e w u l f =
      flat_on (folding (PrefixFold g) acc (peak v)) (suc g) i j n m [] vs (or_left (meets d acc) (tree_meets d v) e) w u.1 (omega (arith, l)) (omega (arith, f))
      ∙ ap (λ z. z ++ (map peak (take m vs) ++ bag_all j (drop m vs))) (flat_met (PrefixFold g) acc (peak v) (or_left (meets d acc) (tree_meets d v) e))
      ∙ append_assoc (flat d acc) (peak v ∷ []) (map peak (take m vs) ++ bag_all j (drop m vs))
  flat_on acc g i j (suc n) m (t ∷ over) after e w u l f =
      flat_on (folding (PrefixFold g) acc (peak t)) (suc g) i j n m over after (or_left (meets d acc) (tree_meets d t) e) w.1 u (omega (arith, l)) (omega (arith, f))
      ∙ ap (λ z. z ++ (map peak over ++ (map peak (take m after) ++ bag_all j (drop m after)))) (flat_met (PrefixFold g) acc (peak t) (or_left (meets d acc) (tree_meets d t) e))
      ∙ append_assoc (flat d acc) (peak t ∷ []) (map peak over ++ (map peak (take m after) ++ bag_all j (drop m after)))

  -- joined to an unmet part, where unmet peaks may stand before the range
  flat_reach : (acc : Plan) (i j : ℕ) (bs : List Tree) (t : Tree) (over after : List Tree) → meets d acc ≡ false → Met d (t ∷ over) → Unmet d after → j ≡ i + length bs + suc (length over)
      → flat d (with_right_fold_plan acc i (bs ++ (t ∷ over ++ after))) ≡ acc ∷ (map peak bs ++ (map peak (t ∷ over) ++ bag_all j after))
  flat_reach acc i j [] t over after e m u f =
      flat_met Join acc (right_fold_plan i t (over ++ after)) (or_right (meets d acc) _ (right_fold_met d i t over after (last_met d t over m)))
      ∙ ap₂ ◌++◌ (flat_unmet acc e) (flat_right_fold i j t over after (last_met d t over m) u (omega (arith, f)))
  flat_reach acc i j (b ∷ bs) t over after e m u f =
      ap (λ z. flat d (with_right_fold_plan acc i (b ∷ z))) (sym (append_assoc bs (t ∷ over) after))
      ∙ flat_met Join acc (right_fold_plan i b ((bs ++ t ∷ over) ++ after)) (or_right (meets d acc) _ (right_fold_met d i b (bs ++ t ∷ over) after (last_append d b bs t over (last_met d t over m))))
      ∙ ap₂ ◌++◌ (flat_unmet acc e) (flat_right_fold i j b (bs ++ t ∷ over) after (last_append d b bs t over (last_met d t over m)) u (omega (arith, f, length-append bs (t ∷ over)))
      ∙ ap (λ z. peak b ∷ (z ++ bag_all j after)) (map-append peak bs (t ∷ over)) ∙ ap (λ z. peak b ∷ z) (append_assoc (map peak bs) (map peak (t ∷ over)) (bag_all j after)))

  -- a fold whose first peaks are unmet
  left_fold_reach : (b : Tree) (bs : List Tree) (t : Tree) → Unmet d (b ∷ bs) → tree_meets d t ≡ true
      → flat d (folding (PrefixFold (1 + length bs)) (left_fold_plan (peak b) 1 bs) (peak t)) ≡ left_fold_plan (peak b) 1 bs ∷ peak t ∷ []
  left_fold_reach b bs t u m =
      flat_met (PrefixFold (1 + length bs)) (left_fold_plan (peak b) 1 bs) (peak t) (or_right (meets d (left_fold_plan (peak b) 1 bs)) (tree_meets d t) m)
      ∙ ap (λ z. z ++ peak t ∷ []) (flat_unmet (left_fold_plan (peak b) 1 bs) (left_fold_unmet d (peak b) 1 bs u.0 u.1))

module _ (d : ℕ → Bool) (k : ℕ) (t : Tree) (over after : List Tree) (m : Met d (t ∷ over)) (v : Unmet d after) where
  -- the whole plan has the parts of the layout, with the met peaks in their place
  abbrev pub IsFlat : Bagging → List Tree → Type 0
  IsFlat bagging before = (p : Plan) → root_plan bagging k (before ++ (t ∷ over ++ after)) ≡ Some p → flat d p ≡ parts_before bagging k before
      ++ (map peak (t ∷ over) ++ parts_after bagging k (length before + suc (length over)) after)

  all_single : map peak over ++ map peak after ≡ map peak over ++ (map peak after ++ [])
  all_single = ap (λ z. map peak over ++ z) (sym (append-nil (map peak after)))

  flat_some : (p q : Plan) (ps : List Plan) → Some q ≡ Some p → flat d q ≡ ps → flat d p ≡ ps
  flat_some p q ps e f = ap (flat d) (sym (some_same q p e)) ∙ f
    where
      some_same : (q p : Plan) → Some q ≡ Some p → q ≡ p
      some_same q p e = cc

  flat_fore : (before : List Tree) → Unmet d before → IsFlat ForwardFold before
  flat_fore [] u p e = flat_some p (left_fold_plan (peak t) 1 (over ++ after)) _ e (flat_left_fold d (peak t) 1 (over ++ after) m.0 ∙ ap (λ z. peak t ∷ z) (map-append peak over after ∙ all_single))
  flat_fore (b ∷ bs) u p e = flat_some p (left_fold_plan (peak b) 1 (bs ++ (t ∷ over ++ after))) _ e
      (ap (flat d) (left_fold_append d (peak b) 1 bs (t ∷ (over ++ after)))
      ∙ flat_left_fold d (folding (PrefixFold (1 + length bs)) (left_fold_plan (peak b) 1 bs) (peak t)) (suc (1 + length bs)) (over ++ after)
      (or_right (meets d (left_fold_plan (peak b) 1 bs)) (tree_meets d t) m.0)
      ∙ ap₂ ◌++◌ (left_fold_reach d b bs t u m.0) (map-append peak over after ∙ all_single))

  before_cons : (b : Tree) (bs : List Tree) → parts_before BackwardFold k (b ∷ bs) ≡ left_fold_plan (peak b) 1 (take (pred k) bs) ∷ map peak (drop (pred k) bs)
  before_cons b bs = cons_of k
    where
      cons_of : (k : ℕ) → parts_before BackwardFold k (b ∷ bs) ≡ left_fold_plan (peak b) 1 (take (pred k) bs) ∷ map peak (drop (pred k) bs)
      cons_of zero = refl
      cons_of (suc n) = refl

  before_nil : (k : ℕ) → parts_before BackwardFold k [] ≡ []
  before_nil zero = refl
  before_nil (suc n) = refl

  -- what follows the parts before the range
  abbrev rest_of : ℕ → ℕ → List Plan
  rest_of n j = map peak (take n after) ++ bag_all j (drop n after)

  -- the folded prefix ends before the range
  flat_before : (b : Tree) (bs : List Tree) → Unmet d (b ∷ bs) → pred k ≤ length bs → IsFlat BackwardFold (b ∷ bs)
  flat_before b bs u l p e =
      let met = suc (length bs) + suc (length over) in
      let acc = left_fold_plan (peak b) 1 (take (pred k) bs) in
      let none : 0 ≡ k - (suc (length bs) + suc (length over)) = omega (arith, l) in
      let count : met + (k - met) ≡ suc (pred k) + length (drop (pred k) bs) + suc (length over) = omega (arith, l, length-drop (pred k) bs) in
      flat_some p (with_right_fold_plan (left_fold_plan (peak b) 1 (take (pred k) (bs ++ (t ∷ over ++ after)))) (suc (pred k)) (drop (pred k) (bs ++ (t ∷ over ++ after)))) _ e
      (ap₂ (λ x y. flat d (with_right_fold_plan (left_fold_plan (peak b) 1 x) (suc (pred k)) y)) (take-append-le (pred k) bs (t ∷ over ++ after) l) (drop-append-le (pred k) bs (t ∷ over ++ after) l)
      ∙ flat_reach d acc (suc (pred k)) (met + (k - met)) (drop (pred k) bs) t over after (left_fold_unmet d (peak b) 1 (take (pred k) bs) u.0 (unmet_take d (pred k) bs u.1)) m v count
      ∙ ap₂ (λ z n. z ++ (map peak (t ∷ over) ++ rest_of n (met + (k - met)))) (sym (before_cons b bs)) none)

  -- or reaches all peaks before it
  flat_past : (b : Tree) (bs : List Tree) → Unmet d (b ∷ bs) → length bs < pred k → IsFlat BackwardFold (b ∷ bs)
  flat_past b bs u l p e =
      let met = suc (length bs) + suc (length over) in
      let n = pred k - suc (length bs) in
      let far : pred k ≡ length bs + suc (pred k - suc (length bs)) = omega (arith, l) in
      let acc = folding (PrefixFold (1 + length bs)) (left_fold_plan (peak b) 1 bs) (peak t) in
      flat_some p (with_right_fold_plan (left_fold_plan (peak b) 1 (take (pred k) (bs ++ (t ∷ over ++ after)))) (suc (pred k)) (drop (pred k) (bs ++ (t ∷ over ++ after)))) _ e
      (ap₂ (λ x y. flat d (with_right_fold_plan (left_fold_plan (peak b) 1 x) (suc (pred k)) y))
      (ap (λ z. take z (bs ++ (t ∷ over ++ after))) far ∙ take-append-add bs (t ∷ over ++ after) (suc n))
      (ap (λ z. drop z (bs ++ (t ∷ over ++ after))) far ∙ drop-append-add bs (t ∷ over ++ after) (suc n))
      ∙ ap (λ z. flat d (with_right_fold_plan z (suc (pred k)) (drop n (over ++ after)))) (left_fold_append d (peak b) 1 bs (t ∷ take n (over ++ after)))
      ∙ flat_on d acc (suc (1 + length bs)) (suc (pred k)) (met + (k - met)) n (k - met) over after
      (or_right (meets d (left_fold_plan (peak b) 1 bs)) (tree_meets d t) m.0) m.1 v (omega (arith, l)) (omega (arith, l))
      ∙ ap (λ z. z ++ (map peak over ++ rest_of (k - met) (met + (k - met)))) (left_fold_reach d b bs t u m.0)
      ∙ ap (λ z. z ++ (map peak (t ∷ over) ++ rest_of (k - met) (met + (k - met))))
      (sym (before_cons b bs ∙ ap₂ (λ x y. left_fold_plan (peak b) 1 x ∷ map peak y) (take_all (pred k) bs (omega (arith, l))) (drop_of_length-le bs (omega (arith, l))))))

  -- or there is none before it
  flat_none : IsFlat BackwardFold []
  flat_none p e =
      let met = 0 + suc (length over) in
      flat_some p (with_right_fold_plan (left_fold_plan (peak t) 1 (take (pred k) (over ++ after))) (suc (pred k)) (drop (pred k) (over ++ after))) _ e
      (flat_on d (peak t) 1 (suc (pred k)) (met + (k - met)) (pred k) (k - met) over after m.0 m.1 v (omega arith) (omega arith)
      ∙ ap (λ z. z ++ (map peak (t ∷ over) ++ rest_of (k - met) (met + (k - met)))) (sym (before_nil k)))

  pub flat_whole : (bagging : Bagging) (before : List Tree) → Unmet d before → IsFlat bagging before
  flat_whole ForwardFold before u = flat_fore before u
  flat_whole BackwardFold [] u = flat_none
  flat_whole BackwardFold (b ∷ bs) u = ⊎_elim (flat_past b bs u) (flat_before b bs u) (cases_lt (length bs) (pred k))
