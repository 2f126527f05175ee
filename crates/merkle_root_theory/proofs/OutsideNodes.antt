-- The maximal parts outside the range are those that the layout lists.
use Rattle.std.proofs.Common.{◌≡◌, ℕ, suc, zero, Bool, true, false, cond, ◌||◌, ◌+◌, ◌-◌, ◌≤◌, ◌<◌, List, [], ◌∷◌, ◌++◌, ◌⊎◌, inl, inr, refl, ap, ap₂, sym, ◌∙◌}
use Rattle.std.proofs.Common.{subst, ⊎_elim, arith, length, map, take, drop, flat_map, length-append, append-nil, append_assoc, add-zero, add-one, take_at}
use Rattle.std.proofs.Common.{drop_at, pred, drop_of_length-le}
use Rattle.std.proofs.Math.Seq.{take-append-add, drop-append-add}
use Rattle.std.proofs.lemmas.List.{length-drop, take-append-le, drop-append-le, take_all}
use Rattle.std.proofs.lemmas.Bool.{or_right, cases_lt}
use Rattle.merkle_root_theory.specs.Expression.{Place, Join, PrefixFold, SuffixFold}
use Rattle.merkle_base.specs.Tree.{Tree}
use Rattle.merkle_root_theory.specs.Plan.{Plan, peak, folding, left_fold_plan, right_fold_plan, with_right_fold_plan, root_plan, tree_meets, meets, siblings, outside_parts, path_siblings}
use Rattle.merkle_base.specs.declared.family.Bagging.TheVariants.{ForwardFold, BackwardFold}
use Rattle.merkle_root_theory.specs.Outside.{fold_all, bag_all, layout, Unmet, Met, HasLayout, OutsideIsLayout}

module _ (c : ℕ → Bool) where
  -- the parts of a plan that is met nowhere
  pub outside_parts_unmet : (p : Plan) → meets c p ≡ false → outside_parts c p ≡ p ∷ []
  outside_parts_unmet (peak t) e = ap (λ b. cond b [] (peak t ∷ [])) e
  outside_parts_unmet (folding place l r) e = ap (λ b. cond b (outside_parts c l ++ outside_parts c r) (folding place l r ∷ [])) e

  pub inner_unmet : (p : Plan) → meets c p ≡ false → path_siblings c p ≡ []
  inner_unmet (peak t) e = ap (λ b. cond b (siblings c t) []) e
  inner_unmet (folding place l r) e = ap (λ b. cond b (path_siblings c l ++ path_siblings c r) []) e

  outside_parts_peak : (t : Tree) → tree_meets c t ≡ true → outside_parts c (peak t) ≡ []
  outside_parts_peak t e = ap (λ b. cond b [] (peak t ∷ [])) e

  inner_peak : (t : Tree) → tree_meets c t ≡ true → path_siblings c (peak t) ≡ siblings c t
  inner_peak t e = ap (λ b. cond b (siblings c t) []) e

  -- a plan that is met, with its parts
  Parts : Plan → List Plan → List Tree → Type 0
  Parts p os is = (meets c p ≡ true) × (outside_parts c p ≡ os) × (path_siblings c p ≡ is)

  parts_left : (place : Place) (l r : Plan) (os : List Plan) (is : List Tree) → Parts l os is → Parts (folding place l r) (os ++ outside_parts c r) (is ++ path_siblings c r)
  unfolding Parts
  parts_left place l r os is w = let m : meets c l || meets c r ≡ true = ap (λ b. b || meets c r) w.0 in (
    m,
    ap (λ b. cond b (outside_parts c l ++ outside_parts c r) (folding place l r ∷ [])) m
        ∙ ap (λ x. x ++ outside_parts c r) w.1,
    ap (λ b. cond b (path_siblings c l ++ path_siblings c r) []) m ∙ ap (λ x. x ++ path_siblings c r) w.2,
  )

  parts_right : (place : Place) (l r : Plan) (os : List Plan) (is : List Tree) → Parts r os is → Parts (folding place l r) (outside_parts c l ++ os) (path_siblings c l ++ is)
  unfolding Parts
  parts_right place l r os is w = let m : meets c l || meets c r ≡ true = or_right (meets c l) (meets c r) w.0 in (
    m,
    ap (λ b. cond b (outside_parts c l ++ outside_parts c r) (folding place l r ∷ [])) m
        ∙ ap (λ x. outside_parts c l ++ x) w.1,
    ap (λ b. cond b (path_siblings c l ++ path_siblings c r) []) m ∙ ap (λ x. path_siblings c l ++ x) w.2,
  )

  parts_peak : (t : Tree) → tree_meets c t ≡ true → Parts (peak t) [] (siblings c t)
  unfolding Parts
  parts_peak t e = (e, outside_parts_peak t e, inner_peak t e)

  -- the same parts written otherwise
  parts_as : (p : Plan) (os os' : List Plan) (is is' : List Tree) → os ≡ os' → is ≡ is' → Parts p os is → Parts p os' is'
  unfolding Parts
  parts_as p os os' is is' e f w = (w.0, w.1 ∙ e, w.2 ∙ f)

  -- the parts of peaks, each by itself
  peaks_out : List Tree → List Plan
  peaks_out [] = []
  peaks_out (t ∷ ts) = outside_parts c (peak t) ++ peaks_out ts

  peaks_in : List Tree → List Tree
  peaks_in [] = []
  peaks_in (t ∷ ts) = path_siblings c (peak t) ++ peaks_in ts

  peaks_out_unmet : (ts : List Tree) → Unmet c ts → peaks_out ts ≡ map peak ts
  unfolding peaks_out
  peaks_out_unmet [] u = refl
  peaks_out_unmet (t ∷ ts) u = ap₂ ◌++◌ (outside_parts_unmet (peak t) u.0) (peaks_out_unmet ts u.1)

  peaks_in_unmet : (ts : List Tree) → Unmet c ts → peaks_in ts ≡ []
  unfolding peaks_in
  peaks_in_unmet [] u = refl
  peaks_in_unmet (t ∷ ts) u = ap₂ ◌++◌ (inner_unmet (peak t) u.0) (peaks_in_unmet ts u.1)

  peaks_out_met : (ts rest : List Tree) → Met c ts → peaks_out (ts ++ rest) ≡ peaks_out rest
  unfolding peaks_out
  peaks_out_met [] rest u = refl
  peaks_out_met (t ∷ ts) rest u = ap₂ ◌++◌ (outside_parts_peak t u.0) (peaks_out_met ts rest u.1)

  peaks_in_met : (ts rest : List Tree) → Met c ts → peaks_in (ts ++ rest) ≡ flat_map (siblings c) ts ++ peaks_in rest
  unfolding peaks_in
  peaks_in_met [] rest u = refl
  peaks_in_met (t ∷ ts) rest u = ap₂ ◌++◌ (inner_peak t u.0) (peaks_in_met ts rest u.1) ∙ sym (append_assoc (siblings c t) (flat_map (siblings c) ts) (peaks_in rest))

  -- a fold from a met accumulator on
  left_fold_met : (acc : Plan) (i : ℕ) (ts : List Tree) (os : List Plan) (is : List Tree) → Parts acc os is → Parts (left_fold_plan acc i ts) (os ++ peaks_out ts) (is ++ peaks_in ts)
  unfolding peaks_out peaks_in
  left_fold_met acc i [] os is w = parts_as acc os (os ++ []) is (is ++ []) (sym (append-nil os)) (sym (append-nil is)) w
  left_fold_met acc i (t ∷ ts) os is w = parts_as _ _ _ _ _ (append_assoc os (outside_parts c (peak t)) (peaks_out ts)) (append_assoc is (path_siblings c (peak t)) (peaks_in ts))
      (left_fold_met (folding (PrefixFold i) acc (peak t)) (suc i) ts (os ++ outside_parts c (peak t)) (is ++ path_siblings c (peak t)) (parts_left (PrefixFold i) acc (peak t) os is w))

  or_false : (a b : Bool) → a ≡ false → b ≡ false → a || b ≡ false
  or_false a b e f = ap₂ ◌||◌ e f

  pub left_fold_unmet : (acc : Plan) (i : ℕ) (ts : List Tree) → meets c acc ≡ false → Unmet c ts → meets c (left_fold_plan acc i ts) ≡ false
  left_fold_unmet acc i [] e u = e
  left_fold_unmet acc i (t ∷ ts) e u = left_fold_unmet (folding (PrefixFold i) acc (peak t)) (suc i) ts (or_false (meets c acc) (tree_meets c t) e u.0) u.1

  pub right_fold_unmet : (i : ℕ) (t : Tree) (ts : List Tree) → Unmet c (t ∷ ts) → meets c (right_fold_plan i t ts) ≡ false
  right_fold_unmet i t [] u = u.0
  right_fold_unmet i t (v ∷ ts) u = or_false (tree_meets c t) (meets c (right_fold_plan (suc i) v ts)) u.0 (right_fold_unmet (suc i) v ts u.1)

  pub left_fold_append : (acc : Plan) (i : ℕ) (xs ys : List Tree) → left_fold_plan acc i (xs ++ ys) ≡ left_fold_plan (left_fold_plan acc i xs) (i + length xs) ys
  left_fold_append acc i [] ys = ap (λ n. left_fold_plan acc n ys) (sym (add-zero i))
  left_fold_append acc i (x ∷ xs) ys = left_fold_append (folding (PrefixFold i) acc (peak x)) (suc i) xs ys ∙ ap (λ n. left_fold_plan (left_fold_plan acc i (x ∷ xs)) n ys) (omega arith)

  -- a fold of a met peak and further ones; of unmet peaks, a met one and further ones
  fold_met : (t : Tree) (ts : List Tree) → tree_meets c t ≡ true → Parts (left_fold_plan (peak t) 1 ts) (peaks_out ts) (siblings c t ++ peaks_in ts)
  fold_met t ts e = left_fold_met (peak t) 1 ts [] (siblings c t) (parts_peak t e)

  fold_reaches : (b : Tree) (bs : List Tree) (t : Tree) (ts : List Tree) → Unmet c (b ∷ bs) → tree_meets c t ≡ true
      → Parts (left_fold_plan (peak b) 1 (bs ++ t ∷ ts)) (left_fold_plan (peak b) 1 bs ∷ peaks_out ts) (siblings c t ++ peaks_in ts)
  fold_reaches b bs t ts u e =
      let acc = left_fold_plan (peak b) 1 bs in
      let low : meets c acc ≡ false = left_fold_unmet (peak b) 1 bs u.0 u.1 in
      subst (λ p. Parts p (acc ∷ peaks_out ts) (siblings c t ++ peaks_in ts)) (sym (left_fold_append (peak b) 1 bs (t ∷ ts)))
      (left_fold_met (folding (PrefixFold (1 + length bs)) acc (peak t)) (suc (1 + length bs)) ts (acc ∷ []) (siblings c t)
      (parts_as _ _ _ _ _ (ap (λ x. x ++ []) (outside_parts_unmet acc low)) (ap (λ x. x ++ siblings c t) (inner_unmet acc low))
      (parts_right (PrefixFold (1 + length bs)) acc (peak t) [] (siblings c t) (parts_peak t e))))

  -- a bag of met peaks and unmet ones after them
  right_fold_met : (i : ℕ) (t : Tree) (ts after : List Tree) → Met c (t ∷ ts) → Unmet c after
      → Parts (right_fold_plan i t (ts ++ after)) (bag_all (i + suc (length ts)) after) (siblings c t ++ flat_map (siblings c) ts)
  right_fold_met i t [] [] m u = parts_as (peak t) [] [] (siblings c t) (siblings c t ++ []) refl (sym (append-nil _)) (parts_peak t m.0)
  right_fold_met i t [] (v ∷ vs) m u =
      let low : meets c (right_fold_plan (suc i) v vs) ≡ false = right_fold_unmet (suc i) v vs u in
      parts_as _ _ _ _ _ (outside_parts_unmet (right_fold_plan (suc i) v vs) low ∙ ap (λ n. bag_all n (v ∷ vs)) (sym (add-one i)))
      (ap (λ x. siblings c t ++ x) (inner_unmet (right_fold_plan (suc i) v vs) low))
      (parts_left (SuffixFold i) (peak t) (right_fold_plan (suc i) v vs) [] (siblings c t) (parts_peak t m.0))
  right_fold_met i t (v ∷ vs) after m u =
      parts_as _ _ _ _ _ (ap₂ ◌++◌ (outside_parts_peak t m.0) (ap (λ n. bag_all n after) (omega arith)))
      (ap (λ x. x ++ (siblings c v ++ flat_map (siblings c) vs)) (inner_peak t m.0))
      (parts_right (SuffixFold i) (peak t) (right_fold_plan (suc i) v (vs ++ after)) _ _ (right_fold_met (suc i) v vs after m.1 u))

  right_fold_reaches : (i : ℕ) (b : Tree) (bs : List Tree) (t : Tree) (ts after : List Tree) → Unmet c (b ∷ bs) → Met c (t ∷ ts) → Unmet c after
      → Parts (right_fold_plan i b (bs ++ (t ∷ ts ++ after))) (map peak (b ∷ bs) ++ bag_all (i + suc (length bs) + suc (length ts)) after) (siblings c t ++ flat_map (siblings c) ts)
  right_fold_reaches i b [] t ts after u m v =
      parts_as _ _ _ _ _ (ap₂ ◌++◌ (outside_parts_unmet (peak b) u.0) (ap (λ n. bag_all n after) (omega arith)))
      (ap (λ x. x ++ (siblings c t ++ flat_map (siblings c) ts)) (inner_unmet (peak b) u.0))
      (parts_right (SuffixFold i) (peak b) (right_fold_plan (suc i) t (ts ++ after)) _ _ (right_fold_met (suc i) t ts after m v))
  right_fold_reaches i b (d ∷ bs) t ts after u m v =
      parts_as _ _ _ _ _ (ap₂ ◌++◌ (outside_parts_unmet (peak b) u.0) (ap (λ n. map peak (d ∷ bs) ++ bag_all n after) (omega arith)))
      (ap (λ x. x ++ (siblings c t ++ flat_map (siblings c) ts)) (inner_unmet (peak b) u.0))
      (parts_right (SuffixFold i) (peak b) (right_fold_plan (suc i) d (bs ++ (t ∷ ts ++ after))) _ _ (right_fold_reaches (suc i) d bs t ts after u.1 m v))

  flat_map_append : (xs ys : List Tree) → flat_map (siblings c) (xs ++ ys) ≡ flat_map (siblings c) xs ++ flat_map (siblings c) ys
  flat_map_append [] ys = refl
  flat_map_append (x ∷ xs) ys = ap (λ z. siblings c x ++ z) (flat_map_append xs ys) ∙ sym (append_assoc (siblings c x) (flat_map (siblings c) xs) (flat_map (siblings c) ys))

  met_left : (xs ys : List Tree) → Met c (xs ++ ys) → Met c xs
  met_left [] ys m = tt
  met_left (x ∷ xs) ys m = (m.0, met_left xs ys m.1)

  met_right : (xs ys : List Tree) → Met c (xs ++ ys) → Met c ys
  met_right [] ys m = m
  met_right (x ∷ xs) ys m = met_right xs ys m.1

  pub unmet_take : (n : ℕ) (ts : List Tree) → Unmet c ts → Unmet c (take n ts)
  unmet_take zero ts u = tt
  unmet_take (suc n) [] u = tt
  unmet_take (suc n) (t ∷ ts) u = (u.0, unmet_take n ts u.1)

  pub unmet_drop : (n : ℕ) (ts : List Tree) → Unmet c ts → Unmet c (drop n ts)
  unmet_drop zero ts u = u
  unmet_drop (suc n) [] u = tt
  unmet_drop (suc n) (t ∷ ts) u = unmet_drop n ts u.1

  -- unmet peaks bagged onto a met accumulator
  join_unmet : (acc : Plan) (i : ℕ) (ts : List Tree) (os : List Plan) (is : List Tree) → Unmet c ts → Parts acc os is → Parts (with_right_fold_plan acc i ts) (os ++ bag_all i ts) is
  join_unmet acc i [] os is u w = parts_as acc os (os ++ []) is is (sym (append-nil os)) refl w
  join_unmet acc i (t ∷ ts) os is u w =
      let low : meets c (right_fold_plan i t ts) ≡ false = right_fold_unmet i t ts u in
      parts_as _ _ _ _ _ (ap (λ x. os ++ x) (outside_parts_unmet (right_fold_plan i t ts) low))
      (ap (λ x. is ++ x) (inner_unmet (right_fold_plan i t ts) low) ∙ append-nil is) (parts_left Join acc (right_fold_plan i t ts) os is w)

  outside_parts_of : (p : Plan) (os : List Plan) (is : List Tree) → Parts p os is → outside_parts c p ≡ os
  unfolding Parts
  outside_parts_of p os is w = w.1

  inner_of : (p : Plan) (os : List Plan) (is : List Tree) → Parts p os is → path_siblings c p ≡ is
  unfolding Parts
  inner_of p os is w = w.2

  -- met peaks and unmet ones after them
  join_met : (acc : Plan) (i : ℕ) (t : Tree) (ts after : List Tree) (os : List Plan) (is : List Tree) → Met c (t ∷ ts) → Unmet c after → Parts acc os is
      → Parts (with_right_fold_plan acc i (t ∷ ts ++ after)) (os ++ bag_all (i + suc (length ts)) after) (is ++ (siblings c t ++ flat_map (siblings c) ts))
  join_met acc i t ts after os is m u w = let v = right_fold_met i t ts after m u in
      parts_as _ _ _ _ _ (ap (λ x. os ++ x) (outside_parts_of _ _ _ v)) (ap (λ x. is ++ x) (inner_of _ _ _ v)) (parts_left Join acc (right_fold_plan i t (ts ++ after)) os is w)

  -- unmet peaks bagged onto an unmet accumulator, with met ones among them
  join_reaches : (acc : Plan) (i : ℕ) (bs : List Tree) (t : Tree) (ts after : List Tree) → meets c acc ≡ false → Unmet c bs → Met c (t ∷ ts) → Unmet c after
      → Parts (with_right_fold_plan acc i (bs ++ (t ∷ ts ++ after))) (acc ∷ (map peak bs ++ bag_all (i + length bs + suc (length ts)) after)) (siblings c t ++ flat_map (siblings c) ts)
  join_reaches acc i [] t ts after e u m v =
      parts_as _ _ _ _ _ (ap₂ ◌++◌ (outside_parts_unmet acc e) (ap (λ n. bag_all n after) (omega arith)))
      (ap (λ x. x ++ (siblings c t ++ flat_map (siblings c) ts)) (inner_unmet acc e))
      (parts_right Join acc (right_fold_plan i t (ts ++ after)) _ _ (right_fold_met i t ts after m v))
  join_reaches acc i (b ∷ bs) t ts after e u m v =
      parts_as _ _ _ _ _ (ap (λ x. x ++ (map peak (b ∷ bs) ++ bag_all (i + suc (length bs) + suc (length ts)) after)) (outside_parts_unmet acc e))
      (ap (λ x. x ++ (siblings c t ++ flat_map (siblings c) ts)) (inner_unmet acc e))
      (parts_right Join acc (right_fold_plan i b (bs ++ (t ∷ ts ++ after))) _ _ (right_fold_reaches i b bs t ts after u m v))

  -- a list is cut within, or it isn't so long
  cut_within : (n : ℕ) (xs : List Tree) → ((ys : List Tree) × (z : Tree) × (zs : List Tree) × (xs ≡ ys ++ z ∷ zs) × (length ys ≡ n)) ⊎ (length xs ≤ n)
  cut_within n [] = inr (omega arith)
  cut_within zero (x ∷ xs) = inl ([], x, xs, refl, refl)
  cut_within (suc n) (x ∷ xs) = ⊎_elim (λ w. inl (x ∷ w.0, w.1, w.2, ap (λ z. x ∷ z) w.3, ap suc w.4)) (λ l. inr (omega arith)) (cut_within n xs)

  out_met : (ts : List Tree) → Met c ts → peaks_out ts ≡ []
  unfolding peaks_out
  out_met [] u = refl
  out_met (t ∷ ts) u = ap₂ ◌++◌ (outside_parts_peak t u.0) (out_met ts u.1)

  in_met : (ts : List Tree) → Met c ts → peaks_in ts ≡ flat_map (siblings c) ts
  unfolding peaks_in
  in_met [] u = refl
  in_met (t ∷ ts) u = ap₂ ◌++◌ (inner_peak t u.0) (in_met ts u.1)

  -- the accumulator reaches n peaks into those that overlap and those after them
  Joined : Plan → ℕ → ℕ → List Tree → List Tree → List Plan → List Tree → List Tree → Type 0
  Joined acc i n over after os is rest =
      Parts (with_right_fold_plan acc i rest)
      (os ++ (map peak (take (n - length over) after) ++ bag_all (i + (length over - n)) (drop (n - length over) after))) (is ++ flat_map (siblings c) over)

  joins_within : (acc : Plan) (i n : ℕ) (over after : List Tree) (os : List Plan) (is : List Tree) → Met c over → Unmet c after
      → Parts acc (os ++ peaks_out (take n (over ++ after))) (is ++ peaks_in (take n (over ++ after)))
      → (ys : List Tree) (z : Tree) (zs : List Tree) → over ≡ ys ++ z ∷ zs → length ys ≡ n → Joined acc i n over after os is (drop n (over ++ after))
  unfolding Joined
  joins_within acc i n over after os is m u w ys z zs e l =
      let eq : over ++ after ≡ ys ++ (z ∷ zs ++ after) = ap (λ x. x ++ after) e ∙ append_assoc ys (z ∷ zs) after in
      let eqA : take n (over ++ after) ≡ ys = ap (take n) eq ∙ take_at ys (z ∷ zs ++ after) n l in
      let eqB : drop n (over ++ after) ≡ z ∷ zs ++ after = ap (drop n) eq ∙ drop_at ys (z ∷ zs ++ after) n l in
      let long : length over ≡ length ys + suc (length zs) = ap length e ∙ length-append ys (z ∷ zs) in
      let none : 0 ≡ n - length over = omega arith in
      let more : suc (length zs) ≡ length over - n = omega arith in
      let m' : Met c (ys ++ z ∷ zs) = subst (λ x. Met c x) e m in
      let w' : Parts acc os (is ++ flat_map (siblings c) ys) = parts_as acc _ os _ (is ++ flat_map (siblings c) ys)
      (ap (λ x. os ++ peaks_out x) eqA ∙ ap (λ x. os ++ x) (out_met ys (met_left ys (z ∷ zs) m')) ∙ append-nil os)
      (ap (λ x. is ++ peaks_in x) eqA ∙ ap (λ x. is ++ x) (in_met ys (met_left ys (z ∷ zs) m'))) w in
      subst (λ x. Parts (with_right_fold_plan acc i x)
      (os ++ (map peak (take (n - length over) after) ++ bag_all (i + (length over - n)) (drop (n - length over) after)))
      (is ++ flat_map (siblings c) over)) (sym eqB)
      (parts_as _ _ _ _ _ (ap (λ x. os ++ x) (ap₂ (λ a b. map peak (take a after) ++ bag_all (i + b) (drop a after)) none more))
      (append_assoc is (flat_map (siblings c) ys) (flat_map (siblings c) (z ∷ zs)) ∙ ap (λ x. is ++ x) (sym (flat_map_append ys (z ∷ zs)) ∙ ap (flat_map (siblings c)) (sym e)))
      (join_met acc i z zs after os (is ++ flat_map (siblings c) ys) (met_right ys (z ∷ zs) m') u w'))

  joins_past : (acc : Plan) (i n : ℕ) (over after : List Tree) (os : List Plan) (is : List Tree) → Met c over → Unmet c after
      → Parts acc (os ++ peaks_out (take n (over ++ after))) (is ++ peaks_in (take n (over ++ after)))
      → length over ≤ n → Joined acc i n over after os is (drop n (over ++ after))
  unfolding Joined
  joins_past acc i n over after os is m u w l =
      let k = n - length over in
      let far : n ≡ length over + (n - length over) = omega arith in
      let eqA : take n (over ++ after) ≡ over ++ take (n - length over) after = ap (λ x. take x (over ++ after)) far ∙ take-append-add over after (n - length over) in
      let eqB : drop n (over ++ after) ≡ drop (n - length over) after = ap (λ x. drop x (over ++ after)) far ∙ drop-append-add over after (n - length over) in
      let v : Unmet c (take (n - length over) after) = unmet_take (n - length over) after u in
      let w' : Parts acc (os ++ map peak (take (n - length over) after)) (is ++ flat_map (siblings c) over) = parts_as acc _ _ _ _
      (ap (λ x. os ++ peaks_out x) eqA ∙ ap (λ x. os ++ x) (peaks_out_met over (take (n - length over) after) m ∙ peaks_out_unmet (take (n - length over) after) v))
      (ap (λ x. is ++ peaks_in x) eqA
      ∙ ap (λ x. is ++ x) (peaks_in_met over (take (n - length over) after) m
      ∙ ap (λ x. flat_map (siblings c) over ++ x) (peaks_in_unmet (take (n - length over) after) v) ∙ append-nil _)) w in
      subst (λ x. Parts (with_right_fold_plan acc i x)
      (os ++ (map peak (take (n - length over) after) ++ bag_all (i + (length over - n)) (drop (n - length over) after)))
      (is ++ flat_map (siblings c) over)) (sym eqB)
      (parts_as _ _ _ _ _ (append_assoc os (map peak (take (n - length over) after)) (bag_all i (drop (n - length over) after))
      ∙ ap (λ x. os ++ (map peak (take (n - length over) after) ++ bag_all x (drop (n - length over) after))) (omega arith)) refl
      (join_unmet acc i (drop (n - length over) after) _ _ (unmet_drop (n - length over) after u) w'))

  joins : (acc : Plan) (i n : ℕ) (over after : List Tree) (os : List Plan) (is : List Tree) → Met c over → Unmet c after
      → Parts acc (os ++ peaks_out (take n (over ++ after))) (is ++ peaks_in (take n (over ++ after)))
      → Parts (with_right_fold_plan acc i (drop n (over ++ after)))
      (os ++ (map peak (take (n - length over) after) ++ bag_all (i + (length over - n)) (drop (n - length over) after))) (is ++ flat_map (siblings c) over)
  unfolding Joined
  joins acc i n over after os is m u w = ⊎_elim (λ q. joins_within acc i n over after os is m u w q.0 q.1 q.2 q.3 q.4) (λ l. joins_past acc i n over after os is m u w l) (cut_within n over)

take_nil : (n : ℕ) → take {A = Tree} n [] ≡ []
take_nil zero = refl
take_nil (suc n) = refl

drop_nil : (n : ℕ) → drop {A = Tree} n [] ≡ []
drop_nil zero = refl
drop_nil (suc n) = refl

-- the individual peaks after and the suffix
last_parts : List Tree → ℕ → ℕ → List Plan
last_parts after n i = map peak (take n after) ++ bag_all i (drop n after)

-- what the layout is where the folded prefix ends before the range
layout_before : (k : ℕ) (b : Tree) (bs : List Tree) (t : Tree) (over after : List Tree) → pred k ≤ length bs
    → left_fold_plan (peak b) 1 (take (pred k) bs) ∷
    (map peak (drop (pred k) bs) ++ bag_all (suc (pred k) + length (drop (pred k) bs) + suc (length over)) after) ≡ layout BackwardFold k (b ∷ bs) (t ∷ over) after
unfolding last_parts
layout_before zero b bs t over after l =
    let met = suc (length bs) + suc (length over) in
    let none : 0 ≡ 0 - (suc (length bs) + suc (length over)) = omega arith in
    let first : suc 0 + length bs + suc (length over) ≡ suc (length bs) + suc (length over) + (0 - (suc (length bs) + suc (length over))) = omega arith in
    ap (λ x. peak b ∷ (map peak bs ++ x)) (ap₂ (last_parts after) none first)
layout_before (suc n) b bs t over after l =
    let none : 0 ≡ suc n - (suc (length bs) + suc (length over)) = omega arith in
    let rest : length (drop n bs) ≡ length bs - n = length-drop n bs in
    let first : suc n + length (drop n bs) + suc (length over) ≡ suc (length bs) + suc (length over) + (suc n - (suc (length bs) + suc (length over))) = omega arith in
    ap (λ x. left_fold_plan (peak b) 1 (take n bs) ∷ (map peak (drop n bs) ++ x)) (ap₂ (last_parts after) none first)

-- and where it reaches all peaks before the range
layout_past : (k : ℕ) (b : Tree) (bs : List Tree) (t : Tree) (over after : List Tree) → length bs < pred k
    → left_fold_plan (peak b) 1 bs ∷ last_parts after (pred k - suc (length bs) - length over)
    (suc (pred k) + (length over - (pred k - suc (length bs)))) ≡ layout BackwardFold k (b ∷ bs) (t ∷ over) after
unfolding last_parts
layout_past zero b bs t over after l = absurd (omega arith)
layout_past (suc n) b bs t over after l =
    let l' : length bs < n = l in
    let all : bs ≡ take n bs = sym (take_all n bs (omega arith)) in
    let none : [] ≡ drop n bs = sym (drop_of_length-le bs (omega arith)) in
    let most : n - suc (length bs) - length over ≡ suc n - (suc (length bs) + suc (length over)) = omega arith in
    let first : suc n + (length over - (n - suc (length bs))) ≡ suc (length bs) + suc (length over) + (suc n - (suc (length bs) + suc (length over))) = omega arith in
    ap₂ (λ x y. left_fold_plan (peak b) 1 x ∷ (map peak y ++ last_parts after (n - suc (length bs) - length over) (suc n + (length over - (n - suc (length bs)))))) all none
    ∙ ap (λ x. left_fold_plan (peak b) 1 (take n bs) ∷ (map peak (drop n bs) ++ x)) (ap₂ (last_parts after) most first)

module _ (c : ℕ → Bool) (k : ℕ) (b : Tree) (bs : List Tree) (t : Tree) (over after : List Tree) (u : Unmet c (b ∷ bs)) (m : Met c (t ∷ over)) (v : Unmet c after) where
  IsLaid : Type 0
  IsLaid = HasLayout c (layout BackwardFold k (b ∷ bs) (t ∷ over) after) (flat_map (siblings c) (t ∷ over)) (root_plan BackwardFold k (b ∷ bs ++ (t ∷ over ++ after)))

  with_record_before : pred k ≤ length bs → IsLaid
  unfolding IsLaid Parts
  with_record_before l =
      let low : meets c (left_fold_plan (peak b) 1 (take (pred k) bs)) ≡ false = left_fold_unmet c (peak b) 1 (take (pred k) bs) u.0 (unmet_take c (pred k) bs u.1) in
      let w = join_reaches c (left_fold_plan (peak b) 1 (take (pred k) bs)) (suc (pred k)) (drop (pred k) bs) t over after low (unmet_drop c (pred k) bs u.1) m v in
      let x : take (pred k) (bs ++ (t ∷ over ++ after)) ≡ take (pred k) bs = take-append-le (pred k) bs (t ∷ over ++ after) l in
      let y : drop (pred k) (bs ++ (t ∷ over ++ after)) ≡ drop (pred k) bs ++ (t ∷ over ++ after) = drop-append-le (pred k) bs (t ∷ over ++ after) l in (
        ap₂ (λ x y. outside_parts c (with_right_fold_plan (left_fold_plan (peak b) 1 x) (suc (pred k)) y)) x y ∙ w.1 ∙ layout_before k b bs t over after l,
        ap₂ (λ x y. path_siblings c (with_right_fold_plan (left_fold_plan (peak b) 1 x) (suc (pred k)) y)) x y ∙ w.2,
      )

  with_record_past : length bs < pred k → IsLaid
  unfolding IsLaid Parts last_parts
  with_record_past l =
      let n = pred k - suc (length bs) in
      let far : pred k ≡ length bs + suc (pred k - suc (length bs)) = omega arith in
      let x : take (pred k) (bs ++ (t ∷ over ++ after)) ≡ bs ++ t ∷ take n (over ++ after) = ap (λ z. take z (bs ++ (t ∷ over ++ after))) far ∙ take-append-add bs (t ∷ over ++ after) (suc n) in
      let y : drop (pred k) (bs ++ (t ∷ over ++ after)) ≡ drop n (over ++ after) = ap (λ z. drop z (bs ++ (t ∷ over ++ after))) far ∙ drop-append-add bs (t ∷ over ++ after) (suc n) in
      let w = joins c (left_fold_plan (peak b) 1 (bs ++ t ∷ take n (over ++ after))) (suc (pred k)) n over after (left_fold_plan (peak b) 1 bs ∷ [])
      (siblings c t) m.1 v (fold_reaches c b bs t (take n (over ++ after)) u m.0) in (
        ap₂ (λ x y. outside_parts c (with_right_fold_plan (left_fold_plan (peak b) 1 x) (suc (pred k)) y)) x y ∙ w.1 ∙ layout_past k b bs t over after l,
        ap₂ (λ x y. path_siblings c (with_right_fold_plan (left_fold_plan (peak b) 1 x) (suc (pred k)) y)) x y ∙ w.2,
      )

pub outside_is_layout : OutsideIsLayout
unfolding Parts last_parts IsLaid
outside_is_layout c ForwardFold k [] t over after u m v =
    let w = fold_met c t (over ++ after) m.0 in (
      w.1 ∙ peaks_out_met c over after m.1 ∙ peaks_out_unmet c after v ∙ sym (append-nil _),
      w.2
          ∙ ap (λ x. siblings c t ++ x) (peaks_in_met c over after m.1 ∙ ap (λ x. flat_map (siblings c) over ++ x) (peaks_in_unmet c after v) ∙ append-nil _),
    )
outside_is_layout c ForwardFold k (b ∷ bs) t over after u m v =
    let w = fold_reaches c b bs t (over ++ after) u m.0 in (
      w.1 ∙ ap (λ x. left_fold_plan (peak b) 1 bs ∷ x) (peaks_out_met c over after m.1 ∙ peaks_out_unmet c after v ∙ sym (append-nil _)),
      w.2
          ∙ ap (λ x. siblings c t ++ x) (peaks_in_met c over after m.1 ∙ ap (λ x. flat_map (siblings c) over ++ x) (peaks_in_unmet c after v) ∙ append-nil _),
    )
outside_is_layout c BackwardFold k [] t over after u m v =
    let w = joins c (left_fold_plan (peak t) 1 (take (pred k) (over ++ after))) (suc (pred k)) (pred k) over after [] (siblings c t) m.1 v (fold_met c t (take (pred k) (over ++ after)) m.0) in
    let most : pred k - length over ≡ k - (0 + suc (length over)) = omega arith in
    let first : suc (pred k) + (length over - pred k) ≡ 0 + suc (length over) + (k - (0 + suc (length over))) = omega arith in (
      w.1 ∙ ap₂ (last_parts after) most first
          ∙ ap₂ (λ x y. fold_all x ++ (map peak y
          ++ last_parts after (k - (0 + suc (length over))) (0 + suc (length over) + (k - (0 + suc (length over)))))) (sym (take_nil k)) (sym (drop_nil k)),
      w.2,
    )
outside_is_layout c BackwardFold k (b ∷ bs) t over after u m v =
    ⊎_elim (λ l. with_record_past c k b bs t over after u m v l) (λ l. with_record_before c k b bs t over after u m v l) (cases_lt (length bs) (pred k))
