-- What a check of a range with pins computes is folded as the peaks are: those before the range rebuilt from the pins, each apart.
use Rattle.std.proofs.Common.{◌≡◌, ℕ, zero, suc, pred, ◌+◌, ◌-◌, ◌≤◌, Bool, true, false, cond, ◌||◌, List, [], ◌∷◌, ◌++◌, refl, ap, ap₂, sym, ◌∙◌, arith}
use Rattle.std.proofs.Common.{length, map, take, drop, Option, Some, option_map, append_assoc, append-nil, length-append, drop-drop}
use Rattle.std.proofs.lemmas.Bool.{or_left, or_right}
use Rattle.std.proofs.lemmas.List.{length-map, length-take, length-drop, map-append}
use Rattle.merkle_base.specs.Hashing.{Hashing}
use Rattle.merkle_base.specs.Tree.{Tree}
use Rattle.merkle_base.specs.declared.family.Bagging.{Bagging}
use Rattle.merkle_base.specs.declared.family.Bagging.TheVariants.{ForwardFold, BackwardFold}
use Rattle.merkle_root_theory.specs.Expression.{Place, Join, PrefixFold, SuffixFold, Expression, supplied, computed, cross_checked}
use Rattle.merkle_root_theory.specs.Claim.{next}
use Rattle.merkle_root_theory.specs.Layouts.{count_before}
use Rattle.merkle_root_theory.specs.Outside.{bag_all, Met, Unmet}
use Rattle.merkle_root_theory.specs.Plan.{Plan, peak, folding, left_fold_plan, right_fold_plan, with_right_fold_plan, root_plan, tree_meets, meets, siblings, outside_parts, path_siblings}
use Rattle.merkle_root_theory.proofs.BackwardValues.{LastMet, last_met, last_append, right_fold_met}
use Rattle.merkle_root_theory.proofs.LayoutCounts.{length-fold_all}
use Rattle.merkle_root_theory.proofs.LayoutFolds.{parts_after}
use Rattle.merkle_root_theory.proofs.OutsideNodes.{outside_parts_unmet, inner_unmet, left_fold_unmet, right_fold_unmet, left_fold_append}
use Rattle.merkle_root_theory.proofs.PartValues.{UnmetParts}
use Rattle.merkle_claim_theory.specs.PinnedClaim.{pin_tree, pin_plan, outside_plan, pinned_tree, pinned_claim}
use Rattle.merkle_pins_theory.proofs.ExpressionFolds.{plain, left_of, right_of, with_of, folded_of, left_of_append}

module _ {D : Type 0} (h : Hashing D) (b : ℕ → Option D) (w c : ℕ → Bool) (X : ℕ → D) where
  abbrev pub claimed : Plan → List D → List D → Expression D
  claimed p os is = plain (pinned_claim h b w c X p os is)

  abbrev outer : Plan → List D → List D
  outer p os = drop (length (outside_parts c p)) os

  abbrev inner : Plan → List D → List D
  inner p is = drop (length (path_siblings c p)) is

  -- a node rebuilt from the pins
  abbrev pub pin : Tree → Expression D
  pin t = plain (pin_tree h b t)

  -- what is computed of parts, one after another
  abbrev pub all_claimed : List Plan → List D → List D → List (Expression D)
  all_claimed [] os is = []
  all_claimed (p ∷ ps) os is = claimed p os is ∷ all_claimed ps (outer p os) (inner p is)

  -- ---- one part
  before_given : (p : Plan) (os is : List D) → meets c p ≡ false → meets w p ≡ true → claimed p os is ≡ plain (pin_plan h b p)
  before_given (peak t) os is e f =
      ap (λ z. plain (cond z (pinned_tree h b w c X t is) (outside_plan h b w (peak t) (next h os)))) e
      ∙ ap (λ z. plain (cond z (cross_checked (next h os) (pin_plan h b (peak t))) (supplied (next h os)))) f
  before_given (folding q l r) os is e f =
      ap (λ z. plain (cond z (computed q (pinned_claim h b w c X l os is) (pinned_claim h b w c X r (outer l os) (inner l is))) (outside_plan h b w (folding q l r) (next h os)))) e
      ∙ ap (λ z. plain (cond z (cross_checked (next h os) (pin_plan h b (folding q l r))) (supplied (next h os)))) f

  after_given : (p : Plan) (os is : List D) → meets c p ≡ false → meets w p ≡ false → claimed p os is ≡ supplied (next h os)
  after_given (peak t) os is e f =
      ap (λ z. plain (cond z (pinned_tree h b w c X t is) (outside_plan h b w (peak t) (next h os)))) e
      ∙ ap (λ z. plain (cond z (cross_checked (next h os) (pin_plan h b (peak t))) (supplied (next h os)))) f
  after_given (folding q l r) os is e f =
      ap (λ z. plain (cond z (computed q (pinned_claim h b w c X l os is) (pinned_claim h b w c X r (outer l os) (inner l is))) (outside_plan h b w (folding q l r) (next h os)))) e
      ∙ ap (λ z. plain (cond z (cross_checked (next h os) (pin_plan h b (folding q l r))) (supplied (next h os)))) f

  -- a met folding computes its sides
  folding_is : (q : Place) (l r : Plan) (os is : List D) → meets c l || meets c r ≡ true → claimed (folding q l r) os is ≡ computed q (claimed l os is) (claimed r (outer l os) (inner l is))
  folding_is q l r os is m =
      ap (λ z. plain (cond z (computed q (pinned_claim h b w c X l os is) (pinned_claim h b w c X r (outer l os) (inner l is))) (outside_plan h b w (folding q l r) (next h os)))) m

  -- and the parts after it take what the sides leave
  all_folding : (q : Place) (l r : Plan) (ps : List Plan) (os is : List D) → meets c l || meets c r ≡ true
      → all_claimed ps (outer (folding q l r) os) (inner (folding q l r) is) ≡ all_claimed ps (outer r (outer l os)) (inner r (inner l is))
  all_folding q l r ps os is m = ap₂ (all_claimed ps)
      (ap (λ z. drop (length (cond z (outside_parts c l ++ outside_parts c r) (folding q l r ∷ []))) os) m
      ∙ ap (λ n. drop n os) (length-append (outside_parts c l) (outside_parts c r)) ∙ sym (drop-drop (length (outside_parts c r)) (length (outside_parts c l)) os))
      (ap (λ z. drop (length (cond z (path_siblings c l ++ path_siblings c r) [])) is) m
      ∙ ap (λ n. drop n is) (length-append (path_siblings c l) (path_siblings c r)) ∙ sym (drop-drop (length (path_siblings c r)) (length (path_siblings c l)) is))

  -- ---- parts that are given, one after another
  outer_unmet : (p : Plan) (os : List D) → meets c p ≡ false → outer p os ≡ drop 1 os
  outer_unmet p os e = ap (λ z. drop (length z) os) (outside_parts_unmet c p e)

  inner_same : (p : Plan) (is : List D) → meets c p ≡ false → inner p is ≡ is
  inner_same p is e = ap (λ z. drop (length z) is) (inner_unmet c p e)

  all_before : (bs : List Tree) (qs : List Plan) (os is : List D) → Unmet c bs → Met w bs → all_claimed (map peak bs ++ qs) os is ≡ map pin bs ++ all_claimed qs (drop (length bs) os) is
  all_before [] qs os is u m = refl
  all_before (t ∷ bs) qs os is u m =
      let e : 1 + length bs ≡ suc (length bs) = omega arith in
      ap₂ (λ x xs. x ∷ xs) (before_given (peak t) os is u.0 m.0)
      (ap₂ (all_claimed (map peak bs ++ qs)) (outer_unmet (peak t) os u.0) (inner_same (peak t) is u.0)
      ∙ all_before bs qs (drop 1 os) is u.1 m.1
      ∙ ap (λ z. map pin bs ++ all_claimed qs z is) (drop-drop (length bs) 1 os ∙ ap (λ n. drop n os) e))

  all_given : (qs : List Plan) (os is : List D) → UnmetParts c qs → UnmetParts w qs → length qs ≤ length os → all_claimed qs os is ≡ map supplied (take (length qs) os)
  all_given [] os is u n l = refl
  all_given (p ∷ ps) [] is u n l = absurd (omega (arith, l))
  all_given (p ∷ ps) (d ∷ os) is u n l =
      ap₂ (λ x xs. x ∷ xs) (after_given p (d ∷ os) is u.0 n.0)
      (ap₂ (all_claimed ps) (outer_unmet p (d ∷ os) u.0) (inner_same p is u.0) ∙ all_given ps os is u.1 n.1 (omega (arith, l)))

  -- what is computed of peaks that overlap the range
  abbrev pub over_claimed : List Tree → List D → List (Expression D)
  over_claimed [] is = []
  over_claimed (t ∷ ts) is = plain (pinned_tree h b w c X t is) ∷ over_claimed ts (drop (length (siblings c t)) is)

  pub all_over : (over : List Tree) (qs : List Plan) (os is : List D) → Met c over → UnmetParts c qs → UnmetParts w qs → length qs ≤ length os
      → all_claimed (map peak over ++ qs) os is ≡ over_claimed over is ++ map supplied (take (length qs) os)
  all_over [] qs os is m u n l = all_given qs os is u n l
  all_over (t ∷ over) qs os is m u n l =
      ap₂ (λ x xs. x ∷ xs) (ap (λ z. plain (cond z (pinned_tree h b w c X t is) (outside_plan h b w (peak t) (next h os)))) m.0)
      (ap₂ (all_claimed (map peak over ++ qs)) (ap (λ z. drop (length (cond z [] (peak t ∷ []))) os) m.0) (ap (λ z. drop (length (cond z (siblings c t) [])) is) m.0)
      ∙ all_over over qs os (drop (length (siblings c t)) is) m.1 u n l)

  -- ---- folds left to right
  pins_left : (acc : Plan) (i : ℕ) (ts : List Tree) → plain (pin_plan h b (left_fold_plan acc i ts)) ≡ left_of (plain (pin_plan h b acc)) i (map pin ts)
  pins_left acc i [] = refl
  pins_left acc i (t ∷ ts) = pins_left (folding (PrefixFold i) acc (peak t)) (suc i) ts

  left_met : (acc : Plan) (i : ℕ) (ts : List Tree) → meets w acc ≡ true → meets w (left_fold_plan acc i ts) ≡ true
  left_met acc i [] e = e
  left_met acc i (t ∷ ts) e = left_met (folding (PrefixFold i) acc (peak t)) (suc i) ts (or_left (meets w acc) (tree_meets w t) e)

  left_next : (acc : Plan) (i : ℕ) (t : Tree) (ts : List Tree) (os is : List D) → meets c acc || tree_meets c t ≡ true
      → claimed (left_fold_plan acc i (t ∷ ts)) os is ≡ left_of (claimed acc os is) i (all_claimed (map peak (t ∷ ts)) (outer acc os) (inner acc is))
  left_next acc i t [] os is m = folding_is (PrefixFold i) acc (peak t) os is m
  left_next acc i t (u ∷ us) os is m =
      left_next (folding (PrefixFold i) acc (peak t)) (suc i) u us os is (or_left (meets c acc || tree_meets c t) (tree_meets c u) m)
      ∙ ap₂ (λ e es. left_of e (suc i) es) (folding_is (PrefixFold i) acc (peak t) os is m) (all_folding (PrefixFold i) acc (peak t) (map peak (u ∷ us)) os is m)

  left_first : (acc : Plan) (i : ℕ) (ts : List Tree) (os is : List D) → meets c acc ≡ true
      → claimed (left_fold_plan acc i ts) os is ≡ left_of (claimed acc os is) i (all_claimed (map peak ts) (outer acc os) (inner acc is))
  left_first acc i [] os is m = refl
  left_first acc i (t ∷ ts) os is m = left_next acc i t ts os is (or_left (meets c acc) (tree_meets c t) m)

  -- ---- bags
  bag_given : (i j : ℕ) (v : Tree) (vs : List Tree) (os is : List D) → Unmet c (v ∷ vs) → Unmet w (v ∷ vs) → claimed (right_fold_plan i v vs) os is ≡ claimed (right_fold_plan j v vs) os is
  bag_given i j v vs os is u n =
      after_given (right_fold_plan i v vs) os is (right_fold_unmet c i v vs u) (right_fold_unmet w i v vs n)
      ∙ sym (after_given (right_fold_plan j v vs) os is (right_fold_unmet c j v vs u) (right_fold_unmet w j v vs n))

  -- the bag of peaks, the last of them met, and of others after them, which have one digest
  right_met : (i j : ℕ) (t : Tree) (ts after : List Tree) (os is : List D) → LastMet c t ts → Unmet c after → Unmet w after
      → claimed (right_fold_plan i t (ts ++ after)) os is ≡ right_of i (claimed (peak t) os is) (all_claimed (map peak ts ++ bag_all j after) (outer (peak t) os) (inner (peak t) is))
  right_met i j t [] [] os is m u n = refl
  right_met i j t [] (v ∷ vs) os is m u n =
      folding_is (SuffixFold i) (peak t) (right_fold_plan (suc i) v vs) os is (right_fold_met c i t [] (v ∷ vs) m)
      ∙ ap (λ e. computed (SuffixFold i) (claimed (peak t) os is) e) (bag_given (suc i) j v vs (outer (peak t) os) (inner (peak t) is) u n)
  right_met i j t (s ∷ ts) after os is m u n =
      folding_is (SuffixFold i) (peak t) (right_fold_plan (suc i) s (ts ++ after)) os is (right_fold_met c i t (s ∷ ts) after m)
      ∙ ap (λ e. computed (SuffixFold i) (claimed (peak t) os is) e) (right_met (suc i) j s ts after (outer (peak t) os) (inner (peak t) is) m u n)

  -- joined to what stands before them
  joined : (acc : Plan) (i j : ℕ) (t : Tree) (ts after : List Tree) (os is : List D) → LastMet c t ts → Unmet c after → Unmet w after
      → with_of (claimed acc os is) i (all_claimed (map peak (t ∷ ts) ++ bag_all j after) (outer acc os) (inner acc is)) ≡ claimed (with_right_fold_plan acc i (t ∷ ts ++ after)) os is
  joined acc i j t ts after os is m u n = sym (
      folding_is Join acc (right_fold_plan i t (ts ++ after)) os is (or_right (meets c acc) _ (right_fold_met c i t ts after m))
      ∙ ap (λ e. computed Join (claimed acc os is) e) (right_met i j t ts after (outer acc os) (inner acc is) m u n))

  join_met : (acc : Plan) (i j : ℕ) (over after : List Tree) (os is : List D) → meets c acc ≡ true → Met c over → Unmet c after → Unmet w after
      → with_of (claimed acc os is) i (all_claimed (map peak over ++ bag_all j after) (outer acc os) (inner acc is)) ≡ claimed (with_right_fold_plan acc i (over ++ after)) os is
  join_met acc i j [] [] os is e m u n = refl
  join_met acc i j [] (v ∷ vs) os is e m u n = sym (
      folding_is Join acc (right_fold_plan i v vs) os is (or_left (meets c acc) _ e)
      ∙ ap (λ z. computed Join (claimed acc os is) z) (bag_given i j v vs (outer acc os) (inner acc is) u n))
  join_met acc i j (t ∷ over) after os is e m u n = joined acc i j t over after os is (last_met c t over m) u n

  join_reaches : (acc : Plan) (i j : ℕ) (bs : List Tree) (t : Tree) (over after : List Tree) (os is : List D) → Met c (t ∷ over) → Unmet c after → Unmet w after
      → with_of (claimed acc os is) i (all_claimed (map peak bs ++ (map peak (t ∷ over) ++ bag_all j after)) (outer acc os) (inner acc is))
      ≡ claimed (with_right_fold_plan acc i (bs ++ (t ∷ over ++ after))) os is
  join_reaches acc i j [] t over after os is m u n = joined acc i j t over after os is (last_met c t over m) u n
  join_reaches acc i j (a ∷ bs) t over after os is m u n =
      ap (λ ps. with_of (claimed acc os is) i (all_claimed (peak a ∷ ps) (outer acc os) (inner acc is)))
      (sym (append_assoc (map peak bs) (map peak (t ∷ over)) (bag_all j after)) ∙ ap (λ z. z ++ bag_all j after) (sym (map-append peak bs (t ∷ over))))
      ∙ joined acc i j a (bs ++ t ∷ over) after os is (last_append c a bs t over (last_met c t over m)) u n
      ∙ ap (λ z. claimed (with_right_fold_plan acc i (a ∷ z)) os is) (append_assoc bs (t ∷ over) after)

  -- the first n expressions after a part are folded onto its own from number g on, and the others are bagged from number i on
  abbrev folded_from : (n g i : ℕ) → Plan → List Plan → List D → List D → Expression D
  folded_from n g i acc ps os is =
      let es = all_claimed ps (outer acc os) (inner acc is) in
      with_of (left_of (claimed acc os is) g (take n es)) i (drop n es)

  more : (n g i : ℕ) (acc : Plan) (t : Tree) (ps : List Plan) (os is : List D) → meets c acc || tree_meets c t ≡ true
      → folded_from (suc n) g i acc (peak t ∷ ps) os is ≡ folded_from n (suc g) i (folding (PrefixFold g) acc (peak t)) ps os is
  more n g i acc t ps os is m = ap₂ (λ e es. with_of (left_of e (suc g) (take n es)) i (drop n es))
      (sym (folding_is (PrefixFold g) acc (peak t) os is m)) (sym (all_folding (PrefixFold g) acc (peak t) ps os is m))

  -- from a met part on; m: how many of the peaks after the range stand alone
  join_left : (acc : Plan) (g i j n m : ℕ) (over after : List Tree) (os is : List D) → meets c acc ≡ true → Met c over → Unmet c after → Unmet w after → m ≡ n - length over
      → folded_from n g i acc (map peak over ++ (map peak (take m after) ++ bag_all j (drop m after))) os is
      ≡ claimed (with_right_fold_plan (left_fold_plan acc g (take n (over ++ after))) i (drop n (over ++ after))) os is
  join_left acc g i j zero zero over after os is e x u v l = join_met acc i j over after os is e x u v
  join_left acc g i j zero (suc m) over after os is e x u v l = absurd (omega (arith, l))
  join_left acc g i j (suc n) zero [] after os is e x u v l = absurd (omega (arith, l))
  join_left acc g i j (suc n) (suc m) [] [] os is e x u v l = refl
  join_left acc g i j (suc n) (suc m) [] (a ∷ vs) os is e x u v l =
      more n g i acc a (map peak (take m vs) ++ bag_all j (drop m vs)) os is (or_left (meets c acc) (tree_meets c a) e)
      ∙ join_left (folding (PrefixFold g) acc (peak a)) (suc g) i j n m [] vs os is (or_left (meets c acc) (tree_meets c a) e) x u.1 v.1 (omega (arith, l))
  join_left acc g i j (suc n) m (t ∷ over) after os is e x u v l =
      more n g i acc t (map peak over ++ (map peak (take m after) ++ bag_all j (drop m after))) os is (or_left (meets c acc) (tree_meets c t) e)
      ∙ join_left (folding (PrefixFold g) acc (peak t)) (suc g) i j n m over after os is (or_left (meets c acc) (tree_meets c t) e) x.1 u v (omega (arith, l))

  -- from a part before the range on, with peaks bs before it; q: how many of them stand alone
  from_before : (acc : Plan) (g i j n m q : ℕ) (bs : List Tree) (t : Tree) (over after : List Tree) (os is : List D) → meets c acc ≡ false → meets w acc ≡ true → Unmet c bs → Met w bs
      → Met c (t ∷ over) → Unmet c after → Unmet w after → m ≡ n - (length bs + suc (length over)) → q ≡ length bs - n
      → let zs = all_claimed (map peak (t ∷ over) ++ (map peak (take m after) ++ bag_all j (drop m after))) (drop q (drop 1 os)) is in
      with_of (left_of (claimed acc os is) g (take n (map pin bs ++ zs))) i (drop n (map pin bs ++ zs))
      ≡ claimed (with_right_fold_plan (left_fold_plan acc g (take n (bs ++ (t ∷ over ++ after)))) i (drop n (bs ++ (t ∷ over ++ after)))) os is
  from_before acc g i j zero zero q bs t over after os is e f u y x v a l k =
      let qs = map peak (t ∷ over) ++ bag_all j after in
      let whole : q ≡ length bs = omega (arith, k) in
      ap (λ n. with_of (claimed acc os is) i (map pin bs ++ all_claimed qs (drop n (drop 1 os)) is)) whole
      ∙ ap (λ es. with_of (claimed acc os is) i es) (sym (all_before bs qs (drop 1 os) is u y))
      ∙ ap₂ (λ o s. with_of (claimed acc os is) i (all_claimed (map peak bs ++ qs) o s)) (sym (outer_unmet acc os e)) (sym (inner_same acc is e))
      ∙ join_reaches acc i j bs t over after os is x v a
  from_before acc g i j zero (suc m) q bs t over after os is e f u y x v a l k = absurd (omega (arith, l))
  from_before acc g i j (suc n) m q [] t over after os is e f u y x v a l k =
      let qs = map peak over ++ (map peak (take m after) ++ bag_all j (drop m after)) in
      let none : q ≡ 0 = omega (arith, k) in
      let reached : meets c acc || tree_meets c t ≡ true = or_right (meets c acc) (tree_meets c t) x.0 in
      ap (λ o. with_of (left_of (claimed acc os is) g (take (suc n) (all_claimed (peak t ∷ qs) (drop o (drop 1 os)) is))) i (drop (suc n) (all_claimed (peak t ∷ qs) (drop o (drop 1 os)) is))) none
      ∙ ap₂ (λ o s. with_of (left_of (claimed acc os is) g (take (suc n) (all_claimed (peak t ∷ qs) o s))) i
      (drop (suc n) (all_claimed (peak t ∷ qs) o s))) (sym (outer_unmet acc os e)) (sym (inner_same acc is e))
      ∙ more n g i acc t qs os is reached
      ∙ join_left (folding (PrefixFold g) acc (peak t)) (suc g) i j n m over after os is reached x.1 v a (omega (arith, l))
  from_before acc g i j (suc n) m q (d ∷ bs) t over after os is e f u y x v a l k =
      let next_acc = folding (PrefixFold g) acc (peak d) in
      let low : meets c acc || tree_meets c d ≡ false = ap₂ ◌||◌ e u.0 in
      let high : meets w acc || tree_meets w d ≡ true = or_left (meets w acc) (tree_meets w d) f in
      let zs = all_claimed (map peak (t ∷ over) ++ (map peak (take m after) ++ bag_all j (drop m after))) (drop q (drop 1 os)) is in
      ap (λ z. with_of (left_of z (suc g) (take n (map pin bs ++ zs))) i (drop n (map pin bs ++ zs)))
      (ap (λ z. computed (PrefixFold g) z (pin d)) (before_given acc os is e f) ∙ sym (before_given next_acc os is low high))
      ∙ from_before next_acc (suc g) i j n m q bs t over after os is low high u.1 y.1 x v a (omega (arith, l)) (omega (arith, k))

  -- ---- the root's plan
  module _ (k : ℕ) (t : Tree) (over after : List Tree) (m : Met c (t ∷ over)) (v : Unmet c after) (a : Unmet w after) (ds is : List D) where
    -- what is computed of the peaks before the range, of those that overlap it, and of the parts after it
    abbrev pub of_peaks : Bagging → List Tree → List (Expression D)
    of_peaks bagging before = map pin before ++ all_claimed (map peak (t ∷ over) ++ parts_after bagging k (length before + suc (length over)) after) (drop (count_before bagging k before) ds) is

    abbrev pub IsFolded : Bagging → List Tree → Type 0
    IsFolded bagging before = folded_of bagging k (of_peaks bagging before) ≡ option_map (λ p. claimed p ds is) (root_plan bagging k (before ++ (t ∷ over ++ after)))

    all_single : map peak over ++ (map peak after ++ []) ≡ map peak (over ++ after)
    all_single = ap (λ z. map peak over ++ z) (append-nil (map peak after)) ∙ sym (map-append peak over after)

    forward : (before : List Tree) → Unmet c before → Met w before → IsFolded ForwardFold before
    forward [] u y =
        let met = 0 + suc (length over) in
        let none : count_before ForwardFold k [] ≡ 0 = omega arith in
        ap (λ n. folded_of ForwardFold k (all_claimed (map peak (t ∷ over) ++ parts_after ForwardFold k met after) (drop n ds) is)) none
        ∙ ap Some (ap (λ ps. left_of (claimed (peak t) ds is) 1 (all_claimed ps (outer (peak t) ds) (inner (peak t) is))) all_single
        ∙ sym (left_first (peak t) 1 (over ++ after) ds is m.0))
    forward (d ∷ bs) u y =
        let acc = left_fold_plan (peak d) 1 bs in
        let low : meets c acc ≡ false = left_fold_unmet c (peak d) 1 bs u.0 u.1 in
        let high : meets w acc ≡ true = left_met (peak d) 1 bs y.0 in
        let es = all_claimed (map peak (t ∷ (over ++ after))) (drop 1 ds) is in
        let long : length bs ≡ length (map pin bs) = sym (length-map bs pin) in
        let met = suc (length bs) + suc (length over) in
        let one : count_before ForwardFold k (d ∷ bs) ≡ 1 = omega arith in
        ap (λ n. folded_of ForwardFold k (map pin (d ∷ bs) ++ all_claimed (map peak (t ∷ over) ++ parts_after ForwardFold k met after) (drop n ds) is)) one
        ∙ ap Some (ap (λ ps. left_of (pin d) 1 (map pin bs ++ all_claimed (peak t ∷ ps) (drop 1 ds) is)) all_single
        ∙ left_of_append (pin d) 1 (length bs) (map pin bs) es long
        ∙ ap (λ z. left_of z (1 + length bs) es) (sym (before_given acc ds is low high ∙ pins_left (peak d) 1 bs))
        ∙ ap₂ (λ o s. left_of (claimed acc ds is) (1 + length bs) (all_claimed (map peak (t ∷ (over ++ after))) o s)) (sym (outer_unmet acc ds low)) (sym (inner_same acc is low))
        ∙ sym (left_next acc (1 + length bs) t (over ++ after) ds is (or_right (meets c acc) (tree_meets c t) m.0))
        ∙ ap (λ p. claimed p ds is) (sym (left_fold_append c (peak d) 1 bs (t ∷ (over ++ after)))))

    backward : (before : List Tree) → Unmet c before → Met w before → IsFolded BackwardFold before
    backward [] u y =
        let met = 0 + suc (length over) in
        let none : count_before BackwardFold k [] ≡ 0 = omega (arith, length-fold_all (take k []), length-take {A = Tree} k [], length-drop {A = Tree} k []) in
        ap (λ n. folded_of BackwardFold k (all_claimed (map peak (t ∷ over) ++ parts_after BackwardFold k met after) (drop n ds) is)) none
        ∙ ap Some (join_left (peak t) 1 (suc (pred k)) (met + (k - met)) (pred k) (k - met) over after ds is m.0 m.1 v a (omega arith))
    backward (d ∷ bs) u y =
        let met = suc (length bs) + suc (length over) in
        let q = length bs - pred k in
        let ps = map peak (t ∷ over) ++ parts_after BackwardFold k met after in
        let count : 1 + q ≡ count_before BackwardFold k (d ∷ bs) = omega (arith, length-fold_all (take k (d ∷ bs)), length-take k (d ∷ bs), length-drop k (d ∷ bs)) in
        let given : drop (count_before BackwardFold k (d ∷ bs)) ds ≡ drop q (drop 1 ds) = sym (drop-drop q 1 ds ∙ ap (λ n. drop n ds) count) in
        ap (λ o. folded_of BackwardFold k (map pin (d ∷ bs) ++ all_claimed ps o is)) given
        ∙ ap Some (ap (λ z. with_of (left_of z 1 (take (pred k) (map pin bs ++ all_claimed ps (drop q (drop 1 ds)) is))) (suc (pred k))
        (drop (pred k) (map pin bs ++ all_claimed ps (drop q (drop 1 ds)) is))) (sym (before_given (peak d) ds is u.0 y.0))
        ∙ from_before (peak d) 1 (suc (pred k)) (met + (k - met)) (pred k) (k - met) q bs t over after ds is u.0 y.0 u.1 y.1 m v a (omega arith) refl)

    pub parts_folded : (bagging : Bagging) (before : List Tree) → Unmet c before → Met w before → IsFolded bagging before
    parts_folded ForwardFold before u y = forward before u y
    parts_folded BackwardFold before u y = backward before u y
