-- What a range check hashes at folds, by the digests of the parts.
use Rattle.std.proofs.Common.{◌≡◌, ℕ, zero, suc, pred, ◌+◌, ◌-◌, ◌<◌, ◌≤◌, Bool, true, ◌||◌, List, [], ◌∷◌, ◌++◌, ⊎_elim, length, map, take, drop, fold, refl}
use Rattle.std.proofs.Common.{ap, ap₂, sym, ◌∙◌, arith, append-nil, append_assoc, Option, Some, None, drop_of_length-le}
use Rattle.std.proofs.lemmas.Bool.{or_left, or_right, cases_lt}
use Rattle.std.proofs.Math.Seq.{take-append-add, drop-append-add}
use Rattle.std.proofs.lemmas.List.{length-take, map-append, take_all, take-append-le, drop-append-le}
use Rattle.merkle_base.specs.Hashing.{Hashing}
use Rattle.merkle_base.specs.Tree.{Tree}
use Rattle.merkle_base.specs.declared.family.Bagging.{Bagging}
use Rattle.merkle_base.specs.declared.family.Bagging.TheVariants.{ForwardFold, BackwardFold}
use Rattle.merkle_root_theory.specs.Expression.{PrefixFold, Pair, Input, value}
use Rattle.merkle_root_theory.specs.Claim.{claim}
use Rattle.merkle_root_theory.specs.Layouts.{count_inactive}
use Rattle.merkle_root_theory.specs.Outside.{bag_all, folded_prefix, Met, Unmet}
use Rattle.merkle_root_theory.specs.Plan.{Plan, peak, folding, left_fold_plan, with_right_fold_plan, root_plan, meets, tree_meets}
use Rattle.merkle_root_theory.proofs.BackwardValues.{last_met, last_append}
use Rattle.merkle_root_theory.proofs.LayoutCounts.{length-fold_all}
use Rattle.merkle_root_theory.proofs.LayoutFolds.{parts_before, parts_after, parts_before_cons, parts_before_nil}
use Rattle.merkle_root_theory.proofs.OutsideNodes.{left_fold_unmet, left_fold_append, unmet_take}
use Rattle.merkle_root_theory.proofs.PartValues.{part_values, claim_unmet, value_folding, values_folding}
use Rattle.merkle_audit_theory.specs.Folds.{left_inputs, joined_inputs, numbered_inputs}
use Rattle.merkle_audit_theory.proofs.ClaimFolds.{folds, folds_in, outer, inner, folds_peak, met_at, left_from, forward_first, joined_claim, joined_given}

module _ {D : Type 0} (h : Hashing D) (c : ℕ → Bool) (Y : ℕ → D) where
  abbrev val : Plan → List D → List D → D
  val p os is = value h (claim h c Y p os is)

  abbrev after_part : Plan → List Plan → List D → List D → List D
  after_part acc ps os is = part_values h c Y ps (outer h c Y acc os) (inner h c Y acc is)

  -- the first n digests after a part are folded onto its own from number g on, and the others are bagged from number i on
  abbrev inputs_from : (n g i : ℕ) → Plan → List Plan → List D → List D → List (Input D)
  inputs_from n g i acc ps os is =
      let es = after_part acc ps os is in
      joined_inputs h (fold h.fold (val acc os is) (take n es)) (left_inputs h (val acc os is) g (take n es) ++ folds h c Y acc os is) i (drop n es)

  more : (n g i : ℕ) (acc : Plan) (t : Tree) (ps : List Plan) (os is : List D) → meets c acc || tree_meets c t ≡ true
      → inputs_from (suc n) g i acc (peak t ∷ ps) os is ≡ inputs_from n (suc g) i (folding (PrefixFold g) acc (peak t)) ps os is
  more n g i acc t ps os is m =
      let nacc = folding (PrefixFold g) acc (peak t) in
      let a = val acc os is in
      let b = val (peak t) (outer h c Y acc os) (inner h c Y acc is) in
      let es = part_values h c Y ps (outer h c Y (peak t) (outer h c Y acc os)) (inner h c Y (peak t) (inner h c Y acc is)) in
      let x : Input D = record { place = PrefixFold g; argument = Pair a b } in
      let F = folds h c Y acc os is in
      let L = left_inputs h (h.fold a b) (suc g) (take n es) in
      let here : folds h c Y nacc os is ≡ x ∷ F = met_at h c Y (PrefixFold g) acc (peak t) os is m refl
      ∙ ap (λ z. x ∷ (F ++ z)) (folds_peak h c Y t (outer h c Y acc os) (inner h c Y acc is)) ∙ ap (λ z. x ∷ z) (append-nil F) in
      ap (λ z. joined_inputs h (fold h.fold (h.fold a b) (take n es)) z i (drop n es)) (append_assoc L (x ∷ []) F ∙ ap (λ z. L ++ z) (sym here))
      ∙ ap₂ (λ v ds. joined_inputs h (fold h.fold v (take n ds)) (left_inputs h v (suc g) (take n ds) ++ folds h c Y nacc os is) i (drop n ds))
      (sym (value_folding h c Y (PrefixFold g) acc (peak t) os is m)) (sym (values_folding h c Y (PrefixFold g) acc (peak t) ps os is m))

  join_met : (acc : Plan) (g i j : ℕ) (over after : List Tree) (os is : List D) → meets c acc ≡ true → Met c over → Unmet c after
      → inputs_from 0 g i acc (map peak over ++ bag_all j after) os is ≡ folds h c Y (with_right_fold_plan acc i (over ++ after)) os is
  join_met acc g i j [] [] os is e m u = refl
  join_met acc g i j [] (v ∷ vs) os is e m u = sym (joined_given h c Y acc i j v vs os is e u)
  join_met acc g i j (t ∷ over) after os is e m u = sym (joined_claim h c Y acc i j t over after os is (last_met c t over m) u)

  join_reaches : (acc : Plan) (i j : ℕ) (bs : List Tree) (t : Tree) (over after : List Tree) (os is : List D) → Met c (t ∷ over) → Unmet c after
      → joined_inputs h (val acc os is) (folds h c Y acc os is) i (after_part acc (map peak bs ++ (map peak (t ∷ over) ++ bag_all j after)) os is)
      ≡ folds h c Y (with_right_fold_plan acc i (bs ++ (t ∷ over ++ after))) os is
  join_reaches acc i j [] t over after os is m u = sym (joined_claim h c Y acc i j t over after os is (last_met c t over m) u)
  join_reaches acc i j (b ∷ bs) t over after os is m u =
      ap (λ ps. joined_inputs h (val acc os is) (folds h c Y acc os is) i (after_part acc (peak b ∷ ps) os is))
      (sym (append_assoc (map peak bs) (map peak (t ∷ over)) (bag_all j after)) ∙ ap (λ z. z ++ bag_all j after) (sym (map-append peak bs (t ∷ over))))
      ∙ sym (joined_claim h c Y acc i j b (bs ++ t ∷ over) after os is (last_append c b bs t over (last_met c t over m)) u)
      ∙ ap (λ z. folds h c Y (with_right_fold_plan acc i (b ∷ z)) os is) (append_assoc bs (t ∷ over) after)

  join_left : (acc : Plan) (g i j n m : ℕ) (over after : List Tree) (os is : List D) → meets c acc ≡ true → Met c over → Unmet c after → m ≡ n - length over
      → inputs_from n g i acc (map peak over ++ (map peak (take m after) ++ bag_all j (drop m after))) os is
      ≡ folds h c Y (with_right_fold_plan (left_fold_plan acc g (take n (over ++ after))) i (drop n (over ++ after))) os is
  join_left acc g i j zero zero over after os is e w u l = join_met acc g i j over after os is e w u
  join_left acc g i j zero (suc m) over after os is e w u l = absurd (omega (arith, l))
  join_left acc g i j (suc n) zero [] after os is e w u l = absurd (omega (arith, l))
  join_left acc g i j (suc n) (suc m) [] [] os is e w u l = refl
  join_left acc g i j (suc n) (suc m) [] (v ∷ vs) os is e w u l =
      more n g i acc v (map peak (take m vs) ++ bag_all j (drop m vs)) os is (or_left (meets c acc) (tree_meets c v) e)
      ∙ join_left (folding (PrefixFold g) acc (peak v)) (suc g) i j n m [] vs os is (or_left (meets c acc) (tree_meets c v) e) w u.1 (omega (arith, l))
  join_left acc g i j (suc n) m (t ∷ over) after os is e w u l =
      more n g i acc t (map peak over ++ (map peak (take m after) ++ bag_all j (drop m after))) os is (or_left (meets c acc) (tree_meets c t) e)
      ∙ join_left (folding (PrefixFold g) acc (peak t)) (suc g) i j n m over after os is (or_left (meets c acc) (tree_meets c t) e) w.1 u (omega (arith, l))

  module _ (k : ℕ) (t : Tree) (over after : List Tree) (m : Met c (t ∷ over)) (v : Unmet c after) (os is : List D) where
    unfoldable pub folds_of : Option Plan → List (Input D)
    folds_of None = []
    folds_of (Some p) = folds h c Y p os is

    -- how many peaks the first digest stands for
    abbrev pub first_stands : Bagging → List Tree → ℕ
    first_stands bagging before = suc (pred (length (folded_prefix bagging k before)))

    abbrev pub parts : Bagging → List Tree → List Plan
    parts bagging before = parts_before bagging k before ++ (map peak (t ∷ over) ++ parts_after bagging k (length before + suc (length over)) after)

    -- the folds are those of the parts' digests
    unfoldable pub IsHashed : Bagging → List Tree → Type 0
    IsHashed bagging before = numbered_inputs h bagging k (count_inactive bagging k before) (first_stands bagging before)
        (part_values h c Y (parts bagging before) os is) ≡ folds_of (root_plan bagging k (before ++ (t ∷ over ++ after)))

    all_single : map peak over ++ (map peak after ++ []) ≡ map peak (over ++ after)
    all_single = ap (λ z. map peak over ++ z) (append-nil (map peak after)) ∙ sym (map-append peak over after)

    no_folds : (b : Tree) (bs : List Tree) → Unmet c (b ∷ bs) → folds h c Y (left_fold_plan (peak b) 1 bs) os is ≡ []
    no_folds b bs u = ap (folds_in h c Y) (claim_unmet h c Y (left_fold_plan (peak b) 1 bs) os is (left_fold_unmet c (peak b) 1 bs u.0 u.1))

    forward : (before : List Tree) → Unmet c before → IsHashed ForwardFold before
    unfolding folds_of IsHashed
    forward [] u = ap (λ ps. left_inputs h (val (peak t) os is) 1 (after_part (peak t) ps os is)) all_single ∙ sym (forward_first h c Y t (over ++ after) os is m.0)
    forward (b ∷ bs) u =
        let acc = left_fold_plan (peak b) 1 bs in
        let n = suc (length bs) in
        let count : 1 + length bs ≡ n = omega arith in
        ap (λ ps. left_inputs h (val acc os is) n (after_part acc (peak t ∷ ps) os is)) all_single
        ∙ sym (left_from h c Y acc n t (over ++ after) os is (or_right (meets c acc) (tree_meets c t) m.0)
        ∙ ap (λ z. left_inputs h (val acc os is) n (after_part acc (map peak (t ∷ (over ++ after))) os is) ++ z) (no_folds b bs u)
        ∙ append-nil (left_inputs h (val acc os is) n (after_part acc (map peak (t ∷ (over ++ after))) os is)))
        ∙ sym (ap (λ p. folds h c Y p os is) (left_fold_append c (peak b) 1 bs (t ∷ (over ++ after)) ∙ ap (λ z. left_fold_plan acc z (t ∷ (over ++ after))) count))

    -- the parts as a first one and others
    backward_as : (j n g : ℕ) (st : ℕ) (ps : List Plan) (p : Plan) (qs : List Plan) → j - 1 ≡ n → st ≡ g → ps ≡ p ∷ qs → folds h c Y p os is ≡ []
        → numbered_inputs h BackwardFold k j st (part_values h c Y ps os is) ≡ inputs_from n g (suc (pred k)) p qs os is
    backward_as j n g st ps p qs e w f none =
        ap (λ z. numbered_inputs h BackwardFold k j st (part_values h c Y z os is)) f
        ∙ ap₂ (λ a b. joined_inputs h (fold h.fold (val p os is) (take a (after_part p qs os is)))
        (left_inputs h (val p os is) b (take a (after_part p qs os is))) (suc (pred k)) (drop a (after_part p qs os is))) e w
        ∙ ap (λ z. joined_inputs h (fold h.fold (val p os is) (take n (after_part p qs os is))) z (suc (pred k)) (drop n (after_part p qs os is)))
        (sym (ap (λ z. left_inputs h (val p os is) g (take n (after_part p qs os is)) ++ z) none ∙ append-nil (left_inputs h (val p os is) g (take n (after_part p qs os is)))))

    -- the folded prefix ends before the range
    ends_before : (b : Tree) (bs : List Tree) → Unmet c (b ∷ bs) → pred k ≤ length bs → IsHashed BackwardFold (b ∷ bs)
    unfolding folds_of IsHashed
    ends_before b bs u l =
        let met = suc (length bs) + suc (length over) in
        let acc = left_fold_plan (peak b) 1 (take (pred k) bs) in
        let none : k - met ≡ 0 = omega arith in
        backward_as (count_inactive BackwardFold k (b ∷ bs)) 0 (first_stands BackwardFold (b ∷ bs)) (first_stands BackwardFold (b ∷ bs)) _ acc
        (map peak (drop (pred k) bs) ++ (map peak (t ∷ over) ++ bag_all (met + (k - met)) after))
        (omega (arith, length-fold_all (take k (b ∷ bs)), length-take k (b ∷ bs))) refl
        (ap₂ (λ z n. z ++ (map peak (t ∷ over) ++ (map peak (take n after) ++ bag_all (met + (k - met)) (drop n after)))) (parts_before_cons k b bs) none)
        (no_folds b (take (pred k) bs) (u.0, unmet_take c (pred k) bs u.1))
        ∙ join_reaches acc (suc (pred k)) (met + (k - met)) (drop (pred k) bs) t over after os is m v
        ∙ ap₂ (λ x y. folds h c Y (with_right_fold_plan (left_fold_plan (peak b) 1 x) (suc (pred k)) y) os is)
        (sym (take-append-le (pred k) bs (t ∷ over ++ after) l)) (sym (drop-append-le (pred k) bs (t ∷ over ++ after) l))

    -- or reaches all peaks before it
    goes_past : (b : Tree) (bs : List Tree) → Unmet c (b ∷ bs) → length bs < pred k → IsHashed BackwardFold (b ∷ bs)
    unfolding folds_of IsHashed
    goes_past b bs u l =
        let met = suc (length bs) + suc (length over) in
        let n = pred k - suc (length bs) in
        let acc = left_fold_plan (peak b) 1 bs in let q = PrefixFold (1 + length bs) in
        let far : pred k ≡ length bs + suc (pred k - suc (length bs)) = omega arith in
        let later = map peak over ++ parts_after BackwardFold k met after in
        let reached : meets c acc || tree_meets c t ≡ true = or_right (meets c acc) (tree_meets c t) m.0 in
        backward_as (count_inactive BackwardFold k (b ∷ bs)) (suc n) (1 + length bs) (first_stands BackwardFold (b ∷ bs)) _ acc (peak t ∷ later)
        (omega (arith, length-fold_all (take k (b ∷ bs)), length-take k (b ∷ bs))) (omega (arith, length-take k (b ∷ bs)))
        (ap (λ z. z ++ peak t ∷ later) (parts_before_cons k b bs ∙ ap₂ (λ x y. left_fold_plan (peak b) 1 x ∷ map peak y) (take_all (pred k) bs (omega arith)) (drop_of_length-le bs (omega arith))))
        (no_folds b bs u)
        ∙ more n (1 + length bs) (suc (pred k)) acc t later os is reached
        ∙ join_left (folding q acc (peak t)) (suc (1 + length bs)) (suc (pred k)) (met + (k - met)) n (k - met) over after os is reached m.1 v (omega arith)
        ∙ ap (λ z. folds h c Y (with_right_fold_plan z (suc (pred k)) (drop n (over ++ after))) os is) (sym (left_fold_append c (peak b) 1 bs (t ∷ take n (over ++ after))))
        ∙ ap₂ (λ x y. folds h c Y (with_right_fold_plan (left_fold_plan (peak b) 1 x) (suc (pred k)) y) os is)
        (sym (ap (λ z. take z (bs ++ (t ∷ over ++ after))) far ∙ take-append-add bs (t ∷ over ++ after) (suc n)))
        (sym (ap (λ z. drop z (bs ++ (t ∷ over ++ after))) far ∙ drop-append-add bs (t ∷ over ++ after) (suc n)))

    -- or there is none before it
    none_before : IsHashed BackwardFold []
    unfolding folds_of IsHashed
    none_before =
        let met = 0 + suc (length over) in
        let later = map peak over ++ parts_after BackwardFold k met after in
        backward_as (count_inactive BackwardFold k []) (pred k) 1 (first_stands BackwardFold []) _ (peak t) later
        (omega (arith, length-fold_all (take k []), length-take {A = Tree} k [])) (omega (arith, length-take {A = Tree} k []))
        (ap (λ z. z ++ peak t ∷ later) (parts_before_nil k)) (folds_peak h c Y t os is)
        ∙ join_left (peak t) 1 (suc (pred k)) (met + (k - met)) (pred k) (k - met) over after os is m.0 m.1 v (omega arith)

    pub parts_hashed : (bagging : Bagging) (before : List Tree) → Unmet c before → IsHashed bagging before
    parts_hashed ForwardFold before u = forward before u
    parts_hashed BackwardFold [] u = none_before
    parts_hashed BackwardFold (b ∷ bs) u = ⊎_elim (goes_past b bs u) (ends_before b bs u) (cases_lt (length bs) (pred k))
