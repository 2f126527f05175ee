-- A fold of a claim right to left, as a bag of digests.
use Rattle.std.proofs.Common.{◌≡◌, ℕ, zero, suc, ◌-◌, Bool, true, ◌||◌, List, [], ◌∷◌, ◌++◌, length, map, drop, take, arith, Some, refl, ap, ap₂, sym, ◌∙◌, fold, append_assoc}
use Rattle.std.specs.Option.{option_map_or}
use Rattle.std.proofs.lemmas.Bool.{or_right, or_left}
use Rattle.std.proofs.lemmas.List.{map-append}
use Rattle.merkle_base.specs.Tree.{Tree}
use Rattle.merkle_base.specs.Hashing.{Hashing}
use Rattle.merkle_base.specs.Root as root
use Rattle.merkle_base.proofs.RightFolds.{with_right_fold}
use Rattle.merkle_root_theory.specs.Expression.{Join, PrefixFold, SuffixFold, value}
use Rattle.merkle_root_theory.specs.Plan.{Plan, peak, folding, left_fold_plan, right_fold_plan, with_right_fold_plan, meets, tree_meets, outside_parts, path_siblings}
use Rattle.merkle_root_theory.specs.Outside.{bag_all, Met, Unmet}
use Rattle.merkle_root_theory.specs.Claim.{claim}
use Rattle.merkle_root_theory.proofs.OutsideNodes.{right_fold_unmet}
use Rattle.merkle_root_theory.proofs.PartValues.{part_values, claim_unmet, value_folding, values_folding}

-- the last of the peaks is met
abbrev pub LastMet : (ℕ → Bool) → Tree → List Tree → Type 0
LastMet c t [] = tree_meets c t ≡ true
LastMet c t (u ∷ us) = LastMet c u us

pub last_met : (c : ℕ → Bool) (t : Tree) (over : List Tree) → Met c (t ∷ over) → LastMet c t over
last_met c t [] m = m.0
last_met c t (u ∷ over) m = last_met c u over m.1

pub last_append : (c : ℕ → Bool) (b : Tree) (bs : List Tree) (t : Tree) (over : List Tree) → LastMet c t over → LastMet c b (bs ++ t ∷ over)
last_append c b [] t over m = m
last_append c b (d ∷ bs) t over m = last_append c d bs t over m

pub right_fold_met : (c : ℕ → Bool) (i : ℕ) (t : Tree) (ts after : List Tree) → LastMet c t ts → meets c (right_fold_plan i t (ts ++ after)) ≡ true
right_fold_met c i t [] [] m = m
right_fold_met c i t [] (v ∷ vs) m = or_left (tree_meets c t) (meets c (right_fold_plan (suc i) v vs)) m
right_fold_met c i t (u ∷ us) after m = or_right (tree_meets c t) (meets c (right_fold_plan (suc i) u (us ++ after))) (right_fold_met c (suc i) u us after m)

module _ {D : Type 0} (h : Hashing D) (c : ℕ → Bool) (X : ℕ → D) where
  -- a bag that isn't met is the next digest, whatever its number
  right_fold_given : (i j : ℕ) (v : Tree) (vs : List Tree) (os is : List D) → Unmet c (v ∷ vs)
      → value h (claim h c X (right_fold_plan i v vs) os is) ≡ value h (claim h c X (right_fold_plan j v vs) os is)
  right_fold_given i j v vs os is u =
      ap (value h) (claim_unmet h c X (right_fold_plan i v vs) os is (right_fold_unmet c i v vs u)
      ∙ sym (claim_unmet h c X (right_fold_plan j v vs) os is (right_fold_unmet c j v vs u)))

  -- the bag of peaks, the last of them met, and of others after them, which have one digest
  pub right_fold_values : (i j : ℕ) (t : Tree) (ts after : List Tree) (os is : List D) → LastMet c t ts → Unmet c after
      → root.right_fold h.fold (part_values h c X (map peak (t ∷ ts) ++ bag_all j after) os is) ≡ Some (value h (claim h c X (right_fold_plan i t (ts ++ after)) os is))
  right_fold_values i j t [] [] os is m u = refl
  right_fold_values i j t [] (v ∷ vs) os is m u =
      ap Some (ap (h.fold (value h (claim h c X (peak t) os is))) (right_fold_given j (suc i) v vs _ _ u)
      ∙ sym (value_folding h c X (SuffixFold i) (peak t) (right_fold_plan (suc i) v vs) os is (right_fold_met c i t [] (v ∷ vs) m)))
  right_fold_values i j t (s ∷ ts) after os is m u =
      ap (λ o. option_map_or (λ b. Some (h.fold (value h (claim h c X (peak t) os is)) b)) o (Some (value h (claim h c X (peak t) os is))))
      (right_fold_values (suc i) j s ts after (drop (length (outside_parts c (peak t))) os) (drop (length (path_siblings c (peak t))) is) m u)
      ∙ ap Some (sym (value_folding h c X (SuffixFold i) (peak t) (right_fold_plan (suc i) s (ts ++ after)) os is (right_fold_met c i t (s ∷ ts) after m)))

  -- joined to what stands before them
  join_values : (acc : Plan) (i j : ℕ) (t : Tree) (ts after : List Tree) (os is : List D) → LastMet c t ts → Unmet c after
      → with_right_fold h.fold (value h (claim h c X acc os is))
      (part_values h c X (map peak (t ∷ ts) ++ bag_all j after) (drop (length (outside_parts c acc)) os) (drop (length (path_siblings c acc)) is))
      ≡ value h (claim h c X (with_right_fold_plan acc i (t ∷ ts ++ after)) os is)
  join_values acc i j t ts after os is m u =
      let a = value h (claim h c X acc os is) in
      ap (λ o. option_map_or (h.fold a) o a) (right_fold_values i j t ts after (drop (length (outside_parts c acc)) os) (drop (length (path_siblings c acc)) is) m u)
      ∙ sym (value_folding h c X Join acc (right_fold_plan i t (ts ++ after)) os is (or_right (meets c acc) _ (right_fold_met c i t ts after m)))

  -- where unmet peaks may stand before them
  pub join_reaches : (acc : Plan) (i j : ℕ) (bs : List Tree) (t : Tree) (over after : List Tree) (os is : List D) → Met c (t ∷ over) → Unmet c after
      → with_right_fold h.fold (value h (claim h c X acc os is))
      (part_values h c X (map peak bs ++ (map peak (t ∷ over) ++ bag_all j after)) (drop (length (outside_parts c acc)) os) (drop (length (path_siblings c acc)) is))
      ≡ value h (claim h c X (with_right_fold_plan acc i (bs ++ (t ∷ over ++ after))) os is)
  join_reaches acc i j [] t over after os is m u = join_values acc i j t over after os is (last_met c t over m) u
  join_reaches acc i j (b ∷ bs) t over after os is m u =
      ap (λ ps. with_right_fold h.fold (value h (claim h c X acc os is)) (part_values h c X (peak b ∷ ps) (drop (length (outside_parts c acc)) os) (drop (length (path_siblings c acc)) is)))
      (sym (append_assoc (map peak bs) (map peak (t ∷ over)) (bag_all j after)) ∙ ap (λ z. z ++ bag_all j after) (sym (map-append peak bs (t ∷ over))))
      ∙ join_values acc i j b (bs ++ t ∷ over) after os is (last_append c b bs t over (last_met c t over m)) u
      ∙ ap (λ z. value h (claim h c X (with_right_fold_plan acc i (b ∷ z)) os is)) (append_assoc bs (t ∷ over) after)

  -- and where a met part does
  join_met : (acc : Plan) (i j : ℕ) (over after : List Tree) (os is : List D) → meets c acc ≡ true → Met c over → Unmet c after
      → with_right_fold h.fold (value h (claim h c X acc os is))
      (part_values h c X (map peak over ++ bag_all j after) (drop (length (outside_parts c acc)) os) (drop (length (path_siblings c acc)) is))
      ≡ value h (claim h c X (with_right_fold_plan acc i (over ++ after)) os is)
  join_met acc i j [] [] os is e m u = refl
  join_met acc i j [] (v ∷ vs) os is e m u = ap (h.fold (value h (claim h c X acc os is))) (right_fold_given j i v vs _ _ u)
      ∙ sym (value_folding h c X Join acc (right_fold_plan i v vs) os is (or_left (meets c acc) _ e))
  join_met acc i j (t ∷ over) after os is e m u = join_values acc i j t over after os is (last_met c t over m) u

  -- the first n digests after a met part are folded left to right onto its own, and the others are bagged
  abbrev pub folded_from : ℕ → Plan → List Plan → List D → List D → D
  folded_from n acc ps os is =
      let es = part_values h c X ps (drop (length (outside_parts c acc)) os) (drop (length (path_siblings c acc)) is) in
      with_right_fold h.fold (fold h.fold (value h (claim h c X acc os is)) (take n es)) (drop n es)

  pub folded_more : (n g : ℕ) (acc : Plan) (t : Tree) (ps : List Plan) (os is : List D) → meets c acc || tree_meets c t ≡ true
      → folded_from (suc n) acc (peak t ∷ ps) os is ≡ folded_from n (folding (PrefixFold g) acc (peak t)) ps os is
  folded_more n g acc t ps os is m =
      ap₂ (λ x es. with_right_fold h.fold (fold h.fold x (take n es)) (drop n es)) (sym (value_folding h c X (PrefixFold g) acc (peak t) os is m))
      (sym (values_folding h c X (PrefixFold g) acc (peak t) ps os is m))

  -- as a claim does where n peaks after a met part are folded so; m: how many of those after the range stand alone
  pub join_left_fold : (acc : Plan) (g i j n m : ℕ) (over after : List Tree) (os is : List D) → meets c acc ≡ true → Met c over → Unmet c after → m ≡ n - length over
      → folded_from n acc (map peak over ++ (map peak (take m after) ++ bag_all j (drop m after))) os is
      ≡ value h (claim h c X (with_right_fold_plan (left_fold_plan acc g (take n (over ++ after))) i (drop n (over ++ after))) os is)
  join_left_fold acc g i j zero zero over after os is e w u l = join_met acc i j over after os is e w u
  join_left_fold acc g i j zero (suc m) over after os is e w u l = absurd (omega (arith, l))
  join_left_fold acc g i j (suc n) zero [] after os is e w u l = absurd (omega (arith, l))
  join_left_fold acc g i j (suc n) (suc m) [] [] os is e w u l = refl
  join_left_fold acc g i j (suc n) (suc m) [] (v ∷ vs) os is e w u l =
      folded_more n g acc v (map peak (take m vs) ++ bag_all j (drop m vs)) os is (or_left (meets c acc) (tree_meets c v) e)
      ∙ join_left_fold (folding (PrefixFold g) acc (peak v)) (suc g) i j n m [] vs os is (or_left (meets c acc) (tree_meets c v) e) w u.1 (omega (arith, l))
  join_left_fold acc g i j (suc n) m (t ∷ over) after os is e w u l =
      folded_more n g acc t (map peak over ++ (map peak (take m after) ++ bag_all j (drop m after))) os is (or_left (meets c acc) (tree_meets c t) e)
      ∙ join_left_fold (folding (PrefixFold g) acc (peak t)) (suc g) i j n m over after os is (or_left (meets c acc) (tree_meets c t) e) w.1 u (omega (arith, l))
