-- Digests that are folded in two parts, and the inputs of these folds.
use Rattle.std.proofs.Common.{◌≡◌, ℕ, zero, suc, pred, ◌-◌, min, List, [], ◌∷◌, take, drop, fold, length, refl, ap, ap₂, sym, ◌∙◌, arith, Some, drop_of_length-le}
use Rattle.std.proofs.lemmas.List.{length-drop, take_all}
use Rattle.std.specs.Option.{option_map_or}
use Rattle.merkle_base.specs.Hashing.{Hashing}
use Rattle.merkle_base.specs.declared.family.Bagging.{Bagging}
use Rattle.merkle_base.specs.Root.{folded, right_fold}
use Rattle.merkle_base.specs.declared.family.Bagging.TheVariants.{ForwardFold, BackwardFold}
use Rattle.merkle_root_theory.specs.Expression.{Input}
use Rattle.merkle_audit_theory.specs.Folds.{fold_inputs, left_inputs, right_value, joined_inputs, numbered_inputs}

bag_is : {D : Type 0} (h : Hashing D) (d : D) (ds : List D) → right_fold h.fold (d ∷ ds) ≡ Some (right_value h d ds)
bag_is h d [] = refl
bag_is h d (e ∷ es) = ap (λ o. option_map_or (λ b. Some (h.fold d b)) o (Some d)) (bag_is h e es)

module _ {D : Type 0} (h : Hashing D) (apart : ℕ) (first : D) (others : List D) (count : ℕ) (count_is : count ≡ min (apart - 1) (length others)) where
  -- the digest where the first n of the others are folded left to right
  abbrev folded_at : ℕ → List D → D
  folded_at n later = option_map_or (h.fold (fold h.fold first (take n others))) (right_fold h.fold later) (fold h.fold first (take n others))

  some_left : (next : D) (rest : List D) → drop count others ≡ next ∷ rest → count ≡ apart - 1
  some_left next rest e = omega (arith, count_is, length-drop count others, ap length e)

  none_left : drop count others ≡ [] → count ≡ length others
  none_left e = omega (arith, count_is, length-drop count others, ap length e)

  pub digest_apart : (next : D) (rest : List D) → drop count others ≡ next ∷ rest → (l r : D) → l ≡ fold h.fold first (take count others) → r ≡ right_value h next rest
      → Some (h.fold l r) ≡ folded h.fold BackwardFold apart (first ∷ others)
  digest_apart next rest e l r left right =
      ap₂ (λ x y. Some (h.fold x y)) left right
      ∙ sym (ap (λ n. Some (folded_at n (drop n others))) (sym (some_left next rest e))
      ∙ ap (λ later. Some (folded_at count later)) e
      ∙ ap (λ o. Some (option_map_or (h.fold (fold h.fold first (take count others))) o (fold h.fold first (take count others)))) (bag_is h next rest))

  whole : drop count others ≡ [] → (take (apart - 1) others ≡ take count others) × (drop (apart - 1) others ≡ [])
  whole e =
      let n = none_left e in (
        take_all (apart - 1) others (omega (arith, count_is, n)) ∙ sym (take_all count others (omega (arith, n))),
        drop_of_length-le others (omega (arith, count_is, n)),
      )

  pub digest_whole : drop count others ≡ [] → (l : D) → l ≡ fold h.fold first (take count others) → Some l ≡ folded h.fold BackwardFold apart (first ∷ others)
  digest_whole e l left =
      let w = whole e in
      ap Some left ∙ sym (ap₂ (λ ts later. Some (option_map_or (h.fold (fold h.fold first ts)) (right_fold h.fold later) (fold h.fold first ts))) w.0 w.1)

  module _ (k m : ℕ) where
    abbrev inputs_at : List D → List D → List (Input D)
    inputs_at ts later = joined_inputs h (fold h.fold first ts) (left_inputs h first m ts) (suc (pred k)) later

    pub inputs_whole : drop count others ≡ [] → numbered_inputs h BackwardFold k apart m (first ∷ others) ≡ left_inputs h first m (take count others)
    inputs_whole e = let w = whole e in ap₂ (λ ts later. inputs_at ts later) w.0 w.1

    pub inputs_apart : (next : D) (rest : List D) → drop count others ≡ next ∷ rest → numbered_inputs h BackwardFold k apart m (first ∷ others) ≡ inputs_at (take count others) (next ∷ rest)
    inputs_apart next rest e = ap (λ n. inputs_at (take n others) (drop n others)) (sym (some_left next rest e)) ∙ ap (inputs_at (take count others)) e

-- ---- where the first digest stands for one peak
pred_is : (k : ℕ) → k - 1 ≡ pred k
pred_is zero = refl
pred_is (suc k) = omega arith

pub numbered_whole : {D : Type 0} (h : Hashing D) (bagging : Bagging) (k : ℕ) (ds : List D) → numbered_inputs h bagging k k 1 ds ≡ fold_inputs h bagging k ds
numbered_whole h ForwardFold k [] = refl
numbered_whole h BackwardFold k [] = refl
numbered_whole h ForwardFold k (d ∷ ds) = refl
numbered_whole h BackwardFold k (d ∷ ds) =
    ap (λ j. joined_inputs h (fold h.fold d (take j ds)) (left_inputs h d 1 (take j ds)) (suc (pred k)) (drop j ds)) (pred_is k)
