-- What a claim gives for a part of its range, by the groups of peaks.
use Rattle.std.proofs.Common.{◌≡◌, ℕ, zero, suc, Bool, true, false, cond, ◌+◌, ◌-◌, List, [], ◌∷◌, ◌++◌, refl, ap, sym, ◌∙◌, arith, length, map, flat_map, take, drop, append_assoc, append-nil}
use Rattle.std.specs.Option.{option_to_list}
use Rattle.std.proofs.lemmas.Grind.{flat_map-append}
use Rattle.std.proofs.lemmas.List.{map-append, take-append-drop}
use Rattle.merkle_base.specs.Tree.{Tree}
use Rattle.merkle_base.specs.Hashing.{Hashing}
use Rattle.merkle_base.specs.Root as root
use Rattle.merkle_base.specs.declared.family.Bagging.{Bagging}
use Rattle.merkle_base.specs.declared.family.Bagging.TheVariants.{ForwardFold, BackwardFold}
use Rattle.merkle_root_theory.specs.Expression.{value}
use Rattle.merkle_root_theory.specs.Plan.{Plan, peak, meets, tree_meets, siblings}
use Rattle.merkle_root_theory.specs.Claim.{claim}
use Rattle.merkle_root_theory.specs.Outside.{fold_all, bag_all, folded_prefix, single_before, single_after, folded_suffix, Met, Unmet}
use Rattle.merkle_root_theory.specs.Walk.{peak_values}
use Rattle.merkle_store_theory.proofs.Gathered.{gathered, Splits, Gives, gives_both, gives_one, past, gives_given, gives_own, gives_fold, gives_right_fold, meets_within}
use Rattle.merkle_store_theory.proofs.PairReads.{over_given}

-- ---- groups of two lists, one after the other
take-append : (n : ℕ) (xs ys : List Tree) → take n (xs ++ ys) ≡ take n xs ++ take (n - length xs) ys
take-append zero xs ys = let e : 0 ≡ 0 - length xs = omega arith in ap (λ m. take m ys) e
take-append (suc n) [] ys = let e : suc n ≡ suc n - 0 = omega arith in ap (λ m. take m ys) e
take-append (suc n) (x ∷ xs) ys = let e : n - length xs ≡ suc n - suc (length xs) = omega arith in ap (λ z. x ∷ z) (take-append n xs ys ∙ ap (λ m. take n xs ++ take m ys) e)

drop-append : (n : ℕ) (xs ys : List Tree) → drop n (xs ++ ys) ≡ drop n xs ++ drop (n - length xs) ys
drop-append zero xs ys = let e : 0 ≡ 0 - length xs = omega arith in ap (λ m. xs ++ drop m ys) e
drop-append (suc n) [] ys = let e : suc n ≡ suc n - 0 = omega arith in ap (λ m. drop m ys) e
drop-append (suc n) (x ∷ xs) ys = let e : n - length xs ≡ suc n - suc (length xs) = omega arith in drop-append n xs ys ∙ ap (λ m. drop n xs ++ drop m ys) e

pub prefix_split : (bagging : Bagging) (k : ℕ) (xs ys : List Tree) → folded_prefix bagging k (xs ++ ys) ≡ folded_prefix bagging k xs ++ folded_prefix bagging (k - length xs) ys
prefix_split ForwardFold k xs ys = refl
prefix_split BackwardFold k xs ys = take-append k xs ys

pub before_split : (bagging : Bagging) (k : ℕ) (xs ys : List Tree) → single_before bagging k (xs ++ ys) ≡ single_before bagging k xs ++ single_before bagging (k - length xs) ys
before_split ForwardFold k xs ys = refl
before_split BackwardFold k xs ys = drop-append k xs ys

pub after_split : (bagging : Bagging) (k met n : ℕ) (xs ys : List Tree) → n ≡ met + length xs → single_after bagging k met (xs ++ ys) ≡ single_after bagging k met xs ++ single_after bagging k n ys
after_split ForwardFold k met n xs ys e = refl
after_split BackwardFold k met n xs ys e = let f : k - met - length xs ≡ k - n = omega (arith, e) in take-append (k - met) xs ys ∙ ap (λ m. take (k - met) xs ++ take m ys) f

pub suffix_split : (bagging : Bagging) (k met n : ℕ) (xs ys : List Tree) → n ≡ met + length xs → folded_suffix bagging k met (xs ++ ys) ≡ folded_suffix bagging k met xs ++ folded_suffix bagging k n ys
suffix_split ForwardFold k met n xs ys e = refl
suffix_split BackwardFold k met n xs ys e = let f : k - met - length xs ≡ k - n = omega (arith, e) in drop-append (k - met) xs ys ∙ ap (λ m. drop (k - met) xs ++ drop m ys) f

-- the two groups of peaks before a range are all of them; so are those after it
pub before_whole : (bagging : Bagging) (k : ℕ) (xs : List Tree) → folded_prefix bagging k xs ++ single_before bagging k xs ≡ xs
before_whole ForwardFold k xs = append-nil xs
before_whole BackwardFold k xs = take-append-drop k xs

pub after_whole : (bagging : Bagging) (k met : ℕ) (xs : List Tree) → single_after bagging k met xs ++ folded_suffix bagging k met xs ≡ xs
after_whole ForwardFold k met xs = append-nil xs
after_whole BackwardFold k met xs = take-append-drop (k - met) xs

module _ (c : ℕ → Bool) where
  pub unmet_left : (xs ys : List Tree) → Unmet c (xs ++ ys) → Unmet c xs
  unmet_left [] ys u = tt
  unmet_left (x ∷ xs) ys u = (u.0, unmet_left xs ys u.1)

  pub unmet_right : (xs ys : List Tree) → Unmet c (xs ++ ys) → Unmet c ys
  unmet_right [] ys u = u
  unmet_right (x ∷ xs) ys u = unmet_right xs ys u.1

  pub met_left : (xs ys : List Tree) → Met c (xs ++ ys) → Met c xs
  met_left [] ys u = tt
  met_left (x ∷ xs) ys u = (u.0, met_left xs ys u.1)

  pub met_right : (xs ys : List Tree) → Met c (xs ++ ys) → Met c ys
  met_right [] ys u = u
  met_right (x ∷ xs) ys u = met_right xs ys u.1

-- ---- what the parts give
module _ {D : Type 0} (h : Hashing D) (c d : ℕ → Bool) (within : (i : ℕ) → d i ≡ true → c i ≡ true) (X : ℕ → D)
    (sub : Plan → List D → List D → List D) (splits : Splits c d sub) (g : D → List D) (m : Tree → List D → List D)
    (apart : (p : Plan) (os is : List D) → meets d p ≡ false → sub p os is ≡ g (value h (claim h c X p os is)))
    (within_met : (t : Tree) (os is : List D) → tree_meets d t ≡ true → sub (peak t) os is ≡ m t is) where
  gives_over : (ts : List Tree) (os is : List D) → Met d ts → Gives c sub (map peak ts) os is (over_given c m ts is) os (past c ts is)
  gives_over [] os is w = λ qs. refl
  gives_over (t ∷ ts) os is w =
      let is' = drop (length (siblings c t)) is in
      let e = meets_within c d within t w.0 in
      gives_both c sub (peak t ∷ []) (map peak ts) os is (m t is) os is' (over_given c m ts is') os (past c ts is')
      (gives_one c sub (peak t) os is (m t is) os is' (within_met t os is w.0) (ap (λ z. drop (length (cond z [] (peak t ∷ []))) os) e) (ap (λ z. drop (length (cond z (siblings c t) [])) is) e))
      (gives_over ts os is' w.1)

  module _ (us ts vs ws : List Tree) (over : List Tree) (xs zs ys bs : List Tree) (n : ℕ)
      (cu : Unmet c us) (ct : Met c ts) (cv : Unmet c vs) (cw : Met c ws) (cx : Met c xs) (ca : Unmet c zs) (cy : Met c ys) (cb : Unmet c bs)
      (du : Unmet d us) (dt : Unmet d ts) (dv : Unmet d vs) (dw : Unmet d ws) (dover : Met d over) (dx : Unmet d xs) (da : Unmet d zs) (dy : Unmet d (ys ++ bs))
      (e1 e2 e3 e4 rest is : List D) (l1 : length e1 ≡ length (fold_all us)) (l2 : length e2 ≡ length vs) (l3 : length e3 ≡ length zs) (l4 : length e4 ≡ length (bag_all 0 bs)) where
    -- the digests for siblings that are left after each group of peaks
    abbrev is1 : List D
    is1 = past c ts is

    abbrev is2 : List D
    is2 = past c ws is1

    abbrev is3 : List D
    is3 = past c over is2

    abbrev is4 : List D
    is4 = past c xs is3

    -- the digests of the fold and of the bag
    abbrev folds : List D
    folds = option_to_list (root.folded h.fold ForwardFold 0 (e1 ++ peak_values h c X ts is))

    abbrev bags : List D
    bags = option_to_list (root.right_fold h.fold (peak_values h c X ys is4 ++ e4))

    abbrev after : List Plan
    after = map peak (xs ++ zs) ++ bag_all n (ys ++ bs)

    gives_before : Gives c sub (map peak (vs ++ ws)) (e2 ++ (e3 ++ (e4 ++ rest))) is1 (flat_map g (e2 ++ peak_values h c X ws is1)) (e3 ++ (e4 ++ rest)) is2
    gives_before = λ qs.
        ap (λ z. gathered c sub (z ++ qs) (e2 ++ (e3 ++ (e4 ++ rest))) is1) (map-append peak vs ws)
        ∙ gives_both c sub (map peak vs) (map peak ws) (e2 ++ (e3 ++ (e4 ++ rest))) is1 (flat_map g e2) (e3 ++ (e4 ++ rest)) is1 (flat_map g (peak_values h c X ws is1)) (e3 ++ (e4 ++ rest)) is2
        (gives_given h c d X sub g apart vs e2 (e3 ++ (e4 ++ rest)) is1 cv dv l2) (gives_own h c d X sub g apart ws (e3 ++ (e4 ++ rest)) is1 cw dw) qs
        ∙ ap (λ z. z ++ gathered c sub qs (e3 ++ (e4 ++ rest)) is2) (sym (flat_map-append g e2 (peak_values h c X ws is1)))

    gives_after : Gives c sub (map peak (xs ++ zs)) (e3 ++ (e4 ++ rest)) is3 (flat_map g (peak_values h c X xs is3 ++ e3)) (e4 ++ rest) is4
    gives_after = λ qs.
        ap (λ z. gathered c sub (z ++ qs) (e3 ++ (e4 ++ rest)) is3) (map-append peak xs zs)
        ∙ gives_both c sub (map peak xs) (map peak zs) (e3 ++ (e4 ++ rest)) is3 (flat_map g (peak_values h c X xs is3)) (e3 ++ (e4 ++ rest)) is4 (flat_map g e3) (e4 ++ rest) is4
        (gives_own h c d X sub g apart xs (e3 ++ (e4 ++ rest)) is3 cx dx) (gives_given h c d X sub g apart zs e3 (e4 ++ rest) is4 ca da l3) qs
        ∙ ap (λ z. z ++ gathered c sub qs (e4 ++ rest) is4) (sym (flat_map-append g (peak_values h c X xs is3) e3))

    pub gathered_all : gathered c sub ((fold_all (us ++ ts) ++ map peak (vs ++ ws)) ++ (map peak over ++ after)) (e1 ++ (e2 ++ (e3 ++ (e4 ++ rest)))) is
        ≡ flat_map g folds ++ (flat_map g (e2 ++ peak_values h c X ws is1) ++ (over_given c m over is2 ++ (flat_map g (peak_values h c X xs is3 ++ e3) ++ flat_map g bags)))
    gathered_all =
        ap (λ z. gathered c sub z (e1 ++ (e2 ++ (e3 ++ (e4 ++ rest)))) is) (append_assoc (fold_all (us ++ ts)) (map peak (vs ++ ws)) (map peak over ++ after))
        ∙ gives_fold h c d X sub g apart us ts e1 (e2 ++ (e3 ++ (e4 ++ rest))) is cu ct du dt l1 (map peak (vs ++ ws) ++ (map peak over ++ after))
        ∙ ap (λ z. flat_map g folds ++ z) (gives_before (map peak over ++ after)
        ∙ ap (λ z. flat_map g (e2 ++ peak_values h c X ws is1) ++ z) (gives_over over (e3 ++ (e4 ++ rest)) is2 dover after
        ∙ ap (λ z. over_given c m over is2 ++ z) (gives_after (bag_all n (ys ++ bs))
        ∙ ap (λ z. flat_map g (peak_values h c X xs is3 ++ e3) ++ z) (gives_right_fold h c d X sub g apart n ys bs e4 rest is4 cy cb dy l4))))
