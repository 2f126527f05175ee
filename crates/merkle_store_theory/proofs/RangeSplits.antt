-- The peaks of a range within another.
use Rattle.std.proofs.Common.{◌≡◌, ℕ, Bool, true, false, cond, ◌&&◌, nat_le, nat_lt, ◌≤◌, ◌<◌, List, [], ◌∷◌, ◌++◌, refl, ap, ap₂, sym, ◌∙◌, arith, filter}
use Rattle.std.proofs.Common.{le-leb, le-ltb, leb-true, append_assoc, append-nil}
use Rattle.std.proofs.lemmas.Bool.{lt-leb, and_left, and_right}
use Rattle.std.proofs.lemmas.List.{append_cancel_left, append_cancel_right}
use Rattle.std.proofs.lemmas.List.Elements.{filter-append}
use Rattle.merkle_base.specs.Tree.{Tree, first_leaf, end_leaf}
use Rattle.merkle_base.specs.Places.{wholly_before}
use Rattle.merkle_base.proofs.Cases.{by_test}
use Rattle.merkle_base.proofs.PeakLists.{Spans, filter_yes, filter_no}
use Rattle.merkle_root_theory.specs.Range.{overlapping, wholly_after}
use Rattle.merkle_root_theory.proofs.PeakGroups.{groups}

filter_all : (p q : Tree → Bool) (ts : List Tree) → ((t : Tree) → p t ≡ true → q t ≡ true) → filter q (filter p ts) ≡ filter p ts
filter_all p q [] f = refl
filter_all p q (t ∷ ts) f = by_test (λ b. p t ≡ b → filter q (cond b (t ∷ filter p ts) (filter p ts)) ≡ cond b (t ∷ filter p ts) (filter p ts)) (p t)
    (λ _ e. filter_yes q t (filter p ts) (f t e) ∙ ap (λ z. t ∷ z) (filter_all p q ts f)) (λ _ _. filter_all p q ts f) refl

filter_none : (p q : Tree → Bool) (ts : List Tree) → ((t : Tree) → p t ≡ true → q t ≡ false) → filter q (filter p ts) ≡ []
filter_none p q [] f = refl
filter_none p q (t ∷ ts) f = by_test (λ b. p t ≡ b → filter q (cond b (t ∷ filter p ts) (filter p ts)) ≡ []) (p t)
    (λ _ e. filter_no q t (filter p ts) (f t e) ∙ filter_none p q ts f) (λ _ _. filter_none p q ts f) refl

module _ (x y a b n : ℕ) (ts : List Tree) (low : x ≤ a) (some : a < b) (high : b ≤ y) (spans : Spans 0 n ts) where
  abbrev pub held_before : List Tree
  held_before = wholly_before x ts

  abbrev pub held_over : List Tree
  held_over = overlapping x y ts

  abbrev pub held_after : List Tree
  held_after = wholly_after y ts

  -- of the peaks that overlap x..y those before a..b, those that overlap it, and those after it
  abbrev pub more_before : List Tree
  more_before = wholly_before a held_over

  abbrev pub still_over : List Tree
  still_over = overlapping a b held_over

  abbrev pub more_after : List Tree
  more_after = wholly_after b held_over

  all : ts ≡ held_before ++ (held_over ++ held_after)
  all = groups x y 0 n ts (omega arith) spans

  in_three : (p : Tree → Bool) → filter p ts ≡ filter p held_before ++ (filter p held_over ++ filter p held_after)
  in_three p = ap (filter p) all ∙ filter-append p held_before (held_over ++ held_after) ∙ ap (λ z. filter p held_before ++ z) (filter-append p held_over held_after)

  pub before_more : wholly_before a ts ≡ held_before ++ more_before
  before_more = in_three (λ t. nat_le (end_leaf t) a)
      ∙ ap₂ (λ u v. u ++ (more_before ++ v))
      (filter_all (λ t. nat_le (end_leaf t) x) (λ t. nat_le (end_leaf t) a) ts (λ t e. let l = leb-true (end_leaf t) x e in le-leb (end_leaf t) a (omega (arith, l))))
      (filter_none (λ t. nat_le y (first_leaf t)) (λ t. nat_le (end_leaf t) a) ts (λ t e. let l = leb-true y (first_leaf t) e in lt-leb (end_leaf t) a (omega (arith, l))))
      ∙ ap (λ z. held_before ++ z) (append-nil more_before)

  pub over_more : overlapping a b ts ≡ still_over
  over_more = in_three (λ t. nat_lt (first_leaf t) b && nat_lt a (end_leaf t))
      ∙ ap₂ (λ u v. u ++ (still_over ++ v))
      (filter_none (λ t. nat_le (end_leaf t) x) (λ t. nat_lt (first_leaf t) b && nat_lt a (end_leaf t)) ts
      (λ t e. let l = leb-true (end_leaf t) x e in and_right _ _ (le-ltb a (end_leaf t) (omega (arith, l)))))
      (filter_none (λ t. nat_le y (first_leaf t)) (λ t. nat_lt (first_leaf t) b && nat_lt a (end_leaf t)) ts
      (λ t e. let l = leb-true y (first_leaf t) e in and_left _ _ (le-ltb (first_leaf t) b (omega (arith, l)))))
      ∙ append-nil still_over

  pub after_more : wholly_after b ts ≡ more_after ++ held_after
  after_more = in_three (λ t. nat_le b (first_leaf t))
      ∙ ap₂ (λ u v. u ++ (more_after ++ v))
      (filter_none (λ t. nat_le (end_leaf t) x) (λ t. nat_le b (first_leaf t)) ts (λ t e. let l = leb-true (end_leaf t) x e in lt-leb b (first_leaf t) (omega (arith, l))))
      (filter_all (λ t. nat_le y (first_leaf t)) (λ t. nat_le b (first_leaf t)) ts (λ t e. let l = leb-true y (first_leaf t) e in le-leb b (first_leaf t) (omega (arith, l))))

  pub split_over : held_over ≡ more_before ++ (still_over ++ more_after)
  split_over = append_cancel_right held_over (more_before ++ (still_over ++ more_after)) held_after
      (append_cancel_left held_before (held_over ++ held_after) ((more_before ++ (still_over ++ more_after)) ++ held_after)
      (sym all ∙ groups a b 0 n ts some spans ∙ ap₂ ◌++◌ before_more (ap₂ ◌++◌ over_more after_more)
      ∙ append_assoc held_before more_before (still_over ++ (more_after ++ held_after))
      ∙ ap (λ z. held_before ++ z) (ap (λ z. more_before ++ z) (sym (append_assoc still_over more_after held_after)) ∙ sym (append_assoc more_before (still_over ++ more_after) held_after))))
