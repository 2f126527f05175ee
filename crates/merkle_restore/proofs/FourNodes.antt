-- Four nodes that are hashed together.
use Rattle.std.proofs.Common.{◌≡◌, ℕ, List, [], ◌∷◌, Bool, true, false, Option, Some, None, map, get_or, refl, sym, ap, ap₂, ◌∙◌}
use Rattle.merkle_base.specs.Hashing.{Hashing}
use Rattle.merkle_restore.specs.HeldParents.{is_other, first_wrong}
use Rattle.merkle_restore.proofs.FirstWrong.{is_wrong, not_wrong}

-- the list is of four elements, with these values
pub record AreFour {A B : Type 0} (f : A → B) (xs : List A) (a b c d : B) : Type 0 where
  pub first : A
  pub second : A
  pub third : A
  pub fourth : A
  pub listed : xs ≡ first ∷ second ∷ third ∷ fourth ∷ []
  pub value_first : f first ≡ a
  pub value_second : f second ≡ b
  pub value_third : f third ≡ c
  pub value_fourth : f fourth ≡ d

pub four : {A B : Type 0} (f : A → B) (xs : List A) (a b c d : B) → map f xs ≡ a ∷ b ∷ c ∷ d ∷ [] → AreFour f xs a b c d
four f [] a b c d e = absurd (cc)
four f (x ∷ []) a b c d e = absurd (cc)
four f (x ∷ y ∷ []) a b c d e = absurd (cc)
four f (x ∷ y ∷ z ∷ []) a b c d e = absurd (cc)
four f (x ∷ y ∷ z ∷ u ∷ []) a b c d e = record { first = x; second = y; third = z; fourth = u; listed = refl; value_first = cc; value_second = cc; value_third = cc; value_fourth = cc }
four f (x ∷ y ∷ z ∷ u ∷ v ∷ xs) a b c d e = absurd (cc)

module _ {D : Type 0} (h : Hashing D) (node : ℕ → Option D) (xs : List (ℕ × D × D)) (a b c d : D) (hashed : map (λ n. h.node n.0 n.1 n.2) xs ≡ a ∷ b ∷ c ∷ d ∷ []) where
  abbrev pub f : ℕ × D × D → D
  f n = h.node n.0 n.1 n.2

  abbrev pub k : AreFour f xs a b c d
  k = four f xs a b c d hashed

  -- a test of one of them
  tested : (x e : ℕ × D × D) (digest : D) (t : Bool) → x ≡ e → f e ≡ digest → is_other h.same (node x.0) digest ≡ t → is_other h.same (node e.0) (h.node e.0 e.1 e.2) ≡ t
  tested x e digest t same value test = ap₂ (λ y z. is_other h.same (node y.0) z) (sym same) value ∙ test

  module _ (x : ℕ × D × D) (x-is : x ≡ get_or xs 0 x) where
    same_first : x ≡ k.first
    same_first = x-is ∙ ap (λ ys. get_or ys 0 x) k.listed

    pub first_found : is_other h.same (node x.0) a ≡ true → first_wrong h node xs ≡ Some x.0
    first_found t = ap (first_wrong h node) k.listed
        ∙ is_wrong h node k.first (k.second ∷ k.third ∷ k.fourth ∷ []) (tested x k.first a true same_first k.value_first t) ∙ ap (λ e. Some e.0) (sym same_first)

    pub first_passed : is_other h.same (node x.0) a ≡ false → first_wrong h node xs ≡ first_wrong h node (k.second ∷ k.third ∷ k.fourth ∷ [])
    first_passed t = ap (first_wrong h node) k.listed ∙ not_wrong h node k.first (k.second ∷ k.third ∷ k.fourth ∷ []) (tested x k.first a false same_first k.value_first t)

  module _ (x : ℕ × D × D) (x-is : x ≡ get_or xs 1 x) where
    same_second : x ≡ k.second
    same_second = x-is ∙ ap (λ ys. get_or ys 1 x) k.listed

    pub second_found : is_other h.same (node x.0) b ≡ true → first_wrong h node (k.second ∷ k.third ∷ k.fourth ∷ []) ≡ Some x.0
    second_found t = is_wrong h node k.second (k.third ∷ k.fourth ∷ []) (tested x k.second b true same_second k.value_second t) ∙ ap (λ e. Some e.0) (sym same_second)

    pub second_passed : is_other h.same (node x.0) b ≡ false → first_wrong h node (k.second ∷ k.third ∷ k.fourth ∷ []) ≡ first_wrong h node (k.third ∷ k.fourth ∷ [])
    second_passed t = not_wrong h node k.second (k.third ∷ k.fourth ∷ []) (tested x k.second b false same_second k.value_second t)

  module _ (x : ℕ × D × D) (x-is : x ≡ get_or xs 2 x) where
    same_third : x ≡ k.third
    same_third = x-is ∙ ap (λ ys. get_or ys 2 x) k.listed

    pub third_found : is_other h.same (node x.0) c ≡ true → first_wrong h node (k.third ∷ k.fourth ∷ []) ≡ Some x.0
    third_found t = is_wrong h node k.third (k.fourth ∷ []) (tested x k.third c true same_third k.value_third t) ∙ ap (λ e. Some e.0) (sym same_third)

    pub third_passed : is_other h.same (node x.0) c ≡ false → first_wrong h node (k.third ∷ k.fourth ∷ []) ≡ first_wrong h node (k.fourth ∷ [])
    third_passed t = not_wrong h node k.third (k.fourth ∷ []) (tested x k.third c false same_third k.value_third t)

  module _ (x : ℕ × D × D) (x-is : x ≡ get_or xs 3 x) where
    pub same_fourth : x ≡ k.fourth
    same_fourth = x-is ∙ ap (λ ys. get_or ys 3 x) k.listed

    pub fourth_found : is_other h.same (node x.0) d ≡ true → first_wrong h node (k.fourth ∷ []) ≡ Some x.0
    fourth_found t = is_wrong h node k.fourth [] (tested x k.fourth d true same_fourth k.value_fourth t) ∙ ap (λ e. Some e.0) (sym same_fourth)

    pub fourth_passed : is_other h.same (node x.0) d ≡ false → first_wrong h node (k.fourth ∷ []) ≡ None
    fourth_passed t = not_wrong h node k.fourth [] (tested x k.fourth d false same_fourth k.value_fourth t)
