-- Lists of three and of four.
use Rattle.std.proofs.Common.{◌≡◌, List, [], ◌∷◌, length, get_or, map, refl, arith}

-- what a function gives on each of three elements, given by their places
pub map_of_three : {A B : Type 0} (f : A → B) (xs : List A) (a b c : A) → length xs ≡ 3 → a ≡ get_or xs 0 a → b ≡ get_or xs 1 b
    → c ≡ get_or xs 2 c → map f xs ≡ f a ∷ f b ∷ f c ∷ []
map_of_three f (x ∷ y ∷ z ∷ []) a b c h ea eb ec = rw (ea, eb, ec) refl
map_of_three f [] a b c h ea eb ec = absurd (omega arith)
map_of_three f (x ∷ []) a b c h ea eb ec = absurd (omega arith)
map_of_three f (x ∷ y ∷ []) a b c h ea eb ec = absurd (omega arith)
map_of_three f (x ∷ y ∷ z ∷ v ∷ xs) a b c h ea eb ec = absurd (omega arith)

-- what it gives on each of four
pub map_of_four : {A B : Type 0} (f : A → B) (xs : List A) (a b c d : A) → length xs ≡ 4 → a ≡ get_or xs 0 a → b ≡ get_or xs 1 b
    → c ≡ get_or xs 2 c → d ≡ get_or xs 3 d → map f xs ≡ f a ∷ f b ∷ f c ∷ f d ∷ []
map_of_four f (w ∷ x ∷ y ∷ z ∷ []) a b c d h ea eb ec ed = rw (ea, eb, ec, ed) refl
map_of_four f [] a b c d h ea eb ec ed = absurd (omega arith)
map_of_four f (w ∷ []) a b c d h ea eb ec ed = absurd (omega arith)
map_of_four f (w ∷ x ∷ []) a b c d h ea eb ec ed = absurd (omega arith)
map_of_four f (w ∷ x ∷ y ∷ []) a b c d h ea eb ec ed = absurd (omega arith)
map_of_four f (w ∷ x ∷ y ∷ z ∷ v ∷ xs) a b c d h ea eb ec ed = absurd (omega arith)
