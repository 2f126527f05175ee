-- Leaves that are given by ascending locations.
use Rattle.std.proofs.Common.{◌≡◌, ℕ, zero, suc, Bool, true, false, ◌||◌, ◌+◌, ◌<◌, ◌≤◌, nat_eq, List, [], ◌∷◌, length, get_or, inl, inr, refl, ap, ap₂, sym, arith}
use Rattle.std.specs.List.Sorted.{IsStrictlyIncreasing}
use Rattle.std.proofs.lemmas.Bool.{eq-eqb, ne_eqb, or_right, cases_lt}
use Rattle.merkle_base.specs.Tree.{Tree, leaf, join, first_leaf, end_leaf, IsBuilt}
use Rattle.merkle_base.proofs.Nodes.{width_pos}
use Rattle.merkle_root_theory.specs.Plan.{tree_meets}
use Rattle.merkle_forest_theory.specs.Ascending.{AscendsFrom}
use Rattle.merkle_scattered.specs.Searched.{IsFirstFrom}
use Rattle.merkle_scattered.proofs.Rises.{Rises}
use Rattle.merkle_scattered.proofs.ScatteredElements.{met_at}
use Rattle.merkle_scattered.proofs.ToldTable.{rises_weakly}
use Rattle.merkle_walks.specs.Chosen.{is_among}

-- ---- locations that ascend
ascends_at : (a : ℕ) (is : List ℕ) → AscendsFrom a is → (j d : ℕ) → j < length is → a ≤ get_or is j d
ascends_at a [] u j d l = absurd (omega (arith, l))
ascends_at a (i ∷ is) u zero d l = u.0
ascends_at a (i ∷ is) u (suc j) d l = omega (arith, u.0, ascends_at (suc i) is u.1 j d (omega (arith, l)))

ascends_rises : (a : ℕ) (is : List ℕ) → AscendsFrom a is → Rises is
ascends_rises a [] u j k d e l = absurd (omega (arith, l))
ascends_rises a (i ∷ is) u zero zero d e l = absurd (omega (arith, e))
ascends_rises a (i ∷ is) u zero (suc k) d e l = omega (arith, ascends_at (suc i) is u.1 k d (omega (arith, l)))
ascends_rises a (i ∷ is) u (suc j) zero d e l = absurd (omega (arith, e))
ascends_rises a (i ∷ is) u (suc j) (suc k) d e l = ascends_rises (suc i) is u.1 j k d (omega (arith, e)) (omega (arith, l))

pub ascends_strictly : (a : ℕ) (is : List ℕ) → AscendsFrom a is → IsStrictlyIncreasing is
ascends_strictly a is u k l = ascends_rises a is u k (k + 1) 0 (omega arith) l

-- ---- under a node
listed_at : (xs : List ℕ) (i x : ℕ) → i < length xs → get_or xs i 0 ≡ x → is_among xs x ≡ true
listed_at [] i x l e = absurd (omega (arith, l))
listed_at (y ∷ xs) zero x l e = ap (λ b. b || is_among xs x) (eq-eqb x y (sym e))
listed_at (y ∷ xs) (suc i) x l e = or_right (nat_eq x y) (is_among xs x) (listed_at xs i x (omega (arith, l)) e)

unlisted : (xs : List ℕ) (x : ℕ) → ((k : ℕ) → k < length xs → get_or xs k 0 ≡ x → ⊥) → is_among xs x ≡ false
unlisted [] x f = refl
unlisted (y ∷ xs) x f = ap₂ (λ a b. a || b) (ne_eqb x y (λ e. f 0 (omega arith) (sym e))) (unlisted xs x (λ k l. f (suc k) (omega (arith, l))))

unmet : (ns : List Tree) (c : ℕ → Bool) (t : Tree) → IsBuilt ns t → ((i : ℕ) → first_leaf t ≤ i → i < end_leaf t → c i ≡ false) → tree_meets c t ≡ false
unmet ns c (leaf p i) b f = f i (omega arith) (omega arith)
unmet ns c (join p l r) b f =
    ap₂ (λ x y. x || y) (unmet ns c l b.4 (λ i x y. f i x (omega (arith, y, width_pos r))))
    (unmet ns c r b.5 (λ i x y. f i (omega (arith, x, b.3)) (omega (arith, y, b.3))))

module _ (ns : List Tree) (xs : List ℕ) (i : ℕ) (t : Tree) (b : IsBuilt ns t) (first : IsFirstFrom xs (first_leaf t) i) where
  pub some_under : i < length xs → (x : ℕ) → x ≡ get_or xs i 0 → x < end_leaf t → tree_meets (is_among xs) t ≡ true
  some_under l x e low =
      let from : first_leaf t ≤ get_or xs i 0 = first.1 i (omega arith) l in
      met_at ns (is_among xs) x t b (omega (arith, e, from)) low (listed_at xs i x l (sym e))

  none_under : ((k : ℕ) → i ≤ k → k < length xs → end_leaf t ≤ get_or xs k 0) → tree_meets (is_among xs) t ≡ false
  none_under far = unmet ns (is_among xs) t b (λ x from to. unlisted xs x (λ k l e. elim (cases_lt k i) [
    | inl y ↦ (let before : get_or xs k 0 < first_leaf t = first.0 k y in absurd (omega (arith, e, before, from)))
    | inr y ↦ (let after : end_leaf t ≤ get_or xs k 0 = far k y l in absurd (omega (arith, e, after, to)))
  ]))

  pub past_under : length xs ≤ i → tree_meets (is_among xs) t ≡ false
  past_under past = none_under (λ k from l. absurd (omega (arith, past, from, l)))

  pub later_under : IsStrictlyIncreasing xs → i < length xs → (x : ℕ) → x ≡ get_or xs i 0 → end_leaf t ≤ x → tree_meets (is_among xs) t ≡ false
  later_under rises l x e high = none_under (λ k from within. omega (arith, e, high, rises_weakly xs rises i k from within))

-- a test that tells a fact is the other test that tells it
pub same_test : (a b : Bool) → (a ≡ true → b ≡ true) → (a ≡ false → b ≡ false) → a ≡ b
same_test true b f g = sym (f refl)
same_test false b f g = sym (g refl)
