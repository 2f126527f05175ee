-- Rising lists of numbers: two with the same elements are one list.
use Rattle.std.proofs.Common.{◌≡◌, ℕ, zero, suc, Bool, true, false, ◌≤◌, ◌<◌, List, [], ◌∷◌, refl, ap₂, sym, subst, ◌∙◌, arith, filter, nat_eq}
use Rattle.std.specs.List.{Contains, dedup, range_with_len}
use Rattle.std.specs.List.Sorted.{IsStrictlyIncreasing, IsSorted, IsPermutation}
use Rattle.std.specs.Ordering.{nat_cmp}
use Rattle.std.specs.Cmp.{nat_eq_equiv}
use Rattle.std.proofs.lemmas.Bool.{eqb-true, false≢true}
use Rattle.std.proofs.lemmas.List.Elements.{All-contains, All-contains_itself, All-filter}
use Rattle.std.proofs.lemmas.List.FromFn.{length-range_with_len, get_or-range_with_len}
use Rattle.std.proofs.lemmas.List.Kept.{AllPairs-filter, AllPairs-from_increasing, Contains-dedup_nat, Contains-from_dedup}
use Rattle.std.proofs.lemmas.List.Sorted.{Contains-permutation, IsPermutation-sym}
use Rattle.std.proofs.lemmas.Map.Keys.{IsStrictlyIncreasing-dedup}
use Rattle.std.proofs.lemmas.Map.Views.{Contains-from_any, any-filter_same, list_any-from_Contains}
use Rattle.merkle_scattered.specs.Positions.{IsAscendingOf}
use Rattle.merkle_scattered.proofs.Rises.{Rises, rises_tail}
use Rattle.merkle_base.proofs.Cases.{by_test}

head_below : (x : ℕ) (xs : List ℕ) (p : ℕ) → Rises (x ∷ xs) → Contains xs p → x < p
head_below x xs p h m = subst (λ (z : ℕ). x < z) m.2 (h 0 (suc m.0) p (omega arith) (omega (arith, m.1)))

head_least : (x : ℕ) (xs : List ℕ) (p : ℕ) → Rises (x ∷ xs) → Contains (x ∷ xs) p → x ≤ p
head_least x xs p h (zero, l, e) = omega (arith, e)
head_least x xs p h (suc k, l, e) = omega (arith, head_below x xs p h (k, omega (arith, l), e))

contains_head : (x : ℕ) (xs : List ℕ) → Contains (x ∷ xs) x
contains_head x xs = (0, omega arith, refl)

contains_later : (x : ℕ) (xs : List ℕ) (p : ℕ) → Contains xs p → Contains (x ∷ xs) p
contains_later x xs p m = (suc m.0, omega (arith, m.1), m.2)

contained_later : (x : ℕ) (xs : List ℕ) (p : ℕ) → x < p → Contains (x ∷ xs) p → Contains xs p
contained_later x xs p l (zero, i, e) = absurd (omega (arith, l, e))
contained_later x xs p l (suc k, i, e) = (k, omega (arith, i), e)

pub rises_same : (xs ys : List ℕ) → Rises xs → Rises ys → ((p : ℕ) → Contains xs p → Contains ys p) → ((p : ℕ) → Contains ys p → Contains xs p) → xs ≡ ys
rises_same [] [] u v f g = refl
rises_same [] (y ∷ ys) u v f g = absurd (omega (arith, (g y (contains_head y ys)).1))
rises_same (x ∷ xs) [] u v f g = absurd (omega (arith, (f x (contains_head x xs)).1))
rises_same (x ∷ xs) (y ∷ ys) u v f g =
    let e : x ≡ y = omega (arith, head_least y ys x v (f x (contains_head x xs)), head_least x xs y u (g y (contains_head y ys))) in
    ap₂ (λ p ps. p ∷ ps) e (rises_same xs ys (rises_tail x xs u) (rises_tail y ys v)
    (λ p m. contained_later y ys p (omega (arith, e, head_below x xs p u m)) (f p (contains_later x xs p m)))
    (λ p m. contained_later x xs p (omega (arith, e, head_below y ys p v m)) (g p (contains_later y ys p m))))

-- ---- filters of the numbers below another
contains_filter : (t : ℕ → Bool) (xs : List ℕ) (p : ℕ) → Contains xs p → t p ≡ true → Contains (filter t xs) p
contains_filter t xs p m e = Contains-from_any eqb-true p (filter t xs)
    (any-filter_same (nat_eq p) t true (λ k q. subst (λ z. t z ≡ true) (eqb-true p k q) e) xs ∙ list_any-from_Contains nat_eq_equiv p xs m)

filter_contained : (t : ℕ → Bool) (xs : List ℕ) (p : ℕ) → Contains (filter t xs) p → Contains xs p
filter_contained t xs p m = All-contains (Contains xs) (filter t xs) p (All-filter t (Contains xs) xs (All-contains_itself xs)) m

filter_passes : (t : ℕ → Bool) (xs : List ℕ) (p : ℕ) → Contains (filter t xs) p → t p ≡ true
filter_passes t xs p m = by_test (λ b. t p ≡ b → b ≡ true) (t p) (λ _ _. refl)
    (λ _ e. absurd (false≢true (sym (any-filter_same (nat_eq p) t false (λ k q. subst (λ z. t z ≡ false) (eqb-true p k q) e) xs) ∙ list_any-from_Contains nat_eq_equiv p (filter t xs) m))) refl

contains_range : (m p : ℕ) → p < m → Contains (range_with_len 0 m) p
contains_range m p l = (p, omega (arith, l, length-range_with_len 0 m), omega (arith, get_or-range_with_len 0 m p p l))

range_contained : (m p : ℕ) → Contains (range_with_len 0 m) p → p < m
range_contained m p (k, l, e) =
    let within : k < m = omega (arith, l, length-range_with_len 0 m) in
    omega (arith, within, e, get_or-range_with_len 0 m k p within)

rises_range : (m : ℕ) → Rises (range_with_len 0 m)
rises_range m i j d l within =
    let inside : j < m = omega (arith, within, length-range_with_len 0 m) in
    omega (arith, l, get_or-range_with_len 0 m i d (omega (arith, l, inside)), get_or-range_with_len 0 m j d inside)

-- a rising list is the filter that has its elements
pub rises_filter : (t : ℕ → Bool) (m : ℕ) (xs : List ℕ) → IsStrictlyIncreasing xs → ((p : ℕ) → Contains xs p → (p < m) × (t p ≡ true))
    → ((p : ℕ) → t p ≡ true → Contains xs p) → xs ≡ filter t (range_with_len 0 m)
rises_filter t m xs h f g = rises_same xs (filter t (range_with_len 0 m)) (AllPairs-from_increasing xs h) (AllPairs-filter (λ x y. x < y) t (range_with_len 0 m) (rises_range m))
    (λ p w. contains_filter t (range_with_len 0 m) p (contains_range m p (f p w).0) (f p w).1)
    (λ p w. g p (filter_passes t (range_with_len 0 m) p w))

-- what a sort and a removal of repetitions leave of a list
pub sorted_once : (xs ys zs : List ℕ) → IsPermutation xs ys → IsSorted nat_cmp ys → zs ≡ dedup nat_eq ys → IsAscendingOf xs zs
sorted_once xs ys zs moved sorted is = record {
  rises = subst IsStrictlyIncreasing (sym is) (IsStrictlyIncreasing-dedup ys sorted);
  keeps = λ p h. subst (λ l. Contains l p) (sym is) (Contains-dedup_nat ys p (Contains-permutation xs ys p moved h));
  adds_none = λ p h. Contains-permutation ys xs p (IsPermutation-sym xs ys moved) (Contains-from_dedup nat_eq ys p (subst (λ l. Contains l p) is h));
}
