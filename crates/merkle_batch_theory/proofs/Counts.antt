-- How many nodes are computed.
use Rattle.std.proofs.Common.{◌≡◌, ℕ, zero, suc, ◌+◌, ◌-◌, ◌<◌, ◌≤◌, List, [], ◌∷◌, length, map, Some, Bool, true, false, cond, slice_get, arith, refl, sym, ap, inl, inr, ◌∙◌}
use Rattle.std.specs.Prelude.{◌||◌, ◌&&◌, ◌==◌, nat_eq}
use Rattle.std.specs.List.{filter, list_any, AllByRecursion, IsDistinct}
use Rattle.std.specs.Cmp.{nat_eq_equiv}
use Rattle.std.proofs.lemmas.List.{length-map}
use Rattle.std.proofs.lemmas.Bool.{eq-eqb, ne_eqb, cases_lt, or_parts}
use Rattle.std.proofs.lemmas.Map.Made.{length-le_from_is_member}
use Rattle.merkle_base.specs.Tree.{Tree, position, height}
use Rattle.merkle_base.specs.Forest.{forest}
use Rattle.merkle_base.proofs.Growth.{forest_grown}
use Rattle.merkle_batch_theory.specs.Needed.{passes, total}
use Rattle.merkle_base.proofs.Cases.{by_test}

all_other : (f : ℕ → Bool) (xs : List ℕ) → list_any f xs ≡ false → AllByRecursion (λ y. f y ≡ false) xs
all_other f [] e = tt
all_other f (x ∷ xs) e = (let k = or_parts (f x) (list_any f xs) e in (k.0, all_other f xs k.1))

module _ (q : Tree → Bool) where
  abbrev positions : List Tree → List ℕ
  positions ts = map position (filter q ts)

  -- the trees stand at n, n + 1, ..
  abbrev Placed : ℕ → List Tree → Type 0
  Placed n ts = (i : ℕ) (t : Tree) → slice_get ts i ≡ Some t → position t ≡ n + i

  placed_rest : (n : ℕ) (t : Tree) (ts : List Tree) → Placed n (t ∷ ts) → Placed (suc n) ts
  placed_rest n t ts h = λ i s e. omega (arith, h (suc i) s e)

  placed_first : (n : ℕ) (t : Tree) (ts : List Tree) → Placed n (t ∷ ts) → position t ≡ n
  placed_first n t ts h = omega (arith, h 0 t refl)

  not_before : (n : ℕ) (ts : List Tree) (p : ℕ) → Placed n ts → p < n → list_any (nat_eq p) (positions ts) ≡ false
  not_before n [] p h l = refl
  not_before n (t ∷ ts) p h l = by_test (λ c. list_any (nat_eq p) (map position (cond c (t ∷ filter q ts) (filter q ts))) ≡ false) (q t)
      (λ c. ap (λ d. d || list_any (nat_eq p) (positions ts)) (ne_eqb p (position t) (λ e. absurd (omega (arith, e, l, placed_first n t ts h))))
      ∙ not_before (suc n) ts p (placed_rest n t ts h) (omega arith))
      (λ c. not_before (suc n) ts p (placed_rest n t ts h) (omega arith))

  member_at : (n : ℕ) (ts : List Tree) (p : ℕ) → Placed n ts → n ≤ p → list_any (nat_eq p) (positions ts) ≡ passes q (slice_get ts (p - n))
  member_at n [] p h l = refl
  member_at n (t ∷ ts) p h l = elim (cases_lt n p) [
    | inl a ↦ (let y : p - n ≡ suc (p - suc n) = omega (arith, a) in
        let r = member_at (suc n) ts p (placed_rest n t ts h) a in
        by_test (λ c. list_any (nat_eq p) (map position (cond c (t ∷ filter q ts) (filter q ts))) ≡ passes q (slice_get ts (p - suc n))) (q t)
        (λ c. ap (λ d. d || list_any (nat_eq p) (positions ts)) (ne_eqb p (position t) (λ e. absurd (omega (arith, e, a, placed_first n t ts h)))) ∙ r)
        (λ c. r)
        ∙ ap (λ i. passes q (slice_get (t ∷ ts) i)) (sym y))
    | inr a ↦ (let y : p - n ≡ 0 = omega (arith, a) in
        by_test (λ c. list_any (nat_eq p) (map position (cond c (t ∷ filter q ts) (filter q ts))) ≡ c) (q t)
        (λ c. ap (λ d. d || list_any (nat_eq p) (positions ts)) (eq-eqb p (position t) (omega (arith, a, l, placed_first n t ts h))))
        (λ c. not_before (suc n) ts p (placed_rest n t ts h) (omega (arith, a)))
        ∙ ap (λ i. passes q (slice_get (t ∷ ts) i)) (sym y))
  ]

  distinct : (n : ℕ) (ts : List Tree) → Placed n ts → IsDistinct nat_eq (positions ts)
  unfolding IsDistinct
  distinct n [] h = tt
  distinct n (t ∷ ts) h = by_test (λ c. IsDistinct nat_eq (map position (cond c (t ∷ filter q ts) (filter q ts)))) (q t)
      (λ c. (
        all_other (nat_eq (position t)) (positions ts)
            (not_before (suc n) ts (position t) (placed_rest n t ts h) (omega (arith, placed_first n t ts h))),
        distinct (suc n) ts (placed_rest n t ts h),
      ))
      (λ c. distinct (suc n) ts (placed_rest n t ts h))

  -- a list without repetition of exactly the positions whose nodes pass is as long as the list of these nodes
  pub listed : (rule : List ℕ → List ℕ) (e : ℕ) (ps : List ℕ) → IsDistinct nat_eq ps
      → ((p : ℕ) → list_any (nat_eq p) ps ≡ passes q (slice_get (forest rule e).nodes p)) → length ps ≡ length (filter q (forest rule e).nodes)
  listed rule e ps d m =
      let ts : List Tree = (forest rule e).nodes in
      let placed : Placed 0 ts = (λ i t g. omega (arith, (forest_grown rule e).placed i t g)) in
      let same : (p : ℕ) → list_any (nat_eq p) ps ≡ list_any (nat_eq p) (positions ts) =
      (λ p. let z : p - 0 ≡ p = omega arith in m p ∙ ap (λ i. passes q (slice_get ts i)) (sym z) ∙ sym (member_at 0 ts p placed (omega arith))) in
      omega (
        arith,
        length-le_from_is_member nat_eq_equiv ps (positions ts) d (λ p g. sym (same p) ∙ g),
        length-le_from_is_member nat_eq_equiv (positions ts) ps (distinct 0 ts placed) (λ p g. same p ∙ g),
        length-map (filter q ts) position,
      )

-- ---- level by level
total_add : (f g : ℕ → ℕ) (k : ℕ) → total (λ i. f i + g i) k ≡ total f k + total g k
total_add f g zero = refl
total_add f g (suc k) = omega (arith, total_add f g k)

total_same : (f g : ℕ → ℕ) (k : ℕ) → ((i : ℕ) → f i ≡ g i) → total f k ≡ total g k
total_same f g zero e = refl
total_same f g (suc k) e = omega (arith, total_same f g k e, e k)

total_none : (x k : ℕ) → k ≤ x → total (λ i. cond (x == i) 1 0) k ≡ 0
total_none x zero l = refl
total_none x (suc k) l = rw (ne_eqb x k (λ e. absurd (omega (arith, e, l)))) (omega (arith, total_none x k (omega arith)))

total_one : (x k : ℕ) → x < k → total (λ i. cond (x == i) 1 0) k ≡ 1
total_one x zero l = absurd (omega arith)
total_one x (suc k) l = elim (cases_lt x k) [
  | inl a ↦ rw (ne_eqb x k (λ e. absurd (omega (arith, e, a)))) (omega (arith, total_one x k a))
  | inr a ↦ rw (eq-eqb x k (omega (arith, a, l))) (omega (arith, total_none x k a))
]

total_zero : (k : ℕ) → total (λ i. 0) k ≡ 0
total_zero zero = refl
total_zero (suc k) = omega (arith, total_zero k)

step_count : (t : Tree) (b : Bool) (ts : List Tree) → length (cond b (t ∷ ts) ts) ≡ cond b 1 0 + length ts
step_count t true ts = omega arith
step_count t false ts = omega arith

pub by_height : (q : Tree → Bool) (k : ℕ) (ts : List Tree) → ((i : ℕ) (t : Tree) → slice_get ts i ≡ Some t → q t ≡ true → height t < k)
    → total (λ h. length (filter (λ t. q t && (height t == h)) ts)) k ≡ length (filter q ts)
by_height q k [] b = total_zero k
by_height q k (t ∷ ts) b =
    total_same (λ h. length (filter (λ s. q s && (height s == h)) (t ∷ ts))) (λ h. cond (q t && (height t == h)) 1 0 + length (filter (λ s. q s && (height s == h)) ts)) k
    (λ h. step_count t (q t && (height t == h)) (filter (λ s. q s && (height s == h)) ts))
    ∙ total_add (λ h. cond (q t && (height t == h)) 1 0) (λ h. length (filter (λ s. q s && (height s == h)) ts)) k
    ∙ (λ i. by_test (λ c. (c ≡ true → height t < k) → total (λ h. cond (c && (height t == h)) 1 0) k ≡ cond c 1 0) (q t)
    (λ e l. total_one (height t) k (l refl)) (λ e l. total_zero k) (b 0 t refl) i + by_height q k ts (λ j s e. b (suc j) s e) i)
    ∙ sym (step_count t (q t) (filter q ts))
