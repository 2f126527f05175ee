-- The trees of a Mountain Range, oldest first, are each the highest that the nodes left hold.
use Rattle.std.proofs.Common.{◌≡◌, ◌≢◌, ℕ, zero, suc, ◌+◌, ◌*◌, ◌^◌, ◌-◌, ◌%◌, ◌<◌, ◌≤◌, List, [], ◌∷◌, ◌++◌, map, reverse, append_assoc, append-nil, arith}
use Rattle.std.proofs.Common.{refl, sym, ap, inl, inr, ◌∙◌, pow-suc, pow_pos, pow_mono, subst}
use Rattle.std.proofs.lemmas.Bool.Decides.{leb_tells}
use Rattle.std.proofs.lemmas.List.{map-append, reverse-append}
use Rattle.merkle_base.specs.Tree.{Tree, position, height}
use Rattle.merkle_base.specs.Forest.{forest, size}
use Rattle.merkle_base.specs.Places.{placed, peaks_of}
use Rattle.merkle_base.proofs.Balance.{heights_forest}
use Rattle.merkle_base.proofs.Limits.{log_below}
use Rattle.merkle_forest_theory.specs.Ascending.{AscendsFrom}
use Rattle.merkle_forest_theory.specs.Mmr.{mmr_merges, Stacked}
use Rattle.merkle_topology.specs.Perfect.{tallest, first_trees, trees_from}
use Rattle.merkle_forest_theory.proofs.MountainRange.{mmr_stacked}
use Rattle.merkle_forest_theory.proofs.RangeLawful.{mmr_ascends}

pub tallest_is : (k h nodes : ℕ) → h ≤ k → 2 ^ suc h ≤ nodes + 1 → nodes + 1 < 2 ^ suc (suc h) → tallest k nodes ≡ h
unfolding tallest
tallest_is zero h nodes l low high = omega arith
tallest_is (suc k) h nodes l low high = elim (leb_tells (2 ^ suc (suc k)) (nodes + 1)) [
  | inl e ↦ (let b : suc (suc k) < suc (suc h) = log_below (suc (suc k)) (suc (suc h)) (nodes + 1) e.1 high in rw e.0 (omega arith))
  | inr e ↦ (let b : suc h < suc (suc k) = log_below (suc h) (suc (suc k)) (nodes + 1) low e.1 in rw e.0 (tallest_is k h nodes (omega arith) low high))
]

pub pow_large : (k : ℕ) → k + 1 ≤ 2 ^ k
pow_large zero = omega arith
pow_large (suc k) = omega (arith, pow_large k, pow-suc 2 k)

-- no more trees come than there are nodes
first_same : (j k next left : ℕ) → left ≤ j → left ≤ k → first_trees j next left ≡ first_trees k next left
unfolding first_trees
first_same zero zero next left a b = refl
first_same zero (suc k) next zero a b = refl
first_same zero (suc k) next (suc m) a b = absurd (omega arith)
first_same (suc j) zero next zero a b = refl
first_same (suc j) zero next (suc m) a b = absurd (omega arith)
first_same (suc j) (suc k) next zero a b = refl
first_same (suc j) (suc k) next (suc m) a b =
    let h : ℕ = tallest m (suc m) in
    let one : 2 ≤ 2 ^ suc h = omega (arith, pow-suc 2 h, pow_pos h) in
    let less : suc m + 1 - 2 ^ suc h ≤ m = omega arith in
    ap (λ (xs : List (ℕ × ℕ)). (next + 2 ^ suc h - 2, h) ∷ xs) (first_same j k (next + 2 ^ suc h - 1) (suc m + 1 - 2 ^ suc h) (omega arith) (omega arith))

pub trees_none : (next : ℕ) → trees_from next 0 ≡ []
unfolding first_trees
trees_none next = refl

pub trees_first : (next left h : ℕ) → 2 ^ suc h ≤ left + 1 → left + 1 < 2 ^ suc (suc h) →
    trees_from next left ≡ (next + 2 ^ suc h - 2, h) ∷ trees_from (next + 2 ^ suc h - 1) (left + 1 - 2 ^ suc h)
unfolding first_trees
trees_first next zero h low high = absurd (omega (arith, pow-suc 2 h, pow_pos h))
trees_first next (suc m) h low high =
    let one : 2 ≤ 2 ^ suc h = omega (arith, pow-suc 2 h, pow_pos h) in
    let e : tallest m (suc m) ≡ h = tallest_is m h (suc m) (omega (arith, pow_large (suc h))) low high in
    rw e (ap (λ (xs : List (ℕ × ℕ)). (next + 2 ^ suc h - 2, h) ∷ xs) (first_same m (suc m + 1 - 2 ^ suc h) (next + 2 ^ suc h - 1) (suc m + 1 - 2 ^ suc h) (omega arith) (omega arith)))

pub trees_stacked : (k s m : ℕ) (ts : List Tree) → Stacked s ts → AscendsFrom k (map height ts) → m + 1 < 2 ^ suc k →
    trees_from 0 (s + m) ≡ map placed (reverse ts) ++ trees_from s m
trees_stacked k s m [] st a l = let e : s + m ≡ m = omega (arith, st) in rw (e, st) refl
trees_stacked k s m (t ∷ ts) st a l =
    let h : ℕ = height t in
    let r : ℕ = st.2.0 in
    let up : 2 ^ suc k ≤ 2 ^ suc h = pow_mono {i = suc k} {j = suc h} (omega (arith, a.0)) in
    let two : 2 ^ suc (suc h) ≡ 2 ^ suc h * 2 = pow-suc 2 (suc h) in
    let more : ℕ = m + 2 ^ suc h - 1 in
    let fits : more + 1 < 2 ^ suc (suc h) = omega arith in
    let all : s + m ≡ r + more = omega (arith, st.2.1) in
    let older = trees_stacked (suc h) r more ts st.2.2 a.1 fits in
    let first = trees_first r more h (omega arith) fits in
    let at : r + 2 ^ suc h - 2 ≡ position t = omega (arith, st.0, st.2.1) in
    let next : r + 2 ^ suc h - 1 ≡ s = omega (arith, st.2.1) in
    let left : more + 1 - 2 ^ suc h ≡ m = omega arith in
    let step : trees_from r more ≡ placed t ∷ trees_from s m =
    first ∙ ap (λ (p : ℕ). (p, h) ∷ trees_from (r + 2 ^ suc h - 1) (more + 1 - 2 ^ suc h)) at
    ∙ ap (λ (q : ℕ). placed t ∷ trees_from q (more + 1 - 2 ^ suc h)) next ∙ ap (λ (q : ℕ). placed t ∷ trees_from s q) left in
    let turned : map placed (reverse (t ∷ ts)) ≡ map placed (reverse ts) ++ placed t ∷ [] =
    ap (map placed) (reverse-append (t ∷ []) ts) ∙ map-append placed (reverse ts) (t ∷ []) in
    ap (trees_from 0) all ∙ older ∙ ap (λ (xs : List (ℕ × ℕ)). map placed (reverse ts) ++ xs) step
    ∙ sym (append_assoc (map placed (reverse ts)) (placed t ∷ []) (trees_from s m)) ∙ ap (λ (xs : List (ℕ × ℕ)). xs ++ trees_from s m) (sym turned)

-- the peaks, oldest first
pub trees_forest : (n : ℕ) → trees_from 0 (size mmr_merges n) ≡ map placed (peaks_of mmr_merges n)
trees_forest n =
    let up : AscendsFrom 0 (map height (forest mmr_merges n).peaks) = subst (AscendsFrom 0) (sym (heights_forest mmr_merges n)) (mmr_ascends n) in
    let none : size mmr_merges n ≡ size mmr_merges n + 0 = omega arith in
    ap (trees_from 0) none ∙ trees_stacked 0 (size mmr_merges n) 0 (forest mmr_merges n).peaks (mmr_stacked n) up (omega arith)
    ∙ ap (λ (xs : List (ℕ × ℕ)). map placed (peaks_of mmr_merges n) ++ xs) (trees_none (size mmr_merges n)) ∙ append-nil (map placed (peaks_of mmr_merges n))

-- twice half the power, in 64 bits
abbrev pub doubled : ℕ → ℕ
doubled exponent = 2 * 2 ^ (exponent - 1) % 18446744073709551616

-- What the first tree is like where a power of two is at most the nodes and one more, and its double is not.
pub record IsFirst (next left exponent : ℕ) : Type 0 where
  pub positive : 1 ≤ exponent
  pub nodes : 2 ≤ doubled exponent
  pub fits : doubled exponent ≤ left + 1
  pub first : trees_from next left ≡ (next + (doubled exponent - 1) - 1, exponent - 1) ∷ trees_from (next + (doubled exponent - 1)) (left - (doubled exponent - 1))

pub first_tree : (next left exponent : ℕ) → left ≢ 0 → next + left < 2 ^ 63 → 2 ^ exponent ≤ left + 1 → left + 1 < 2 * 2 ^ exponent → IsFirst next left exponent
first_tree next left zero some small low high = absurd (omega arith)
first_tree next left (suc h) some small low high =
    let p : 2 ^ suc h ≡ 2 ^ h * 2 = pow-suc 2 h in
    let q : 2 ^ suc (suc h) ≡ 2 ^ suc h * 2 = pow-suc 2 (suc h) in
    let big : 0 < 2 ^ h = pow_pos h in
    let z : suc h - 1 ≡ h = omega arith in
    let w : doubled (suc h) ≡ 2 ^ suc h = rw z (omega arith) in
    let a : next + 2 ^ suc h - 2 ≡ next + (doubled (suc h) - 1) - 1 = omega (arith, w) in
    let b : next + 2 ^ suc h - 1 ≡ next + (doubled (suc h) - 1) = omega (arith, w) in
    let c : left + 1 - 2 ^ suc h ≡ left - (doubled (suc h) - 1) = omega (arith, w) in
    record {
      positive = omega arith;
      nodes = omega (arith, w);
      fits = omega (arith, w);
      first = trees_first next left h low (omega arith)
          ∙ ap (λ (x : ℕ). (x, h) ∷ trees_from (next + 2 ^ suc h - 1) (left + 1 - 2 ^ suc h)) a
          ∙ ap (λ (x : ℕ). (next + (doubled (suc h) - 1) - 1, x) ∷ trees_from (next + 2 ^ suc h - 1) (left + 1 - 2 ^ suc h)) (sym z)
          ∙ ap (λ (x : ℕ). (next + (doubled (suc h) - 1) - 1, suc h - 1) ∷ trees_from x (left + 1 - 2 ^ suc h)) b
          ∙ ap (λ (x : ℕ). (next + (doubled (suc h) - 1) - 1, suc h - 1) ∷ trees_from (next + (doubled (suc h) - 1)) x) c;
    }
