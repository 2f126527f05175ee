-- The nodes and the peaks of the family of pairs.
use Rattle.std.proofs.Common.{◌≡◌, ◌≢◌, ℕ, eqb, cond, ◌/◌, ◌%◌, zero, suc, ◌+◌, ◌-◌, ◌*◌, ◌<◌, ◌≤◌, ◌⊎◌, List, [], ◌∷◌, ◌++◌, map, reverse, length}
use Rattle.std.proofs.Common.{append_assoc, append-nil, length-append, Some, slice_get, arith, refl, sym, ap, inl, inr, ◌∙◌}
use Rattle.std.proofs.lemmas.List.{map-append, reverse-append}
use Rattle.merkle_base.specs.Tree.{Tree, leaf, join, height, position}
use Rattle.merkle_base.specs.Forest.{Forest, forest, size}
use Rattle.merkle_base.proofs.Merges.{append_and_merge}
use Rattle.merkle_base.specs.Heights.{born_heights, parent_heights}
use Rattle.merkle_base.specs.Places.{placed, peaks_of}
use Rattle.merkle_base.proofs.Births.{get_append_cases}
use Rattle.merkle_base.proofs.Nodes.{node_stays}
use Rattle.merkle_fixtures.specs.Pairs.{pairing, pairs_from}
use Rattle.merkle_fixtures.specs.PairsLawful.{halves, ones, heights_paired, heights_single, size_paired, size_single}

-- ---- the forest
-- the node over the leaves 2k and 2k + 1
abbrev pub pair : ℕ → Tree
pair k = join (3 * k + 2) (leaf (3 * k) (2 * k)) (leaf (3 * k + 1) (2 * k + 1))

abbrev pub paired_nodes : ℕ → List Tree
paired_nodes zero = []
paired_nodes (suc k) = paired_nodes k ++ leaf (3 * k) (2 * k) ∷ leaf (3 * k + 1) (2 * k + 1) ∷ pair k ∷ []

abbrev pub paired_peaks : ℕ → List Tree
paired_peaks zero = []
paired_peaks (suc k) = pair k ∷ paired_peaks k

abbrev pub paired : ℕ → Forest
paired k = record { nodes = paired_nodes k; peaks = paired_peaks k }

pub length-paired : (k : ℕ) → length (paired_nodes k) ≡ 3 * k
length-paired zero = omega arith
length-paired (suc k) =
    omega (arith, length-paired k, length-append (paired_nodes k) (leaf (3 * k) (2 * k) ∷ leaf (3 * k + 1) (2 * k + 1) ∷ pair k ∷ []))

-- a leaf after pairs stays single
single : (k : ℕ) → append_and_merge pairing (2 * k) (paired k) ≡ record { nodes = paired_nodes k ++ leaf (3 * k) (2 * k) ∷ []; peaks = leaf (3 * k) (2 * k) ∷ paired_peaks k }
single zero = refl
single (suc k) = rw (length-paired (suc k)) refl

-- and is merged with the next
merge : (k : ℕ) → append_and_merge pairing (2 * k + 1) (record { nodes = paired_nodes k ++ leaf (3 * k) (2 * k) ∷ []; peaks = leaf (3 * k) (2 * k) ∷ paired_peaks k }) ≡ paired (suc k)
merge k =
    let ns : List Tree = paired_nodes k in
    let a : Tree = leaf (3 * k) (2 * k) in
    let b : Tree = leaf (3 * k + 1) (2 * k + 1) in
    let one : length (ns ++ a ∷ []) ≡ 3 * k + 1 = omega (arith, length-append ns (a ∷ []), length-paired k) in
    let two : length ((ns ++ a ∷ []) ++ b ∷ []) ≡ 3 * k + 2 = omega (arith, length-append (ns ++ a ∷ []) (b ∷ []), one) in
    let same : ((ns ++ a ∷ []) ++ b ∷ []) ++ pair k ∷ [] ≡ ns ++ a ∷ b ∷ pair k ∷ [] = append_assoc (ns ++ a ∷ []) (b ∷ []) (pair k ∷ []) ∙ append_assoc ns (a ∷ []) (b ∷ pair k ∷ []) in
    rw (one, two) (ap (λ (xs : List Tree). record { nodes = xs; peaks = paired_peaks (suc k) }) same)

pub forest_paired : (k : ℕ) → forest pairing (2 * k) ≡ paired k
unfolding forest
forest_paired zero = refl
forest_paired (suc k) =
    let e : 2 * suc k ≡ suc (suc (2 * k)) = omega arith in
    let d : suc (2 * k) ≡ 2 * k + 1 = omega arith in
    rw (e, forest_paired k, single k, d) (merge k)

pub forest_single : (k : ℕ) → (forest pairing (2 * k + 1)).peaks ≡ leaf (3 * k) (2 * k) ∷ paired_peaks k
unfolding forest
forest_single k =
    let e : 2 * k + 1 ≡ suc (2 * k) = omega arith in
    rw (e, forest_paired k) (ap (λ (f : Forest). f.peaks) (single k))

-- ---- the nodes
-- a node is one of the three of a pair
abbrev pub IsOfPair : ℕ → Tree → Type 0
IsOfPair p t = (k : ℕ) × (((p ≡ 3 * k) × (height t ≡ 0)) ⊎ (((p ≡ 3 * k + 1) × (height t ≡ 0)) ⊎ ((p ≡ 3 * k + 2) × (t ≡ pair k))))

of_paired : (k p : ℕ) (t : Tree) → slice_get (paired_nodes k) p ≡ Some t → IsOfPair p t
of_paired zero p t e = absurd (cc)
of_paired (suc k) p t e = elim (get_append_cases (paired_nodes k) (leaf (3 * k) (2 * k) ∷ leaf (3 * k + 1) (2 * k + 1) ∷ pair k ∷ []) p t e) [
  | inl h ↦ of_paired k p t h
  | inr h ↦ last k p h.0 t (omega (arith, h.1, length-paired k)) h.2
]
  where
    last : (k p j : ℕ) (t : Tree) → p ≡ 3 * k + j → slice_get (leaf (3 * k) (2 * k) ∷ leaf (3 * k + 1) (2 * k + 1) ∷ pair k ∷ []) j ≡ Some t → IsOfPair p t
    last k p zero t at e = (k, inl (omega arith, (let d : leaf (3 * k) (2 * k) ≡ t = cc in ap height (sym d))))
    last k p (suc zero) t at e = (k, inr (inl (omega arith, (let d : leaf (3 * k + 1) (2 * k + 1) ≡ t = cc in ap height (sym d)))))
    last k p (suc (suc zero)) t at e = (k, inr (inr (omega arith, (let d : pair k ≡ t = cc in sym d))))
    last k p (suc (suc (suc j))) t at e = absurd (cc)

pub of_pair : (n p : ℕ) (t : Tree) → slice_get (forest pairing n).nodes p ≡ Some t → IsOfPair p t
of_pair n p t e =
    let k : slice_get (forest pairing (2 * n)).nodes p ≡ Some t = node_stays pairing n (2 * n) p t (omega arith) e in
    of_paired n p t (rw (forest_paired n) at k)

-- ---- the peaks
pairs_after : (next left : ℕ) → pairs_from next (3 + left) ≡ (next + 2, 1) ∷ pairs_from (next + 3) left
pairs_after next left = (let e : 3 + left ≡ suc (suc (suc left)) = omega arith in rw e refl)

peaks_paired : (k left : ℕ) → map placed (reverse (paired_peaks k)) ++ pairs_from (3 * k) left ≡ pairs_from 0 (3 * k + left)
peaks_paired zero left = (let e : 3 * 0 + left ≡ left = omega arith in let d : 3 * 0 ≡ 0 = omega arith in rw (e, d) refl)
peaks_paired (suc k) left =
    let front : List (ℕ × ℕ) = map placed (reverse (paired_peaks k)) in
    let e : 3 * suc k ≡ 3 * k + 3 = omega arith in
    let d : 3 * k + 3 + left ≡ 3 * k + (3 + left) = omega arith in
    let split : map placed (reverse (paired_peaks (suc k))) ≡ front ++ (3 * k + 2, 1) ∷ [] =
    ap (map placed) (reverse-append (pair k ∷ []) (paired_peaks k)) ∙ map-append placed (reverse (paired_peaks k)) (pair k ∷ []) in
    rw (e, d) (ap (λ (xs : List (ℕ × ℕ)). xs ++ pairs_from (3 * k + 3) left) split ∙ append_assoc front ((3 * k + 2, 1) ∷ []) (pairs_from (3 * k + 3) left)
    ∙ ap (λ (xs : List (ℕ × ℕ)). front ++ xs) (sym (pairs_after (3 * k) left)) ∙ peaks_paired k (3 + left))

-- the peaks are those of the nodes from 0 on
pub pairs_peaks : (n : ℕ) → map placed (peaks_of pairing n) ≡ pairs_from 0 (size pairing n)
pairs_peaks n = (let h = halves n in elim h.1 [
  | inl e ↦ rw e (even h.0)
  | inr e ↦ rw e (odd h.0)
])
  where
    even : (k : ℕ) → map placed (peaks_of pairing (2 * k)) ≡ pairs_from 0 (size pairing (2 * k))
    even k =
        let e : 3 * k + 0 ≡ 3 * k = omega arith in
        rw (size_paired k) (ap (λ (f : Forest). map placed (reverse f.peaks)) (forest_paired k) ∙ sym (append-nil (map placed (reverse (paired_peaks k)))) ∙ rw e at (peaks_paired k 0))

    odd : (k : ℕ) → map placed (peaks_of pairing (2 * k + 1)) ≡ pairs_from 0 (size pairing (2 * k + 1))
    odd k =
        rw (size_single k) (ap (λ (ts : List Tree). map placed (reverse ts)) (forest_single k) ∙ ap (map placed) (reverse-append (leaf (3 * k) (2 * k) ∷ []) (paired_peaks k))
        ∙ map-append placed (reverse (paired_peaks k)) (leaf (3 * k) (2 * k) ∷ []) ∙ peaks_paired k 1)

pub pairs_leaf : (next left : ℕ) → 0 < left → left < 3 → pairs_from next left ≡ (next, 0) ∷ pairs_from (next + 1) (left - 1)
pairs_leaf next zero a b = absurd (omega arith)
pairs_leaf next (suc zero) a b = refl
pairs_leaf next (suc (suc zero)) a b = refl
pairs_leaf next (suc (suc (suc m))) a b = absurd (omega arith)

pub pairs_pair : (next left : ℕ) → 3 ≤ left → pairs_from next left ≡ (next + 2, 1) ∷ pairs_from (next + 3) (left - 3)
pairs_pair next left a =
    let e : 3 + (left - 3) ≡ left = omega arith in
    ap (pairs_from next) (sym e) ∙ pairs_after next (left - 3)

-- ---- counts
pub pairs_size : (n : ℕ) → size pairing n ≡ n + n / 2
pairs_size n = (let h = halves n in elim h.1 [
  | inl e ↦ rw e (omega (arith, size_paired h.0))
  | inr e ↦ rw e (omega (arith, size_single h.0))
])

-- with the second leaf of a pair comes its parent
pub pairs_parents : (n : ℕ) → parent_heights pairing n ≡ cond (eqb (n % 2) 1) (1 ∷ []) []
pairs_parents n = (let h = halves n in elim h.1 [
  | inl e ↦ rw e (even h.0)
  | inr e ↦ rw e (odd h.0)
])
  where
    below : (k : ℕ) → born_heights (pairing (0 ∷ ones k)) (0 ∷ ones k) ≡ []
    below zero = refl
    below (suc k) = refl

    even : (k : ℕ) → parent_heights pairing (2 * k) ≡ cond (eqb (2 * k % 2) 1) (1 ∷ []) []
    even k =
        let e : 2 * k % 2 ≡ 0 = omega arith in
        rw (heights_paired k, e) (below k)

    odd : (k : ℕ) → parent_heights pairing (2 * k + 1) ≡ cond (eqb ((2 * k + 1) % 2) 1) (1 ∷ []) []
    odd k =
        let e : (2 * k + 1) % 2 ≡ 1 = omega arith in
        rw (heights_single k, e) refl

-- a node at every third position has height 1, and the others height 0
pub pairs_height : (n p : ℕ) (t : Tree) → slice_get (forest pairing n).nodes p ≡ Some t → (p % 3 ≡ 2 → height t ≡ 1) × (p % 3 ≢ 2 → height t ≡ 0)
pairs_height n p t e = (let k = of_pair n p t e in elim k.1 [
  | inl h ↦ (λ d. absurd (omega (arith, h.0)), λ d. h.1)
  | inr o ↦ elim o [
    | inl h ↦ (λ d. absurd (omega (arith, h.0)), λ d. h.1)
    | inr h ↦ (λ d. ap height h.1, λ d. absurd (d (omega (arith, h.0))))
  ]
])

-- a parent stands right after its children
pub pairs_children : (n p : ℕ) (a b : Tree) → slice_get (forest pairing n).nodes p ≡ Some (join p a b) → (position a + 2 ≡ p) × (position b + 1 ≡ p)
pairs_children n p a b e = (let k = of_pair n p (join p a b) e in elim k.1 [
  | inl h ↦ absurd (omega (arith, h.1))
  | inr o ↦ elim o [
    | inl h ↦ absurd (omega (arith, h.1))
    | inr h ↦
        (let l : a ≡ leaf (3 * k.0) (2 * k.0) = cc in
        let r : b ≡ leaf (3 * k.0 + 1) (2 * k.0 + 1) = cc in
        (omega (arith, ap position l, h.0), omega (arith, ap position r, h.0)))
  ]
])

pub pairs_inner : (n p : ℕ) (t : Tree) → slice_get (forest pairing n).nodes p ≡ Some t → 0 < height t → 2 ≤ p
pairs_inner n p t e l = (let k = of_pair n p t e in elim k.1 [
  | inl h ↦ absurd (omega (arith, h.1))
  | inr o ↦ elim o [ inl h ↦ absurd (omega (arith, h.1)) | inr h ↦ omega (arith, h.0) ]
])
