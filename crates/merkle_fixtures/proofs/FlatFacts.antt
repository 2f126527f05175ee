-- The nodes and the peaks of the family that never merges.
use Rattle.std.proofs.Common.{◌≡◌, ℕ, zero, suc, ◌+◌, ◌-◌, ◌<◌, List, [], ◌∷◌, ◌++◌, map, reverse, Some, slice_get, arith, refl, ap, inl, inr, ◌∙◌}
use Rattle.std.proofs.lemmas.List.{map-append, reverse-append}
use Rattle.merkle_base.specs.Tree.{Tree, leaf, height}
use Rattle.merkle_base.specs.Forest.{forest, size}
use Rattle.merkle_base.specs.Places.{placed, peaks_of}
use Rattle.merkle_base.proofs.Births.{get_append_cases, all_get}
use Rattle.merkle_fixtures.specs.Flat.{never, leaves_from}
use Rattle.merkle_fixtures.specs.FlatLawful.{flat_size}

-- every node is a leaf
pub flat_height : (n p : ℕ) (t : Tree) → slice_get (forest never n).nodes p ≡ Some t → height t ≡ 0
unfolding forest
flat_height zero p t e = absurd (cc)
flat_height (suc n) p t e = elim (get_append_cases (forest never n).nodes (leaf (size never n) n ∷ []) p t e) [
  | inl h ↦ flat_height n p t h
  | inr h ↦ all_get (λ (s : Tree). height s ≡ 0) (leaf (size never n) n ∷ []) h.0 t (refl, tt) h.2
]

pub leaves_last : (next count : ℕ) → leaves_from next count ++ (next + count, 0) ∷ [] ≡ leaves_from next (suc count)
leaves_last next zero = (let e : next + 0 ≡ next = omega arith in rw e refl)
leaves_last next (suc k) =
    let e : next + suc k ≡ next + 1 + k = omega arith in
    rw e (ap (λ (xs : List (ℕ × ℕ)). (next, 0) ∷ xs) (leaves_last (next + 1) k))

-- the peaks are the leaves
pub flat_peaks : (n : ℕ) → map placed (peaks_of never n) ≡ leaves_from 0 n
unfolding forest
flat_peaks zero = refl
flat_peaks (suc n) =
    let t : Tree = leaf (size never n) n in
    let here : size never n ≡ 0 + n = omega (arith, flat_size n) in
    ap (map placed) (reverse-append (t ∷ []) (forest never n).peaks) ∙ map-append placed (reverse (forest never n).peaks) (t ∷ [])
    ∙ rw (flat_peaks n, here) (leaves_last 0 n)

pub leaves_next : (next count : ℕ) → 0 < count → leaves_from next count ≡ (next, 0) ∷ leaves_from (next + 1) (count - 1)
leaves_next next zero h = absurd (omega arith)
leaves_next next (suc k) h = let e : suc k - 1 ≡ k = omega arith in rw e refl
