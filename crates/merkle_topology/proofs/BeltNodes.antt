-- A node of the Mountain Belt, by the leaf with which it comes.
use Rattle.std.proofs.Common.{◌≡◌, ◌≢◌, Bool, true, false, eqb, ℕ, zero, suc, ◌+◌, ◌*◌, ◌^◌, ◌-◌, ◌%◌, ◌<◌, ◌≤◌, List, [], ◌∷◌, length, Some, slice_get}
use Rattle.std.proofs.Common.{slice_index, arith, refl, sym, ap, inl, inr, ◌∙◌, subst, pow_pos, w64}
use Rattle.std.specs.Int.{trailing_ones, is_power_of_two}
use Rattle.std.specs.Int.RustNames.{count_ones}
use Rattle.std.proofs.lemmas.Bool.{eq-eqb, eqb-true}
use Rattle.merkle_base.specs.Tree.{Tree, leaf, join, position, height, first_leaf}
use Rattle.merkle_base.specs.Forest.{forest, size}
use Rattle.merkle_base.specs.Heights.{parent_heights}
use Rattle.merkle_base.specs.Places.{HasInner, IsHeightAt}
use Rattle.merkle_forest_theory.specs.Mmb.{mmb_merges, birth_leaf, mmb_position}
use Rattle.merkle_base.proofs.Growth.{forest_grown}
use Rattle.merkle_base.proofs.Lists.{get_below}
use Rattle.merkle_base.proofs.Nodes.{node_built, same_position}
use Rattle.merkle_base.proofs.Lookup.{size_suc, height_at}
use Rattle.merkle_base.proofs.Limits.{log_below}
use Rattle.merkle_forest_theory.proofs.Digits.{ends_trailing}
use Rattle.merkle_forest_theory.proofs.MountainBelt.{mmb_equal, mmb_parents, mmb_placed, mmb_children}
use Rattle.merkle_forest_theory.proofs.RangeLawful.{ones_pow}
use Rattle.merkle_forest_theory.proofs.OddMultiples.{odd_ones}
use Rattle.merkle_topology.proofs.LeafCounts.{leaf_only}
use Rattle.merkle_topology.proofs.BeltPeaks.{birth_below}

-- ---- roots
-- a merged node whose birth leaf fits 63 bits has a height of at most 62
pub root_low : (s h : ℕ) → h ≢ 0 → birth_leaf s h < 9223372036854775808 → h - 1 < 62
root_low s zero some l = absurd (some refl)
root_low s (suc k) some l =
    let z : suc k - 1 ≡ k = omega arith in
    let p : 0 < 2 ^ k = pow_pos k in
    log_below (suc k - 1) 62 (2 ^ k) (rw z (omega arith)) (omega arith)

-- ---- children
-- What holds of the children of a merged node of height h at p, where birth is the last leaf count of no more than p nodes.
pub record IsInner (p h birth : ℕ) : Type 0 where
  pub low : h - 1 < 62
  pub three : 3 * 2 ^ (h - 1) % 18446744073709551616 ≡ 3 * 2 ^ (h - 1)
  pub start : 3 * 2 ^ (h - 1) ≤ birth + 2
  pub left_birth : birth_leaf (birth + 2 - 3 * 2 ^ (h - 1)) (h - 1) ≤ 4611686018427387934
  pub right_birth : birth_leaf (birth + 2 - 3 * 2 ^ (h - 1) + 2 ^ (h - 1)) (h - 1) ≤ 4611686018427387934
  pub children : (m : ℕ) (a b : Tree) → slice_get (forest mmb_merges m).nodes p ≡ Some (join p a b)
      → (mmb_position (birth + 2 - 3 * 2 ^ (h - 1)) (h - 1) ≡ position a) × (mmb_position (birth + 2 - 3 * 2 ^ (h - 1) + 2 ^ (h - 1)) (h - 1) ≡ position b)

inner_tree : (p h birth n : ℕ) (t : Tree) → n ≤ 4611686018427387934 → slice_get (forest mmb_merges n).nodes p ≡ Some t → height t ≡ h → 0 < h →
    birth ≤ 4611686018427387934 → size mmb_merges birth ≤ p → p < size mmb_merges (birth + 1) → IsInner p h birth
inner_tree p h birth n (leaf q k) l e d z small low high = absurd (omega arith)
inner_tree p h birth n (join q a b) l e d z small low high =
    let same : q ≡ p = (forest_grown mmb_merges n).placed p (join q a b) e in
    let here : slice_get (forest mmb_merges n).nodes p ≡ Some (join p a b) = e ∙ ap (λ (y : ℕ). Some (join y a b)) same in
    let k = mmb_children n p a b here in
    let up : suc (birth_leaf (first_leaf a) (suc (height a))) ≡ k.x + 1 = omega (arith, k.sum, pow_pos (height a)) in
    let present : p < size mmb_merges (k.x + 1) = subst (λ (y : ℕ). p < size mmb_merges y) up (mmb_placed n p (join p a b) here).present in
    let x : birth ≡ k.x = leaf_only mmb_merges birth k.x p low high (omega (arith, k.at)) present in
    let y : height a ≡ h - 1 = omega (arith, d) in
    let w : 2 ^ height a ≡ 2 ^ (h - 1) = ap (λ (v : ℕ). 2 ^ v) y in
    let first : first_leaf a ≡ birth + 2 - 3 * 2 ^ (h - 1) = omega (arith, k.sum) in
    let left : mmb_position (birth + 2 - 3 * 2 ^ (h - 1)) (h - 1) ≡ position a =
    sym (k.left ∙ ap (λ (v : ℕ). mmb_position v (height a)) first ∙ ap (mmb_position (birth + 2 - 3 * 2 ^ (h - 1))) y) in
    let right : mmb_position (birth + 2 - 3 * 2 ^ (h - 1) + 2 ^ (h - 1)) (h - 1) ≡ position b =
    sym (k.right ∙ ap (λ (v : ℕ). mmb_position v (height a)) (ap (λ (v : ℕ). v + 2 ^ height a) first ∙ ap (λ (v : ℕ). birth + 2 - 3 * 2 ^ (h - 1) + v) w)
    ∙ ap (mmb_position (birth + 2 - 3 * 2 ^ (h - 1) + 2 ^ (h - 1))) y) in
    let built = node_built mmb_merges n p (join p a b) here in
    let below : p < size mmb_merges n = get_below (forest mmb_merges n).nodes p (join p a b) here in
    let bound : 3 * 2 ^ (h - 1) ≤ birth + 2 = omega (arith, k.sum) in
    let low : h - 1 < 62 = log_below (h - 1) 62 (2 ^ (h - 1)) (omega arith) (omega arith) in
    record {
      low = low;
      three = omega arith;
      start = bound;
      left_birth = omega (arith, birth_below (birth + 2 - 3 * 2 ^ (h - 1)) (h - 1) n (omega (arith, left, built.1)));
      right_birth = omega (arith, birth_below (birth + 2 - 3 * 2 ^ (h - 1) + 2 ^ (h - 1)) (h - 1) n (omega (arith, right, built.2)));
      children = λ m u v f. (let r : join p u v ≡ join p a b = same_position mmb_merges m n p (join p u v) (join p a b) f here in
          let ru : u ≡ a = cc in let rv : v ≡ b = cc in
          (left ∙ ap position (sym ru), right ∙ ap position (sym rv)));
    }

pub mmb_inner : (p h birth : ℕ) → HasInner mmb_merges 4611686018427387934 p h → birth ≤ 4611686018427387934 → size mmb_merges birth ≤ p → p < size mmb_merges (birth + 1) → IsInner p h birth
mmb_inner p h birth k small low high = inner_tree p h birth k.0 k.1 k.2 k.3 k.4 k.5 small low high

-- ---- heights
-- no parent, or one
few_parents : (n : ℕ) → length (parent_heights mmb_merges n) ≤ 1
few_parents n = elim (mmb_parents n) [ inl h ↦ rw h.0 (omega arith) | inr h ↦ rw h.1 (omega arith) ]

pub mmb_leaf_height : (n p : ℕ) → size mmb_merges n ≡ p → p < size mmb_merges (n + 1) → IsHeightAt mmb_merges p 0
mmb_leaf_height n p at b w t e =
    let next : n + 1 ≡ suc n = omega arith in
    let none : size mmb_merges n + 0 ≡ p = omega arith in
    let up : size mmb_merges n + 0 < size mmb_merges (suc n) = subst (λ (m : ℕ). size mmb_merges n + 0 < size mmb_merges m) next (omega arith) in
    sym (height_at mmb_merges (suc n) (mmb_equal (suc n)) n 0 w t (omega arith) up (rw (← none) at e))

-- a node after the leaf that it is created with
pub mmb_parent_height : (n p : ℕ) → n ≤ 4611686018427387934 → size mmb_merges n ≤ p → size mmb_merges n ≢ p → p < size mmb_merges (n + 1) → IsHeightAt mmb_merges p (trailing_ones w64 (n + 1) + 1)
mmb_parent_height n p small a other b w t e =
    let next : n + 1 ≡ suc n = omega arith in
    let more : size mmb_merges (suc n) ≡ size mmb_merges n + 1 + length (parent_heights mmb_merges n) = size_suc mmb_merges (suc n) (mmb_equal (suc n)) n (omega arith) in
    let up : p < size mmb_merges (suc n) = subst (λ (m : ℕ). p < size mmb_merges m) next b in
    let at : p ≡ size mmb_merges n + 1 = grind (arith, few_parents n, more, up, a, other) in
    let k = height_at mmb_merges (suc n) (mmb_equal (suc n)) n 1 w t (omega arith) (omega arith) (rw at at e) in
    elim (mmb_parents n) [
      | inl h ↦ absurd (omega (arith, ap length h.0))
      | inr h ↦ sym (k ∙ ap (λ (hs : List ℕ). slice_index (0 ∷ hs) 1) h.1 ∙ omega (arith, ends_trailing h.0 (n + 1) h.2 (omega arith)))
    ]

-- ---- the parent that is created with a leaf
-- there is none exactly where n + 2 is a power of two
pub mmb_parent : (n : ℕ) → n + 2 < 2 ^ 64 → (b : Bool) → b ≡ is_power_of_two (n + 2) →
    (b ≡ true → parent_heights mmb_merges n ≡ []) × (b ≡ false → parent_heights mmb_merges n ≡ (trailing_ones w64 (n + 1) + 1) ∷ [])
mmb_parent n l b e = elim (mmb_parents n) [
  | inl h ↦ (
    λ _. h.0,
    λ f. (let t : eqb (count_ones (n + 2)) 1 ≡ true = eq-eqb (count_ones (n + 2)) 1 (ap count_ones h.1.1 ∙ ones_pow h.1.0) in
        let g : true ≡ false = sym t ∙ sym e ∙ f in
        absurd (cc)),
  )
  | inr h ↦ (
    λ t. (let one : count_ones (n + 2) ≡ 1 = eqb-true (count_ones (n + 2)) 1 (sym e ∙ t) in
        let split : n + 2 ≡ (2 * h.2.0 + 1) * 2 ^ h.0 = omega (arith, h.2.1) in
        absurd (odd_ones h.2.0 h.0 (positive h.2.0 h.0 split (h.3 h.0)) (ap count_ones (sym split) ∙ one))),
    λ _. h.1 ∙ ap (λ (x : ℕ). x ∷ []) (omega (arith, ends_trailing h.0 (n + 1) h.2 (omega arith))),
  )
]
  where
    positive : (m j : ℕ) → n + 2 ≡ (2 * m + 1) * 2 ^ j → n + 2 ≢ 2 ^ j → 0 < m
    positive zero j s other = absurd (other (omega (arith, s)))
    positive (suc m) j s other = omega arith
