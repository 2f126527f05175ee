-- A node stands over every stretch of 2 ^ h leaves from a multiple of 2 ^ h on, once the leaf with which it comes is there.
use Rattle.std.proofs.Common.{◌≡◌, ℕ, zero, suc, ◌+◌, ◌*◌, ◌^◌, ◌-◌, ◌<◌, ◌≤◌, List, ◌∷◌, length, Some, slice_get, slice_index, arith, refl, sym, ap, inl, inr, ◌∙◌, pow-suc, pow_pos}
use Rattle.std.proofs.lemmas.List.{length-map}
use Rattle.std.proofs.lemmas.List.FromFn.{get_or-range_with_len, length-range_with_len}
use Rattle.std.proofs.lemmas.Bool.{cases_order}
use Rattle.merkle_base.specs.Tree.{Tree, leaf, height, first_leaf, width}
use Rattle.merkle_base.specs.Forest.{forest, size}
use Rattle.merkle_forest_theory.specs.Mmr.{mmr_merges}
use Rattle.merkle_forest_theory.specs.Mmb.{mmb_merges, mmb_position, birth_leaf}
use Rattle.merkle_base.proofs.Lists.{get_below, get_exists}
use Rattle.merkle_base.proofs.Nodes.{node_stays, leaf_here, size_le, size_inj}
use Rattle.merkle_base.proofs.Balance.{balanced_count, node_balanced}
use Rattle.merkle_base.proofs.Births.{forest_born}
use Rattle.merkle_base.proofs.Lookup.{get_append_add, index_map}
use Rattle.merkle_forest_theory.proofs.MountainRange.{mmr_equal, mmr_parents, mmr_born}
use Rattle.merkle_forest_theory.proofs.MountainBelt.{mmb_equal, mmb_parents, mmb_placed}
use Rattle.merkle_forest_theory.proofs.OddMultiples.{odd_below, odd_no_power}

-- ---- the range
mmr_over : (n s a j : ℕ) → s ≡ a * 2 ^ suc j → s + 2 ^ suc j ≤ n → (p : ℕ) × (t : Tree) × (slice_get (forest mmr_merges n).nodes p ≡ Some t) × (first_leaf t ≡ s) × (height t ≡ suc j)
mmr_over n s a j e l =
    let x : ℕ = s + 2 ^ suc j - 1 in
    let w : 0 < 2 ^ suc j = pow_pos (suc j) in
    let up : x + 1 ≡ s + 2 ^ suc j = omega arith in
    let k = mmr_parents x in
    let b = forest_born mmr_merges (suc x) (mmr_equal (suc x)) x (omega arith) in
    let enough : suc j ≤ k.0 = odd_below k.2.0 (a + 1) (suc j) k.0 (sym k.2.1 ∙ up ∙ omega arith) in
    let count : length b.0 ≡ k.0 = sym (length-map b.0 height) ∙ ap length (b.2 ∙ k.1) ∙ length-range_with_len 1 k.0 in
    let g = get_exists b.0 j (omega (arith, count)) in
    let p : ℕ = size mmr_merges x + suc j in
    let here : slice_get (forest mmr_merges (suc x)).nodes p ≡ Some g.0 = rw b.1 (get_append_add (forest mmr_merges x).nodes (leaf (size mmr_merges x) x ∷ b.0) (suc j) ∙ g.1) in
    let hi : height g.0 ≡ suc j = index_map b.0 j g.0 g.1 ∙ ap (λ (hs : List ℕ). slice_index hs j) (b.2 ∙ k.1) ∙ get_or-range_with_len 1 k.0 j 0 (omega arith) ∙ omega arith in
    let m = mmr_born (suc x) p g.0 here in
    let c : width g.0 ≡ 2 ^ suc j = balanced_count g.0 (node_balanced mmr_merges (suc x) (mmr_equal (suc x)) (suc x) p g.0 (omega arith) here) ∙ ap (λ (y : ℕ). 2 ^ y) hi in
    let end : first_leaf g.0 + width g.0 ≡ suc x = ends (first_leaf g.0 + width g.0) x p (omega arith) (get_below (forest mmr_merges (suc x)).nodes p g.0 here) m.present m.absent in
    (p, g.0, node_stays mmr_merges (suc x) n p g.0 (omega arith) here, omega arith, hi)
  where
    ends : (b x p : ℕ) → size mmr_merges x ≤ p → p < size mmr_merges (suc x) → p < size mmr_merges b → ((c : ℕ) → c < b → size mmr_merges c ≤ p) → b ≡ suc x
    ends b x p low high present absent = elim (cases_order b (suc x)) [
      | inl e ↦ e
      | inr g ↦ elim g [ inl l ↦ absurd (omega (arith, size_le mmr_merges b x (omega arith))) | inr h ↦ absurd (omega (arith, absent (suc x) h)) ]
    ]

pub mmr_exists : (n s a h : ℕ) → s ≡ a * 2 ^ h → s + 2 ^ h ≤ n → (p : ℕ) × (t : Tree) × (slice_get (forest mmr_merges n).nodes p ≡ Some t) × (first_leaf t ≡ s) × (height t ≡ h)
mmr_exists n s a zero e l = (size mmr_merges s, leaf (size mmr_merges s) s, leaf_here mmr_merges s n (omega arith), refl, refl)
mmr_exists n s a (suc j) e l = mmr_over n s a j e l

-- ---- the belt
mmb_over : (n s a j : ℕ) → s ≡ a * 2 ^ suc j → birth_leaf s (suc j) < n → (p : ℕ) × (t : Tree) × (slice_get (forest mmb_merges n).nodes p ≡ Some t) × (first_leaf t ≡ s) × (height t ≡ suc j)
mmb_over n s a j e l =
    let x : ℕ = s + 3 * 2 ^ j - 2 in
    let w : 0 < 2 ^ j = pow_pos j in
    let two : 2 ^ suc j ≡ 2 ^ j * 2 = pow-suc 2 j in
    let twice : s ≡ a * (2 ^ j * 2) = e ∙ ap (λ (y : ℕ). a * y) two in
    let odd : x + 2 ≡ (2 * (a + 1) + 1) * 2 ^ j = omega arith in
    let b = forest_born mmb_merges (suc x) (mmb_equal (suc x)) x (omega arith) in
    elim (mmb_parents x) [
      | inl h ↦ absurd (odd_no_power (a + 1) j h.1.0 (omega arith) (sym odd ∙ h.1.1))
      | inr h ↦
          (let ends : (2 * h.2.0 + 1) * 2 ^ h.0 ≡ x + 2 = sym h.2.1 ∙ omega arith in
          let up : j ≤ h.0 = odd_below h.2.0 (2 * (a + 1) + 1) j h.0 (ends ∙ odd) in
          let down : h.0 ≤ j = odd_below (a + 1) (2 * h.2.0 + 1) h.0 j (sym odd ∙ sym ends) in
          let same : h.0 ≡ j = omega arith in
          let count : length b.0 ≡ 1 = sym (length-map b.0 height) ∙ ap length (b.2 ∙ h.1) in
          let g = get_exists b.0 0 (omega (arith, count)) in
          let p : ℕ = size mmb_merges x + 1 in
          let here : slice_get (forest mmb_merges (suc x)).nodes p ≡ Some g.0 = rw b.1 (get_append_add (forest mmb_merges x).nodes (leaf (size mmb_merges x) x ∷ b.0) 1 ∙ g.1) in
          let hi : height g.0 ≡ suc j = index_map b.0 0 g.0 g.1 ∙ ap (λ (hs : List ℕ). slice_index hs 0) (b.2 ∙ h.1) ∙ ap suc same in
          let m = mmb_placed (suc x) p g.0 here in
          let root : size mmb_merges x + 1 ≡ size mmb_merges (first_leaf g.0 + 3 * 2 ^ j - 2) + 1 = m.position ∙ ap (mmb_position (first_leaf g.0)) hi in
          let at : x ≡ first_leaf g.0 + 3 * 2 ^ j - 2 = size_inj mmb_merges x (first_leaf g.0 + 3 * 2 ^ j - 2) (omega (arith, root)) in
          (p, g.0, node_stays mmb_merges (suc x) n p g.0 l here, omega arith, hi))
    ]

pub mmb_exists : (n s a h : ℕ) → s ≡ a * 2 ^ h → birth_leaf s h < n → (p : ℕ) × (t : Tree) × (slice_get (forest mmb_merges n).nodes p ≡ Some t) × (first_leaf t ≡ s) × (height t ≡ h)
mmb_exists n s a zero e l = (size mmb_merges s, leaf (size mmb_merges s) s, leaf_here mmb_merges s n l, refl, refl)
mmb_exists n s a (suc j) e l = mmb_over n s a j e l
