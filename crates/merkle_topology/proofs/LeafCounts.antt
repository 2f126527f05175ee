-- The one leaf count at a position, and the heights that stand above it.
use Rattle.std.proofs.Common.{◌≡◌, ℕ, suc, ◌+◌, ◌-◌, ◌/◌, min, ◌<◌, ◌≤◌, List, ◌∷◌, length, slice_index, arith, refl, sym, ap, inl, inr, ◌∙◌, subst, eqb, true}
use Rattle.std.proofs.Math.Nat.{min-eq_left, min-eq_right}
use Rattle.std.proofs.lemmas.Bool.{eqb-true, eq-eqb, cases_lt, cases_order}
use Rattle.std.proofs.lemmas.List.FromFn.{get_or-range_with_len, length-range_with_len}
use Rattle.merkle_base.specs.Forest.{size}
use Rattle.merkle_base.specs.Heights.{parent_heights, IsLawful}
use Rattle.merkle_base.specs.Places.{IsSize, IsNearestSize, IsHeightAt}
use Rattle.merkle_base.proofs.Births.{size_peaks}
use Rattle.merkle_base.proofs.Nodes.{size_step, size_le, size_lt}
use Rattle.merkle_base.proofs.Lookup.{size_suc, height_at}
use Rattle.merkle_base.proofs.Limits.{log_below}
use Rattle.merkle_forest_theory.specs.Mmr.{mmr_merges}
use Rattle.merkle_forest_theory.proofs.RangeLawful.{mmr_lawful}
use Rattle.merkle_forest_theory.proofs.MountainRange.{mmr_equal, mmr_parents}

-- a size from one leaf count's up to the next one's is that leaf count's
pub size_only : (rule : List ℕ → List ℕ) (low n p : ℕ) → size rule low ≤ p → p < size rule (low + 1) → size rule n ≡ p → n ≡ low
size_only rule low n p a b e = elim (cases_order n low) [
  | inl d ↦ d
  | inr h ↦ elim h [ inl l ↦ absurd (omega (arith, size_lt rule n low l)) | inr g ↦ absurd (omega (arith, size_le rule (low + 1) n (omega arith))) ]
]

-- a position between the same two sizes came with the same leaf
pub leaf_only : (rule : List ℕ → List ℕ) (low n p : ℕ) → size rule low ≤ p → p < size rule (low + 1) → size rule n ≤ p → p < size rule (n + 1) → low ≡ n
leaf_only rule low n p a b c d = elim (cases_order low n) [
  | inl e ↦ e
  | inr h ↦ elim h [ inl l ↦ absurd (omega (arith, size_le rule (low + 1) n (omega arith))) | inr g ↦ absurd (omega (arith, size_le rule (n + 1) low (omega arith))) ]
]

-- a leaf count that has no more nodes than the greatest one is within the limit
pub leaves_within : (rule : List ℕ → List ℕ) (max_leaves n : ℕ) → size rule n ≤ size rule max_leaves → n ≤ max_leaves
leaves_within rule max_leaves n l = elim (cases_lt max_leaves n) [ inl b ↦ absurd (omega (arith, size_lt rule max_leaves n b)) | inr a ↦ a ]

-- half as many leaves as nodes have no more nodes
pub size_of_half : (rule : List ℕ → List ℕ) (nodes : ℕ) → size rule (nodes / 2) ≤ nodes
size_of_half rule nodes = omega (arith, size_peaks rule (nodes / 2))

-- with 32 leaves more, or with the most leaves, one more leaf has more nodes, since there are at most 64 peaks
pub size_past_half : (rule : List ℕ → List ℕ) (max_leaves max_nodes : ℕ) → IsLawful rule max_leaves max_nodes → (nodes : ℕ) → nodes ≤ max_nodes
    → nodes < size rule (min (nodes / 2 + 32) max_leaves + 1)
size_past_half rule max_leaves max_nodes law nodes l = elim (cases_lt max_leaves (nodes / 2 + 33)) [
  | inl b ↦
      let last : min (nodes / 2 + 32) max_leaves + 1 ≡ suc max_leaves = omega (arith, min-eq_right {n = max_leaves} {m = nodes / 2 + 32} (omega (arith, b))) in
      rw last (omega (arith, law.size_at_limit, size_step rule max_leaves))
  | inr a ↦
      let within : min (nodes / 2 + 32) max_leaves + 1 ≡ nodes / 2 + 33 = omega (arith, min-eq_left {n = nodes / 2 + 32} {m = max_leaves} (omega (arith, a))) in
      rw within (omega (arith, size_peaks rule (nodes / 2 + 33), law.at_most_64_peaks (nodes / 2 + 33) a))
]

-- the test that a leaf count found by a search has that many nodes
pub size_tested : (rule : List ℕ → List ℕ) (max_leaves low count nodes p : ℕ) → nodes ≡ p → low ≤ max_leaves → count ≡ size rule low → size rule low ≤ nodes → nodes < size rule (low + 1) →
    (eqb count nodes ≡ true → IsSize rule max_leaves p) × (IsSize rule max_leaves p → eqb count nodes ≡ true)
size_tested rule max_leaves low count nodes p same l e a b = (
  λ t. (low, l, sym e ∙ eqb-true count nodes t ∙ same),
  λ s. eq-eqb count nodes (e ∙ ap (size rule) (sym (size_only rule low s.0 nodes a b (s.2 ∙ sym same))) ∙ s.2 ∙ sym same),
)

-- the size of the greatest leaf count that has no more nodes than that
pub size_nearest : (rule : List ℕ → List ℕ) (max_leaves low p : ℕ) → low ≤ max_leaves → size rule low ≤ p → p < size rule (low + 1) → IsNearestSize rule max_leaves p (size rule low)
size_nearest rule max_leaves low p l a b = record {
  valid = (low, l, refl);
  within = a;
  greatest = λ r s m. elim (cases_lt low s.0) [
    | inl g ↦ absurd (omega (arith, size_le rule (low + 1) s.0 (omega (arith, g)), s.2))
    | inr g ↦ omega (arith, size_le rule s.0 low g, s.2)
  ];
}

mmr_height_below : (n p : ℕ) → n < 4611686018427387904 → size mmr_merges n ≤ p → p < size mmr_merges (n + 1) → (p - size mmr_merges n < 63) × IsHeightAt mmr_merges p (p - size mmr_merges n)
mmr_height_below n p l a b =
    let k : ℕ = p - size mmr_merges n in
    let at : size mmr_merges n + k ≡ p = omega arith in
    let next : n + 1 ≡ suc n = omega arith in
    let up : p < size mmr_merges (suc n) = subst (λ (m : ℕ). p < size mmr_merges m) next b in
    let t = mmr_parents n in
    let count : length (parent_heights mmr_merges n) ≡ t.0 = ap length t.1 ∙ length-range_with_len 1 t.0 in
    let below : k < suc t.0 = omega (arith, size_suc mmr_merges (suc n) (mmr_equal (suc n)) n (omega arith)) in
    let low : t.0 < 63 = log_below t.0 63 (n + 1) (omega (arith, t.2.1)) (omega arith) in (
      omega arith,
      λ w x e. sym (height_at mmr_merges (suc n) (mmr_equal (suc n)) n k w x (omega arith) (omega arith) (rw at e)
          ∙ ap (λ (hs : List ℕ). slice_index (0 ∷ hs) k) t.1 ∙ get_or-range_with_len 0 (suc t.0) k 0 below ∙ omega arith),
    )

-- how far a node of the Mountain Range stands after the leaf with which it comes is its height, and it is below 63
pub mmr_height : (n p : ℕ) → p < 9223372036854775807 → n ≤ 4611686018427387904 → size mmr_merges n ≤ p → p < size mmr_merges (n + 1)
    → (p - size mmr_merges n < 63) × IsHeightAt mmr_merges p (p - size mmr_merges n)
mmr_height n p low l a b = mmr_height_below n p (below n l a) a b
  where
    below : (n : ℕ) → n ≤ 4611686018427387904 → size mmr_merges n ≤ p → n < 4611686018427387904
    below n l a = elim (cases_lt n 4611686018427387904) [
      | inl h ↦ h
      | inr g ↦ absurd (omega (arith, size_le mmr_merges 4611686018427387904 n g, mmr_lawful.size_at_limit))
    ]
